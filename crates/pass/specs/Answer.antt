-- What each call of the watcher gives.
use Rattle.std.specs.Prelude.{ℕ, zero, suc, Bool, cond, List, replicate}
use Rattle.letters.specs.Letter.{letter_valid}
use Rattle.table.specs.Limits.{most_rows}
use Rattle.table.specs.Refusal.{refused_at}
use Rattle.table.specs.Valid.{rows_valid}
use Rattle.table.specs.declared.Row.{Row}
use Rattle.std.specs.Prelude.{Ok}
use Rattle.step.specs.declared.Events.{Events}
use Rattle.step.specs.Tick.{tick}
use Rattle.step.specs.Events.{no_events, tick_events}
use Rattle.step.specs.Valid.{phases_valid}
use Rattle.pass.specs.declared.Ticked.{Ticked}
use Rattle.pass.specs.declared.Watch.{Watch}
use Rattle.pass.specs.Watch.{phases_of, watch_of}

-- The first of the numbers whose test fails, or 0: 17 for the rules, 18 for the state, 19 for the
-- letters.
abbrev pub first_number : Bool → Bool → Bool → ℕ
first_number rules state letters = cond rules (cond state (cond letters 0 19) 18) 17

-- What is answered with a number: what is done, where it is 0.
unfoldable pub answered : {A : Type 0} → ℕ → A → (ℕ → A) → A
answered zero done refused = done
answered (suc n) done refused = refused (suc n)

-- A watcher call "keeps its state when refused"; nothing happened to any row then.
abbrev pub nothing_happened : List Events
nothing_happened = replicate most_rows no_events

abbrev pub refused_with : Watch → ℕ → Ticked
refused_with watch n =
    record { reply = record { outcome = refused_at n 0; events = nothing_happened }; watch = watch }

-- All rows moved on by a letter, and what happened to each.
abbrev pub moved_on : List Row → ℕ → Watch → Ticked
moved_on rows letter watch = record {
  reply = record { outcome = Ok tt; events = tick_events rows letter (phases_of watch) };
  watch = watch_of (tick rows letter (phases_of watch));
}

-- "A watcher call tests 17 (for the signal count and rows that it is lent), 18, 19, keeps its state
-- when refused, and accepts code 255."
unfoldable pub tick_answer : ℕ → List Row → Watch → ℕ → Ticked
tick_answer s rows watch letter =
    answered
    (first_number (rows_valid s rows) (phases_valid rows (phases_of watch)) (letter_valid s letter))
    (moved_on rows letter watch) (refused_with watch)
