-- What the code's pass over the rows does, step by step. `Answer` says what is right.
use Rattle.std.specs.Prelude.{ℕ, ◌+◌, ◌&&◌, cond, List, [], ◌∷◌, ltb, get_or, set, drop}
use Rattle.letters.specs.Letter.{letter_valid}
use Rattle.letters.specs.Lists.{every}
use Rattle.table.specs.Limits.{most_rows}
use Rattle.table.specs.Row.{row_valid}
use Rattle.table.specs.Valid.{counts_allowed}
use Rattle.table.specs.declared.Row.{Row}
use Rattle.step.specs.declared.Phase.{Phase}
use Rattle.step.specs.declared.Phase.TheVariants.{Waiting}
use Rattle.std.specs.Prelude.{Ok}
use Rattle.step.specs.Step.{step_row}
use Rattle.step.specs.Events.{row_events}
use Rattle.step.specs.Valid.{phase_valid, is_waiting}
use Rattle.pass.specs.declared.Ticked.{Ticked}
use Rattle.pass.specs.declared.Watch.{Watch}
use Rattle.pass.specs.declared.Pass.{Pass}
use Rattle.pass.specs.Watch.{phases_of}
use Rattle.pass.specs.Answer.{first_number, answered, nothing_happened, refused_with}

-- The phase of row i.
abbrev pub phase_at : Watch → ℕ → Phase
phase_at watch i = get_or watch.slots i Waiting

unfoldable pub begun : ℕ → ℕ → Watch → ℕ → Pass
begun s n watch letter = record {
  signals = s;
  letter = letter;
  rules = counts_allowed s n;
  phases = every is_waiting (drop n (phases_of watch));
  watch = watch;
  events = nothing_happened;
}

-- Row i moved on, in the state.
abbrev pub moved : Watch → ℕ → Row → ℕ → Watch
moved watch i row letter = record {
  slots = set watch.slots i (step_row row letter (phase_at watch i));
}

unfoldable pub row_taken : Pass → ℕ → Row → Pass
row_taken pass i row = cond (ltb i most_rows) (record {
  signals = pass.signals;
  letter = pass.letter;
  rules = pass.rules && row_valid pass.signals row;
  phases = pass.phases && phase_valid row (phase_at pass.watch i);
  watch = moved pass.watch i row pass.letter;
  events = set pass.events i (row_events row pass.letter (phase_at pass.watch i));
}) pass

unfoldable pub pass_over : List Row → ℕ → Pass → Pass
pass_over [] i pass = pass
pass_over (row ∷ rows) i pass = pass_over rows (i + 1) (row_taken pass i row)

-- The state of a pass, with what happened.
abbrev pub passed : Pass → Ticked
passed pass =
    record { reply = record { outcome = Ok tt; events = pass.events }; watch = pass.watch }

unfoldable pub finished : Pass → Watch → Ticked
finished pass watch =
    answered (first_number pass.rules pass.phases (letter_valid pass.signals pass.letter))
    (passed pass) (refused_with watch)
