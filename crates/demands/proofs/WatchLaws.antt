-- Calls of the watcher, one after the other. Assumes nothing.
use Prim.Native.Nat.{ℕ, suc, ◌<◌, ◌≤◌}
use native.Mathlib.Nat.{lt_of_lt_of_le}
use native.Mathlib.Omega.{arith}
use mathlib.Core.Bool.{true, true≢false}
use mathlib.Core.List.{List, [], ◌∷◌, map}
use mathlib.Core.Path.{◌≡◌, refl, sym, ap, ◌∙◌}
use borrow.Author.Tests.{lt-ltb}
use lib.ListN.{length, get_or}
use Rattle.letters.specs.Letter.{letters, letter_valid}
use Rattle.letters.proofs.Lists.{and_right}
use Rattle.table.specs.Row.{no_row}
use Rattle.table.specs.Valid.{rows_valid}
use Rattle.table.proofs.Laws.{rows_valid_count, rows_valid_rows}
use Rattle.table.specs.declared.Row.{Row}
use Rattle.traces.specs.Trace.{AllBelow, run}
use Rattle.traces.proofs.Runs.{broken_run}
use Rattle.step.specs.declared.Phase.{Phase}
use Rattle.step.specs.declared.Phase.TheVariants.{Waiting}
use Rattle.step.specs.Phase.{code_of}
use Rattle.step.specs.Further.Codes.{phase_of}
use Rattle.step.specs.Tick.{tick, some_broken, row_system, table_system}
use Rattle.step.specs.Valid.{phases_valid, phase_valid}
use Rattle.step.proofs.States.{phases_back}
use Rattle.step.proofs.Rows.{tick_valid}
use Rattle.step.proofs.Systems.{table_lawful, run_at, run_valid}
use Rattle.pass.specs.declared.Ticked.{Ticked}
use Rattle.pass.specs.declared.Watch.{Watch}
use Rattle.pass.specs.Watch.{phases_of, watch_of, start_watch}
use Rattle.pass.specs.Answer.{first_number, answered, refused_with, moved_on, tick_answer}
use Rattle.table.specs.Further.Numbers.{number_of, line_of}
use Rattle.pass.proofs.Records.{phases_watch}
use Rattle.pass.proofs.Starts.{start_valid, number_is, line_is, refused_is}
use Rattle.demands.specs.Watching.{record_after, CallValid}

module _ (s : ℕ) (rows : List Row) where
  -- A call with an accepted record and a letter of the table is taken, and moves the record on.
  pub tick_taken : (watch : Watch) (l : ℕ) → CallValid s rows watch → l < letters s
      → tick_answer s rows watch l ≡ moved_on rows l watch
  unfolding tick_answer answered
  tick_taken watch l ok h = rw (ok.rules, ok.state, lt-ltb l (letters s) h)

  tick_accepted : (watch : Watch) (l : ℕ) → CallValid s rows watch
      → CallValid s rows (watch_of (tick rows l (phases_of watch)))
  tick_accepted watch l ok = record {
    rules = ok.rules;
    state = rw phases_watch (tick_valid rows l (phases_of watch) ok.state);
  }

  -- The record after a trace is the phases that the step rules give.
  pub after_run : (watch : Watch) (w : List ℕ) → CallValid s rows watch → AllBelow (letters s) w
      → phases_of (record_after s rows watch w) ≡ run (table_system s rows) (phases_of watch) w
  unfolding record_after run
  after_run watch [] ok h = refl
  after_run watch (l ∷ w) ok h =
      ap (λ (v : Watch). phases_of (record_after s rows v w))
      (ap (λ (t : Ticked). t.watch) (tick_taken watch l ok h.0))
      ∙ after_run (watch_of (tick rows l (phases_of watch))) w (tick_accepted watch l ok) h.1
      ∙ ap (λ (ps : List Phase). run (table_system s rows) ps w)
      (phases_watch (tick rows l (phases_of watch)))

  -- What the watcher made from an accepted record is accepted.
  pub after_accepted : (watch : Watch) (w : List ℕ) → CallValid s rows watch
      → AllBelow (letters s) w → CallValid s rows (record_after s rows watch w)
  after_accepted watch w ok h = record {
    rules = ok.rules;
    state = rw (after_run watch w ok h) (run_valid s rows (phases_of watch) w ok.state);
  }

  pub after_broken : (watch : Watch) (w : List ℕ) → CallValid s rows watch → AllBelow (letters s) w
      → some_broken (phases_of watch) ≡ true → some_broken (phases_of (record_after s rows watch w))
      ≡ true
  after_broken watch w ok h b =
      rw (after_run watch w ok h) (broken_run (table_system s rows) (table_lawful s rows)
      (phases_of watch) w b)

  -- The codes of an accepted record lead back to its phases.
  pub codes_back : (watch : Watch) → CallValid s rows watch
      → map phase_of (map code_of (phases_of watch)) ≡ phases_of watch
  codes_back watch ok = phases_back s rows (phases_of watch) (rows_valid_rows s rows ok.rules)
      ok.state

-- A record that number 18 lets by has a phase for each row.
pub fits_long : (rows : List Row) (phases : List Phase) → phases_valid rows phases ≡ true
    → length rows ≤ length phases
unfolding phases_valid
fits_long [] phases h = omega arith
fits_long (row ∷ rows) [] h = absurd (true≢false (sym h))
fits_long (row ∷ rows) (phase ∷ phases) h =
    let rest = fits_long rows phases
    (and_right (phase_valid row phase) (phases_valid rows phases) h) in
    omega arith

-- The record before the first tick is accepted with every rules that are.
pub start_accepted : (s : ℕ) (rows : List Row) → rows_valid s rows ≡ true
    → CallValid s rows start_watch
start_accepted s rows h = record {
  rules = h;
  state = start_valid rows (rows_valid_count s rows h).1;
}

module _ (s : ℕ) (rows : List Row) (watch : Watch) (l : ℕ) where
  abbrev done : Ticked
  done = moved_on rows l watch

  abbrev first : ℕ
  first = first_number (rows_valid s rows) (phases_valid rows (phases_of watch)) (letter_valid s l)

  pub answer_number : number_of (tick_answer s rows watch l).reply.outcome ≡ first
  unfolding tick_answer
  answer_number = number_is done (refused_with watch) first
      (λ (t : Ticked). number_of t.reply.outcome) refl (λ k. refl)

  pub answer_line : line_of (tick_answer s rows watch l).reply.outcome ≡ 0
  unfolding tick_answer
  answer_line = line_is done (refused_with watch) first
      (λ (t : Ticked). line_of t.reply.outcome) refl (λ k. refl)

  -- the record is kept, and nothing happened
  pub answer_refused : (n : ℕ) → number_of (tick_answer s rows watch l).reply.outcome ≡ suc n
      → tick_answer s rows watch l ≡ refused_with watch first
  unfolding tick_answer
  answer_refused n e = refused_is done (refused_with watch) first n (sym answer_number ∙ e)

-- After a trace each row is where its own system is.
pub row_follows : (s : ℕ) (rows : List Row) (watch : Watch) (w : List ℕ) → CallValid s rows watch
    → AllBelow (letters s) w → (i : ℕ) → i < length rows
    → get_or (phases_of (record_after s rows watch w)) i Waiting
    ≡ run (row_system s (get_or rows i no_row)) (get_or (phases_of watch) i Waiting) w
row_follows s rows watch w ok h i low =
    rw (after_run s rows watch w ok h)
    (run_at s rows (phases_of watch) w i low
    (lt_of_lt_of_le low (fits_long rows (phases_of watch) ok.state)))
