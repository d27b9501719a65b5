-- What is promised of the watcher, each with its proof. Assumes nothing.
use Prim.Native.Nat.{ℕ, suc, ◌+◌, ◌<◌, ◌≤◌}
use mathlib.Core.Bool.{true}
use mathlib.Core.List.{List, map}
use mathlib.Core.Path.{◌≡◌, sym, ap, ◌∙◌}
use lib.ListN.{length, get_or, replicate}
use Rattle.letters.specs.Letter.{letters, letter_valid, bit}
use Rattle.letters.specs.Lists.{every}
use Rattle.table.specs.Limits.{most_rows}
use Rattle.table.specs.Row.{no_row}
use Rattle.table.specs.Valid.{rows_valid, table_valid, rows_of}
use Rattle.table.specs.declared.Row.{Row}
use Rattle.table.specs.declared.Table.{Table}
use Rattle.table.proofs.Laws.{rows_valid_rows}
use Rattle.traces.specs.Trace.{AllBelow, run}
use Rattle.step.specs.declared.Phase.{Phase}
use Rattle.step.specs.declared.Phase.TheVariants.{Waiting}
use Rattle.step.specs.Phase.{code_of, is_broken}
use Rattle.step.specs.Events.{Event, times_of, is_open}
use Rattle.step.specs.Further.Codes.{phase_of}
use Rattle.step.specs.Tick.{some_broken, row_system, table_system}
use Rattle.step.specs.Valid.{phases_valid}
use Rattle.step.specs.Further.Codes.{codes_valid}
use Rattle.step.proofs.States.{codes_valid_lem, codes_phases}
use Rattle.step.proofs.Systems.{row_lawful}
use Rattle.traces.proofs.Runs.{broken_run}
use Rattle.std.specs.Prelude.{Ok}
use Rattle.watcher.specs.declared.Played.{Played}
use Rattle.pass.specs.declared.Ticked.{Ticked}
use Rattle.pass.specs.declared.Watch.{Watch}
use Rattle.pass.specs.Watch.{phases_of, watch_of, start_watch}
use Rattle.pass.specs.Answer.{first_number, nothing_happened, tick_answer}
use Rattle.watcher.specs.Counts.{count_of, no_counts}
use Rattle.watcher.specs.Inner.Tables.{table_tick, table_play}
use Rattle.table.specs.Further.Numbers.{number_of, line_of}
use Rattle.pass.proofs.Records.{watch_phases, phases_watch}
use Rattle.pass.proofs.Starts.{start_phase}
use Rattle.demands.specs.Watching.{record_after, events_over, CallValid}
use Rattle.demands.proofs.WatchLaws as Laws
use Rattle.demands.proofs.WatchCalls as Calls

-- Numbers 17 and 18 let the record by that the watcher starts with.
pub start_accepted : (s : ℕ) (rows : List Row) → rows_valid s rows ≡ true
    → CallValid s rows start_watch
start_accepted = Laws.start_accepted

module _ (s : ℕ) (rows : List Row) (watch : Watch) (ok : CallValid s rows watch) (w : List ℕ)
    (h : AllBelow (letters s) w) where
  -- All rows together, as the system that the search explores (row by row: `rows_follow`).
  pub state_follows : phases_of (record_after s rows watch w)
      ≡ run (table_system s rows) (phases_of watch) w
  state_follows = Laws.after_run s rows watch w ok h

  -- What the watcher made is accepted: number 18 never fires on it, and no tick of a right letter
  -- is refused.
  pub stays_accepted : CallValid s rows (record_after s rows watch w)
  stays_accepted = Laws.after_accepted s rows watch w ok h

  pub never_refused : (l : ℕ) → l < letters s
      → (tick_answer s rows (record_after s rows watch w) l).reply.outcome ≡ Ok tt
  never_refused l low = ap (λ (t : Ticked). t.reply.outcome)
      (Laws.tick_taken s rows (record_after s rows watch w) l stays_accepted low)

  -- "Broken stays broken": a row, and so the trace.
  pub row_stays_broken : (i : ℕ) → i < length rows → is_broken (get_or (phases_of watch) i Waiting)
      ≡ true
      → is_broken (get_or (phases_of (record_after s rows watch w)) i Waiting) ≡ true
  row_stays_broken i low b = rw (Laws.row_follows s rows watch w ok h i low)
      (broken_run (row_system s (get_or rows i no_row)) (row_lawful s (get_or rows i no_row)) _ w b)

  pub stays_broken : some_broken (phases_of watch) ≡ true
      → some_broken (phases_of (record_after s rows watch w)) ≡ true
  stays_broken b = Laws.after_broken s rows watch w ok h b

  -- Codes keep within 1 to Tmax, Lmax and Amax of their rows.
  pub codes_keep : codes_valid rows (map code_of (phases_of (record_after s rows watch w))) ≡ true
  codes_keep = codes_valid_lem s rows (phases_of (record_after s rows watch w))
      (rows_valid_rows s rows ok.rules) stays_accepted.state

-- Demand 2 in its plain form: "All start waiting", and after every trace from the start each row is
-- in the phase that the step rules give from waiting.
pub from_start : (s : ℕ) (rows : List Row) (w : List ℕ) → rows_valid s rows ≡ true
    → AllBelow (letters s) w → (i : ℕ) → i < length rows
    → get_or (phases_of (record_after s rows start_watch w)) i Waiting
    ≡ run (row_system s (get_or rows i no_row)) Waiting w
from_start s rows w rules h i low =
    Laws.row_follows s rows start_watch w (start_accepted s rows rules) h i low
    ∙ ap (λ (p : Phase). run (row_system s (get_or rows i no_row)) p w) (start_phase i)

-- Number 18 "in codes": of codes of one byte, the record that they give passes exactly when the
-- codes do.
pub codes_accepted : (s : ℕ) (rows : List Row) (codes : List ℕ) → rows_valid s rows ≡ true
    → AllBelow 256 codes
    → phases_valid rows (phases_of (watch_of (map phase_of codes))) ≡ codes_valid rows codes
codes_accepted s rows codes rules low =
    ap (phases_valid rows) (phases_watch (map phase_of codes))
    ∙ sym (codes_phases s rows codes (rows_valid_rows s rows rules) low)

-- A record's codes determine its phases.
pub codes_determine : (s : ℕ) (rows : List Row) (one other : Watch) → CallValid s rows one
    → CallValid s rows other
    → map code_of (phases_of one) ≡ map code_of (phases_of other) → one ≡ other
codes_determine s rows one other p q e =
    sym (watch_phases one) ∙ ap watch_of
    (sym (Laws.codes_back s rows one p) ∙ ap (map phase_of) e ∙ Laws.codes_back s rows other q)
    ∙ watch_phases other

-- Demand 1: a call is refused "by the first fitting number", with line 0, and then keeps the
-- record; nothing happened then.
module _ (s : ℕ) (rows : List Row) (watch : Watch) (l : ℕ) where
  pub first_number_lem : number_of (tick_answer s rows watch l).reply.outcome
      ≡ first_number (rows_valid s rows) (phases_valid rows (phases_of watch)) (letter_valid s l)
  first_number_lem = Laws.answer_number s rows watch l

  pub no_line : line_of (tick_answer s rows watch l).reply.outcome ≡ 0
  no_line = Laws.answer_line s rows watch l

  module _ (n : ℕ) (is : number_of (tick_answer s rows watch l).reply.outcome ≡ suc n) where
    pub refused_keeps : (tick_answer s rows watch l).watch ≡ watch
    refused_keeps = ap (λ (t : Ticked). t.watch) (Laws.answer_refused s rows watch l n is)

    pub refused_none : (tick_answer s rows watch l).reply.events ≡ nothing_happened
    refused_none = ap (λ (t : Ticked). t.reply.events) (Laws.answer_refused s rows watch l n is)

-- The same of the calls with a table value: of one that 17 lets by a tick is that of its rows, and
-- a trace that is played gives the record after one call for each letter, and how often each event
-- happened at these calls.
module _ (table : Table) (watch : Watch) where
  pub tick_as_rows : (l : ℕ) → table_valid table ≡ true
      → table_tick table watch l ≡ tick_answer table.signals (rows_of table) watch l
  tick_as_rows = Calls.tick_as_rows table watch

  module _ (w : List ℕ) (passes : table_valid table ≡ true)
      (fits : phases_valid (rows_of table) (phases_of watch) ≡ true)
      (low : AllBelow (letters table.signals) w) where
    pub played : ((table_play table watch w).outcome ≡ Ok tt)
        × ((table_play table watch w).watch ≡ record_after table.signals (rows_of table) watch w)
    played = (
      Calls.play_taken table watch w passes fits low,
      Calls.play_follows table watch w passes fits low,
    )

    pub counted : (i : ℕ) → i < most_rows → (event : Event)
        → count_of (get_or (table_play table watch w).counts i no_counts) event
        ≡ times_of event i (events_over table.signals (rows_of table) watch w)
    counted = Calls.play_counts table watch w passes fits low

    -- No count exceeds the trace's length.
    pub counted_most : (i : ℕ) → i < most_rows → (event : Event)
        → count_of (get_or (table_play table watch w).counts i no_counts) event ≤ length w
    counted_most = Calls.play_most table watch w passes fits low

    -- Realised, and open before the trace, are completed, broken, and open after it.
    pub counted_sums : (i : ℕ) → i < length (rows_of table)
        → let counts = get_or (table_play table watch w).counts i no_counts in
        counts.realised + bit (is_open (get_or (phases_of watch) i Waiting))
        ≡ counts.completed + counts.broken
        + bit (is_open (get_or (phases_of (table_play table watch w).watch) i Waiting))
    counted_sums = Calls.play_sums table watch w passes fits low

  module _ (l : ℕ) where
    pub tick_number : number_of (table_tick table watch l).reply.outcome
        ≡ first_number (table_valid table) (phases_valid (rows_of table) (phases_of watch))
        (letter_valid table.signals l)
    tick_number = Calls.tick_number table watch l

    pub tick_line : line_of (table_tick table watch l).reply.outcome ≡ 0
    tick_line = Calls.tick_line table watch l

    module _ (n : ℕ) (is : number_of (table_tick table watch l).reply.outcome ≡ suc n) where
      pub tick_kept : (table_tick table watch l).watch ≡ watch
      tick_kept = ap (λ (t : Ticked). t.watch) (Calls.tick_refused table watch l n is)

      pub tick_none : (table_tick table watch l).reply.events ≡ nothing_happened
      tick_none = ap (λ (t : Ticked). t.reply.events) (Calls.tick_refused table watch l n is)

  module _ (w : List ℕ) where
    pub play_number : number_of (table_play table watch w).outcome
        ≡ first_number (table_valid table) (phases_valid (rows_of table) (phases_of watch))
        (every (letter_valid table.signals) w)
    play_number = Calls.play_number table watch w

    pub play_line : line_of (table_play table watch w).outcome ≡ 0
    play_line = Calls.play_line table watch w

    module _ (n : ℕ) (is : number_of (table_play table watch w).outcome ≡ suc n) where
      pub play_kept : (table_play table watch w).watch ≡ watch
      play_kept = ap (λ (p : Played). p.watch) (Calls.play_refused table watch w n is)

      pub play_none : (table_play table watch w).counts ≡ replicate most_rows no_counts
      play_none = ap (λ (p : Played). p.counts) (Calls.play_refused table watch w n is)
