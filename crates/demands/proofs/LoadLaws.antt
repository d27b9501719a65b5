-- The totals of a run, by the calls of the watcher. Assumes nothing.
use Prim.Native.Nat.{ℕ, ◌<◌, ◌≤◌}
use native.Mathlib.Nat.{lt_of_lt_of_le}
use native.Mathlib.Omega.{arith}
use mathlib.Core.Bool.{true}
use mathlib.Core.List.{List, [], ◌∷◌}
use mathlib.Core.Logic.{◌↔◌}
use mathlib.Core.Path.{◌≡◌, refl, sym, ap, ◌∙◌}
use lib.ListN.{length, get_or}
use Rattle.letters.specs.Letter.{bit}
use Rattle.table.specs.Row.{no_row}
use Rattle.table.specs.Valid.{table_valid, rows_of}
use Rattle.std.specs.Prelude.{Ok}
use Rattle.table.specs.declared.Row.{Row}
use Rattle.table.specs.declared.Table.{Table}
use Rattle.table.proofs.Laws.{table_valid_rows}
use Rattle.traces.specs.Trace.{run}
use Rattle.step.specs.declared.Phase.{Phase}
use Rattle.step.specs.declared.Phase.TheVariants.{Waiting, Trigger, Delay, Action, Broken}
use Rattle.step.specs.Events.{trace_events, Event, times_of, is_open}
use Rattle.step.specs.Phase.{is_broken}
use Rattle.step.specs.Tick.{row_system}
use Rattle.pass.specs.Watch.{phases_of, start_watch}
use Rattle.pass.proofs.Starts.{start_phase}
use Rattle.load.specs.declared.Ran.{Ran}
use Rattle.load.specs.Figures.{Totals}
use Rattle.load.specs.Load.{load_of, times_in, totals_of, no_totals, longest_run, run_answer}
use Rattle.load.specs.Further.Balance.{Open}
use Rattle.load.specs.Further.Balance.Open.{delay, action}
use Rattle.load.proofs.Letters.{load_below}
use Rattle.load.proofs.RowTotals.{breaks_once, times_alone}
use Rattle.load.proofs.Runs.{run_taken, run_at}
use Rattle.demands.specs.Watching.{record_after, events_over, CallValid}
use Rattle.demands.proofs.WatchCalls.{events_over_lem}
use Rattle.demands.proofs.WatchLaws.{start_accepted, row_follows, fits_long}

-- What is open is counted as 1.
open_one : {phase : Phase} → Open phase → bit (is_open phase) ≡ 1
unfolding is_open
open_one (delay d) = refl
open_one (action a) = refl

one_open : (phase : Phase) → bit (is_open phase) ≡ 1 → Open phase
unfolding is_open
one_open Waiting e = absurd (omega arith)
one_open (Trigger t) e = absurd (omega arith)
one_open (Delay d) e = delay d
one_open (Action a) e = action a
one_open Broken e = absurd (omega arith)

-- A run that is taken: one call of the watcher for each letter.
module _ (table : Table) (start ticks : ℕ) (passes : table_valid table ≡ true)
    (few : ticks ≤ longest_run) where
  abbrev s : ℕ
  s = table.signals

  abbrev rows : List Row
  rows = rows_of table

  abbrev w : List ℕ
  w = load_of s start ticks

  pub run_accepted : (run_answer table start ticks).outcome ≡ Ok tt
  run_accepted = ap (λ (r : Ran). r.outcome) (run_taken table start ticks passes few)

  ok : CallValid s rows start_watch
  ok = start_accepted s rows (table_valid_rows table passes)

  module _ (i : ℕ) (used : i < length rows) where
    abbrev row : Row
    row = get_or rows i no_row

    abbrev totals_at : Totals
    totals_at = get_or (run_answer table start ticks).totals i no_totals

    abbrev last : Phase
    last = get_or (phases_of (record_after s rows start_watch w)) i Waiting

    total_is : totals_at ≡ totals_of s row w
    total_is = run_at table start ticks passes few i used

    times_called : (event : Event)
        → times_in event row w ≡ times_of event i (events_over s rows start_watch w)
    times_called event = sym (
        ap (times_of event i) (events_over_lem s rows start_watch w ok (load_below s start ticks))
        ∙ times_alone event rows (phases_of start_watch) w i used
        (lt_of_lt_of_le used (fits_long rows (phases_of start_watch) ok.state))
        ∙ ap (λ (p : Phase). times_of event 0 (trace_events (row ∷ []) (p ∷ []) w)) (start_phase i))

    last_is : run (row_system s row) Waiting w ≡ last
    last_is = sym (row_follows s rows start_watch w ok (load_below s start ticks) i used
        ∙ ap (λ (p : Phase). run (row_system s row) p w) (start_phase i))

    pub run_counts : let events = events_over s rows start_watch w in
        (totals_at.realised ≡ times_of Event.realised i events)
        × (totals_at.completed ≡ times_of Event.completed i events)
        × (totals_at.breaks ≡ times_of Event.broken i events)
    unfolding totals_of
    run_counts = rw total_is (
      times_called Event.realised,
      times_called Event.completed,
      times_called Event.broken,
    )

    pub run_pending : totals_at.pending ≡ bit (is_open last)
    unfolding totals_of
    run_pending = rw (total_is, last_is)

    pub run_open : (totals_at.pending ≡ 1) ↔ Open last
    run_open = rw run_pending (one_open last, open_one)

    pub run_breaks : totals_at.breaks ≡ bit (is_broken last)
    run_breaks = rw (total_is, ← last_is) (breaks_once s row w)
