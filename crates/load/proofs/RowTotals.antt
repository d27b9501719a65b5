-- A row's totals over a trace: tick by tick, how large they are, what they come to; and those of
-- all rows. Assumes nothing.
use Prim.Native.Nat.{ℕ, ◌+◌, ◌<◌, ◌≤◌}
use native.Mathlib.Decide.{dec_lt}
use native.Mathlib.Omega.{arith}
use mathlib.Core.Bool.{Bool, true, false, ◌&&◌, not}
use mathlib.Core.List.{List, [], ◌∷◌, ◌++◌}
use mathlib.Core.Path.{◌≡◌, refl, sym, ◌∙◌}
use lib.ListN.{length, get_or, replicate, length-replicate}
use lib.Seq.{ext_get_or}
use Rattle.letters.specs.Letter.{bit}
use Rattle.letters.proofs.Padding.{same_at, padded_length, padded_at, padded_beyond}
use Rattle.table.specs.Limits.{most_rows}
use Rattle.table.specs.Row.{no_row}
use Rattle.table.specs.declared.Row.{Row}
use Rattle.traces.specs.Trace.{run}
use Rattle.traces.proofs.Runs.{run_snoc}
use Rattle.step.specs.declared.Phase.{Phase}
use Rattle.step.specs.declared.Phase.TheVariants.{Waiting}
use Rattle.step.specs.Phase.{is_broken}
use Rattle.step.specs.Step.{step_row}
use Rattle.step.specs.Events.{row_events, tick_events, trace_events, Event, happens}
use Rattle.step.specs.Events.{times_of, is_open}
use Rattle.step.specs.Tick.{tick, row_system}
use Rattle.step.proofs.Rows.{step_broken, tick_length, tick_at}
use Rattle.step.proofs.RowEvents.{broken_exactly, events_at, trace_events_lem, times_few}
use Rattle.step.proofs.RowEvents.{trace_sums}
use Rattle.step.proofs.Systems.{run_at}
use Rattle.load.specs.Figures.{Totals}
use Rattle.load.specs.Load.{times_in, totals_of, no_totals, totals_over}
use Rattle.load.specs.Further.Balance.{Balanced, AtMost}
use Rattle.load.specs.Inner.Tally.{with_tick}

-- What happens to a row by itself at one tick more.
times_snoc : (event : Event) (s : ℕ) (row : Row) (phase : Phase) (w : List ℕ) (l : ℕ)
    → times_of event 0 (trace_events (row ∷ []) (phase ∷ []) (w ++ (l ∷ [])))
    ≡ times_of event 0 (trace_events (row ∷ []) (phase ∷ []) w)
    + bit (happens (row_events row l (run (row_system s row) phase w)) event)
unfolding times_of trace_events tick_events tick run
times_snoc event s row phase [] l = omega arith
times_snoc event s row phase (k ∷ w) l =
    let rest = times_snoc event s row (step_row row k phase) w l in omega (arith, rest)

module _ (s : ℕ) (row : Row) where
  totals_none : totals_of s row [] ≡ no_totals
  unfolding totals_of times_of trace_events run is_open
  totals_none = refl

  pub totals_snoc : (w : List ℕ) (l : ℕ) → let phase = run (row_system s row) Waiting w in
      totals_of s row (w ++ (l ∷ []))
      ≡ with_tick (totals_of s row w) (row_events row l phase) (step_row row l phase)
  unfolding totals_of
  totals_snoc w l = λ i. record {
    realised = times_snoc Event.realised s row Waiting w l i;
    completed = times_snoc Event.completed s row Waiting w l i;
    breaks = times_snoc Event.broken s row Waiting w l i;
    pending = bit (is_open (run_snoc (row_system s row) Waiting w l i));
  }

  -- Nothing happens more often than there are ticks.
  times_most : (event : Event) (w : List ℕ) → times_in event row w ≤ length w
  times_most event w =
      let many = trace_events_lem (row ∷ []) (Waiting ∷ []) w in
      omega (arith, many, times_few event 0 (trace_events (row ∷ []) (Waiting ∷ []) w))

  bit_most : (b : Bool) → bit b ≤ 1
  bit_most true = omega arith
  bit_most false = omega arith

  pub totals_most : (w : List ℕ) → AtMost (length w) (totals_of s row w)
  unfolding totals_of
  totals_most w = record {
    realised = times_most Event.realised w;
    completed = times_most Event.completed w;
    breaks = times_most Event.broken w;
    pending = bit_most (is_open (run (row_system s row) Waiting w));
  }

  -- "Realised equals completed plus broken plus open", for any trace.
  pub totals_balance : (w : List ℕ) → Balanced (totals_of s row w)
  unfolding totals_of is_open
  totals_balance w =
      let sums = trace_sums s (row ∷ []) (Waiting ∷ []) w 0 (omega arith) (omega arith) in
      let phase = run_at s (row ∷ []) (Waiting ∷ []) w 0 (omega arith) (omega arith) in
      omega (arith, rw phase at sums)

  -- A row breaks at most once: it is counted exactly if the row is broken at the end.
  breaks_from : (phase : Phase) (w : List ℕ)
      → times_of Event.broken 0 (trace_events (row ∷ []) (phase ∷ []) w) + bit (is_broken phase)
      ≡ bit (is_broken (run (row_system s row) phase w))
  unfolding times_of trace_events tick_events tick run
  breaks_from phase [] = omega arith
  breaks_from phase (l ∷ w) =
      let rest = breaks_from (step_row row l phase) w in
      let first = breaks_here (is_broken phase) (is_broken (step_row row l phase))
      (row_events row l phase).broken (broken_exactly row l phase) (step_broken row l phase) in
      omega (arith, rest, first)
    where
      breaks_here : (before after now : Bool) → now ≡ (not before && after)
          → (before ≡ true → after ≡ true) → bit now + bit before ≡ bit after
      breaks_here true after now e stays = rw (e, stays refl)
      breaks_here false after now e stays = rw e (omega arith)

  pub breaks_once : (w : List ℕ)
      → (totals_of s row w).breaks ≡ bit (is_broken (run (row_system s row) Waiting w))
  unfolding totals_of is_broken
  breaks_once w = omega (arith, breaks_from Waiting w)

-- A row among others has the same happen to it as by itself.
pub times_alone : (event : Event) (rows : List Row) (phases : List Phase) (w : List ℕ) (i : ℕ)
    → i < length rows → i < length phases
    → times_of event i (trace_events rows phases w)
    ≡ times_of event 0 (trace_events (get_or rows i no_row ∷ []) (get_or phases i Waiting ∷ []) w)
unfolding times_of trace_events tick_events tick
times_alone event rows phases [] i h k = refl
times_alone event rows phases (l ∷ w) i h k =
    let rest = times_alone event rows (tick rows l phases) w i h
    (rw (tick_length rows l phases) k) in
    rw (events_at rows l phases i h k) (omega (arith, rw (tick_at rows l phases i h k) at rest))

-- The totals of all rows, place by place.
module _ (s : ℕ) (rows : List Row) (w : List ℕ) where
  abbrev each : Row → Totals
  each row = totals_of s row w

  pub over_length : length rows ≤ most_rows → length (totals_over s rows w) ≡ most_rows
  unfolding totals_over
  over_length = padded_length each no_totals most_rows rows

  pub over_at : (i : ℕ) → i < length rows
      → get_or (totals_over s rows w) i no_totals ≡ totals_of s (get_or rows i no_row) w
  unfolding totals_over
  over_at = padded_at each no_totals most_rows rows no_row

  pub over_beyond : (i : ℕ) → length rows ≤ i → get_or (totals_over s rows w) i no_totals ≡ no_totals
  unfolding totals_over
  over_beyond = padded_beyond each no_totals most_rows rows

-- No letter, no totals.
pub over_none : (s : ℕ) (rows : List Row) → length rows ≤ most_rows
    → totals_over s rows [] ≡ replicate most_rows no_totals
over_none s rows few =
    ext_get_or no_totals (totals_over s rows []) (replicate most_rows no_totals)
    (over_length s rows [] few ∙ sym (length-replicate {A = Totals} most_rows no_totals))
    (λ i low. none_at i (dec_lt i (length rows)) ∙ sym (same_at no_totals most_rows i))
  where
    none_at : (i : ℕ) → Dec (i < length rows) → get_or (totals_over s rows []) i no_totals ≡ no_totals
    none_at i (yes used) = over_at s rows [] i used ∙ totals_none s (get_or rows i no_row)
    none_at i (no unused) = over_beyond s rows [] i (omega arith)
