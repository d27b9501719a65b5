-- What the events of a row step say of its phases, before and after; those of a tick and of a
-- trace, row by row. Assumes nothing.
use Prim.Native.Nat.{ℕ, zero, suc, ◌+◌, ◌≤◌, ◌<◌}
use native.Mathlib.Omega.{arith}
use mathlib.Core.Bool.{Bool, true, false, ◌&&◌, not, cond, true≢false}
use mathlib.Core.List.{List, [], ◌∷◌}
use mathlib.Core.Logic.{◌⊎◌, inl, inr}
use mathlib.Core.Path.{◌≡◌, refl, sym, ap, ◌∙◌}
use lib.Dec.{leb, ltb}
use lib.ListN.{length, get_or}
use Rattle.letters.specs.Letter.{bit}
use Rattle.table.specs.Row.{holds, tse, ase, ac, aee, no_row}
use Rattle.table.specs.declared.Row.{Row}
use Rattle.traces.specs.Trace.{run}
use Rattle.step.specs.declared.Phase.{Phase}
use Rattle.step.specs.declared.Phase.TheVariants.{Waiting, Trigger, Delay, Action, Broken}
use Rattle.step.specs.declared.Events.{Events}
use Rattle.step.specs.Phase.{is_broken}
use Rattle.step.specs.Valid.{is_waiting}
use Rattle.step.specs.Step.{action_check, delay_check, trigger_check, start_check, step_row}
use Rattle.step.specs.Events.{events_of, no_events, only_aborted, only_completed, only_broken}
use Rattle.step.specs.Events.{is_open, with_started, with_realised, with_acting}
use Rattle.step.specs.Events.{action_events, delay_events, trigger_events, start_events}
use Rattle.step.specs.Events.{row_events}
use Rattle.step.specs.Events.{tick_events, trace_events, Event, happens, times_of}
use Rattle.step.specs.Tick.{tick, table_system}
use Rattle.step.specs.Further.Happened.{OneEnd}
use Rattle.step.specs.Further.Pressed.{abort_marks}
use Rattle.step.proofs.Rows.{tick_length, tick_at}
use Rattle.step.proofs.Pressed.{trigger_done, trigger_on, abort_phase}
use Rattle.step.proofs.Pressed.{trigger_phase, trigger_events_lem}

-- What the events of a check say of the phase that it leads to, where the row was open or not.
record Ends (was : Bool) (phase : Phase) (e : Events) : Type 0 where
  pub broken : e.broken ≡ is_broken phase
  pub sums : bit e.realised + bit was
      ≡ bit e.completed + bit e.broken + bit (is_open phase)
  pub waits : is_waiting phase ≡ true → OneEnd e

-- In delay and action no trigger is realised.
record Acts (phase : Phase) (e : Events) : Type 0 where
  pub ends : Ends true phase e
  pub realised : e.realised ≡ false

-- The row goes on, or breaks.
ends_on : {was : Bool} {phase : Phase} → is_waiting phase ≡ false → is_broken phase ≡ false
    → is_open phase ≡ was → Ends was phase no_events
ends_on waits broken is = record {
  broken = sym broken;
  sums = rw is;
  waits = λ h. absurd (true≢false (sym h ∙ waits));
}

acts_on : {phase : Phase} → is_waiting phase ≡ false → is_broken phase ≡ false
    → is_open phase ≡ true → Acts phase no_events
acts_on waits broken is = record { ends = ends_on waits broken is; realised = refl }

acts_broken : Acts Broken only_broken
unfolding is_broken is_waiting is_open
acts_broken = record {
  ends = record { broken = refl; sums = refl; waits = λ h. absurd (true≢false (sym h)) };
  realised = refl;
}

module _ (row : Row) (letter : ℕ) where
  action_acts : (a : ℕ) → Acts (action_check row letter a) (action_events row letter a)
  unfolding action_check action_events is_broken is_waiting is_open
  action_acts a = go (holds row aee letter && leb row.amin a)
      (holds row ac letter && ltb a row.amax)
    where
      go : (done on : Bool) → Acts (cond done Waiting (cond on (Action (a + 1)) Broken))
          (cond done only_completed (cond on no_events only_broken))
      go true on = record {
        ends = record { broken = refl; sums = refl; waits = λ _. inr (refl, refl) };
        realised = refl;
      }
      go false true = acts_on refl refl refl
      go false false = acts_broken

  delay_acts : (d : ℕ) → Acts (delay_check row letter d) (delay_events row letter d)
  unfolding delay_check delay_events is_broken is_waiting is_open
  delay_acts d = go (holds row ase letter && leb row.lmin d) (ltb d row.lmax)
    where
      next : Acts (action_check row letter 0) (with_acting (action_events row letter 0))
      next =
          let acts = action_acts 0 in
          record {
            ends = record {
              broken = acts.ends.broken;
              sums = acts.ends.sums;
              waits = acts.ends.waits;
            };
            realised = acts.realised;
          }

      go : (done on : Bool)
          → Acts (cond done (action_check row letter 0) (cond on (Delay (d + 1)) Broken))
          (cond done (with_acting (action_events row letter 0)) (cond on no_events only_broken))
      go true on = next
      go false true = acts_on refl refl refl
      go false false = acts_broken

  -- So it is of the trigger check, where it is so of what an abort leads to.
  trigger_ends_lem : (t : ℕ) (aborted : Phase) (e : Events) → Ends false aborted e
      → Ends false (cond (trigger_done row letter t) (delay_check row letter 0)
      (cond (trigger_on row letter t) (Trigger (t + 1)) aborted))
      (cond (trigger_done row letter t) (with_realised (delay_events row letter 0))
      (cond (trigger_on row letter t) no_events e))
  unfolding is_broken is_waiting is_open
  trigger_ends_lem t aborted e ends = go (trigger_done row letter t) (trigger_on row letter t)
    where
      next : Ends false (delay_check row letter 0) (with_realised (delay_events row letter 0))
      next =
          let acts = delay_acts 0 in
          record {
            broken = acts.ends.broken;
            sums = rw acts.realised at acts.ends.sums;
            waits = acts.ends.waits;
          }

      go : (done on : Bool)
          → Ends false (cond done (delay_check row letter 0) (cond on (Trigger (t + 1)) aborted))
          (cond done (with_realised (delay_events row letter 0)) (cond on no_events e))
      go true on = next
      go false true = ends_on refl refl refl
      go false false = ends

  start_ends : Ends false (trigger_check row letter 0 Waiting)
      (trigger_events row letter 0 only_aborted)
  unfolding trigger_check trigger_events is_broken is_waiting is_open
  start_ends =
      trigger_ends_lem 0 Waiting only_aborted
      (record { broken = refl; sums = refl; waits = λ _. inl (refl, refl) })

  running_ends : (t : ℕ)
      → Ends false (step_row row letter (Trigger t)) (row_events row letter (Trigger t))
  unfolding is_broken is_waiting is_open
  running_ends t =
      rw (trigger_phase row letter t, trigger_events_lem row letter t)
      (trigger_ends_lem t (abort_phase row letter) (abort_marks row letter)
      (lapses (holds row tse letter) (holds row tse letter && trigger_on row letter 0)))
    where
      lapses : (started on : Bool)
          → Ends false (cond on (Trigger 1) Waiting)
          (events_of started false true false false false)
      lapses started true =
          record { broken = refl; sums = refl; waits = λ h. absurd (true≢false (sym h)) }
      lapses started false = record { broken = refl; sums = refl; waits = λ _. inl (refl, refl) }

  -- A row becomes broken exactly when it is not before and is after.
  pub broken_exactly : (phase : Phase) → (row_events row letter phase).broken
      ≡ (not (is_broken phase) && is_broken (step_row row letter phase))
  unfolding row_events step_row start_check start_events is_broken
  broken_exactly Waiting = go (holds row tse letter)
    where
      go : (b : Bool)
          → (cond b (with_started (trigger_events row letter 0 only_aborted)) no_events).broken
          ≡ is_broken (cond b (trigger_check row letter 0 Waiting) Waiting)
      go true = start_ends.broken
      go false = refl
  broken_exactly (Trigger t) = (running_ends t).broken
  broken_exactly (Delay d) = (delay_acts d).ends.broken
  broken_exactly (Action a) = (action_acts a).ends.broken
  broken_exactly Broken = refl

  -- Where the row waits after the tick, either nothing happened, or exactly one of aborted and
  -- completed did.
  pub waiting_after : (phase : Phase) → is_waiting (step_row row letter phase) ≡ true
      → ((is_waiting phase ≡ true) × (holds row tse letter ≡ false)
      × (row_events row letter phase ≡ no_events)) ⊎ OneEnd (row_events row letter phase)
  unfolding row_events step_row start_check start_events is_waiting
  waiting_after Waiting h = go (holds row tse letter) h
    where
      go : (b : Bool) → is_waiting (cond b (trigger_check row letter 0 Waiting) Waiting) ≡ true
          → ((true ≡ true) × (b ≡ false)
          × (cond b (with_started (trigger_events row letter 0 only_aborted)) no_events ≡ no_events))
          ⊎ OneEnd (cond b (with_started (trigger_events row letter 0 only_aborted)) no_events)
      go true h = inr (start_ends.waits h)
      go false h = inl (refl, refl, refl)
  waiting_after (Trigger t) h = inr ((running_ends t).waits h)
  waiting_after (Delay d) h = inr ((delay_acts d).ends.waits h)
  waiting_after (Action a) h = inr ((action_acts a).ends.waits h)
  waiting_after Broken h = absurd (true≢false (sym h))

  -- Realised, and open before, are completed, broken, and open after.
  pub open_sums : (phase : Phase) → let e = row_events row letter phase in
      bit e.realised + bit (is_open phase)
      ≡ bit e.completed + bit e.broken + bit (is_open (step_row row letter phase))
  unfolding row_events step_row start_check start_events is_open
  open_sums Waiting = go (holds row tse letter)
    where
      go : (b : Bool)
          → let e = cond b (with_started (trigger_events row letter 0 only_aborted)) no_events in
          bit e.realised + bit false
          ≡ bit e.completed + bit e.broken
          + bit (is_open (cond b (trigger_check row letter 0 Waiting) Waiting))
      go true = start_ends.sums
      go false = refl
  open_sums (Trigger t) = (running_ends t).sums
  open_sums (Delay d) = (delay_acts d).ends.sums
  open_sums (Action a) = (action_acts a).ends.sums
  open_sums Broken = refl

-- Each row has the events of its own step; a phase without a row has none.
pub events_length : (rows : List Row) (letter : ℕ) (phases : List Phase)
    → length (tick_events rows letter phases) ≡ length phases
unfolding tick_events
events_length [] letter [] = refl
events_length [] letter (phase ∷ phases) = ap suc (events_length [] letter phases)
events_length (row ∷ rows) letter [] = refl
events_length (row ∷ rows) letter (phase ∷ phases) = ap suc (events_length rows letter phases)

pub events_at : (rows : List Row) (letter : ℕ) (phases : List Phase) (i : ℕ) → i < length rows
    → i < length phases
    → get_or (tick_events rows letter phases) i no_events
    ≡ row_events (get_or rows i no_row) letter (get_or phases i Waiting)
unfolding tick_events
events_at [] letter phases i h k = absurd (omega arith)
events_at (row ∷ rows) letter [] i h k = absurd (omega arith)
events_at (row ∷ rows) letter (phase ∷ phases) zero h k = refl
events_at (row ∷ rows) letter (phase ∷ phases) (suc i) h k =
    events_at rows letter phases i (omega arith) (omega arith)

pub events_beyond : (rows : List Row) (letter : ℕ) (phases : List Phase) (i : ℕ) → length rows ≤ i
    → get_or (tick_events rows letter phases) i no_events ≡ no_events
unfolding tick_events
events_beyond [] letter [] i h = refl
events_beyond [] letter (phase ∷ phases) zero h = refl
events_beyond [] letter (phase ∷ phases) (suc i) h = events_beyond [] letter phases i (omega arith)
events_beyond (row ∷ rows) letter [] i h = refl
events_beyond (row ∷ rows) letter (phase ∷ phases) zero h = absurd (omega arith)
events_beyond (row ∷ rows) letter (phase ∷ phases) (suc i) h =
    events_beyond rows letter phases i (omega arith)

-- A trace has one list of events for each tick, and none happens more often than there are ticks.
pub trace_events_lem : (rows : List Row) (phases : List Phase) (w : List ℕ)
    → length (trace_events rows phases w) ≡ length w
unfolding trace_events
trace_events_lem rows phases [] = refl
trace_events_lem rows phases (l ∷ w) = ap suc (trace_events_lem rows (tick rows l phases) w)

pub times_few : (event : Event) (i : ℕ) (ticks : List (List Events))
    → times_of event i ticks ≤ length ticks
unfolding times_of
times_few event i [] = omega arith
times_few event i (events ∷ more) = go (happens (get_or events i no_events) event)
    (times_few event i more)
  where
    go : (b : Bool) → times_of event i more ≤ length more
        → bit b + times_of event i more ≤ suc (length more)
    go true h = omega arith
    go false h = omega arith

-- Along a trace: realised, and open before it, are completed, broken, and open after it.
pub trace_sums : (s : ℕ) (rows : List Row) (phases : List Phase) (w : List ℕ) (i : ℕ)
    → i < length rows → i < length phases
    → let ticks = trace_events rows phases w in
    times_of Event.realised i ticks + bit (is_open (get_or phases i Waiting))
    ≡ times_of Event.completed i ticks + times_of Event.broken i ticks
    + bit (is_open (get_or (run (table_system s rows) phases w) i Waiting))
unfolding trace_events times_of run
trace_sums s rows phases [] i h k = refl
trace_sums s rows phases (l ∷ w) i h k =
    let first = open_sums (get_or rows i no_row) l (get_or phases i Waiting) in
    let others = trace_sums s rows (tick rows l phases) w i h (rw (tick_length rows l phases) k) in
    rw (events_at rows l phases i h k)
    (omega (arith, first, rw (tick_at rows l phases i h k) at others))
