-- What is promised of what happens at a tick, each with its proof. Assumes nothing.
use Prim.Native.Nat.{ℕ, ◌+◌, ◌<◌, ◌≤◌}
use native.Mathlib.Nat.{lt_of_lt_of_le}
use mathlib.Core.Bool.{true, false, ◌&&◌, not, cond}
use mathlib.Core.List.{List}
use mathlib.Core.Logic.{◌⊎◌, ◌↔◌}
use mathlib.Core.Path.{◌≡◌, ap, ◌∙◌}
use lib.Dec.{leb, ltb}
use lib.ListN.{length, get_or}
use Rattle.letters.specs.Letter.{letters, bit}
use Rattle.table.specs.Row.{no_row, holds, tse, tc, tee}
use Rattle.table.specs.declared.Row.{Row}
use Rattle.traces.specs.Trace.{AllBelow, run}
use Rattle.step.specs.declared.Phase.{Phase}
use Rattle.step.specs.declared.Phase.TheVariants.{Waiting, Trigger}
use Rattle.step.specs.declared.Events.{Events}
use Rattle.step.specs.Phase.{is_broken}
use Rattle.step.specs.Valid.{phase_valid, is_waiting}
use Rattle.step.specs.Step.{delay_check, step_row}
use Rattle.step.specs.Tick.{tick, row_system}
use Rattle.step.specs.Events.{no_events, only_aborted, with_started, with_realised}
use Rattle.step.specs.Events.{delay_events, row_events, is_open}
use Rattle.step.specs.Further.Happened.{Realised, Aborted, Started, ActionStarted, Completed}
use Rattle.step.specs.Further.Happened.{OneEnd}
use Rattle.step.specs.Further.Pressed.{Restarted, TriggerStep}
use Rattle.step.proofs.Rows.{tick_at, valid_at}
use Rattle.step.proofs.RowEvents as RowEvents
use Rattle.step.proofs.Happened as Happened
use Rattle.step.proofs.Restarts as Restarts
use Rattle.pass.specs.declared.Ticked.{Ticked}
use Rattle.pass.specs.declared.Watch.{Watch}
use Rattle.pass.specs.Watch.{phases_of}
use Rattle.pass.specs.Answer.{moved_on, tick_answer}
use Rattle.pass.proofs.Records.{phases_watch}
use Rattle.demands.specs.Watching.{record_after, CallValid}
use Rattle.demands.proofs.WatchLaws.{tick_taken, after_accepted, row_follows, fits_long}

-- A call with a letter of the table, after any trace of calls from any accepted record; with the
-- empty trace, at that record itself.
module _ (s : ℕ) (rows : List Row) (start : Watch) (w : List ℕ) (l : ℕ)
    (ok : CallValid s rows start) (low : AllBelow (letters s) w) (right : l < letters s) where
  abbrev now : Watch
  now = record_after s rows start w

  abbrev call : Ticked
  call = tick_answer s rows now l

  -- What it gives for row i.
  abbrev happened : ℕ → Events
  happened i = get_or call.reply.events i no_events

  taken : call ≡ moved_on rows l now
  taken = tick_taken s rows now l (after_accepted s rows start w ok low) right

  -- An unused row has no events.
  pub unused_none : (i : ℕ) → length rows ≤ i → happened i ≡ no_events
  unused_none i beyond =
      ap (λ (t : Ticked). get_or t.reply.events i no_events) taken
      ∙ RowEvents.events_beyond rows l (phases_of now) i beyond

  module _ (i : ℕ) (used : i < length rows) where
    -- The row, and its phase before and after the call.
    abbrev row : Row
    row = get_or rows i no_row

    abbrev before : Phase
    before = get_or (phases_of now) i Waiting

    abbrev after : Phase
    after = get_or (phases_of call.watch) i Waiting

    placed : i < length (phases_of now)
    placed = lt_of_lt_of_le used
        (fits_long rows (phases_of now) (after_accepted s rows start w ok low).state)

    -- They are the events of the step rules at the phase in which the row is: that of the call
    -- itself, and that of its own system after the trace.
    pub events_right : happened i ≡ row_events row l before
    events_right =
        ap (λ (t : Ticked). get_or t.reply.events i no_events) taken
        ∙ RowEvents.events_at rows l (phases_of now) i used placed

    pub events_follow : happened i
        ≡ row_events row l (run (row_system s row) (get_or (phases_of start) i Waiting) w)
    events_follow = events_right
        ∙ ap (row_events row l) (row_follows s rows start w ok low i used)

    after_is : after ≡ step_row row l before
    after_is =
        ap (λ (t : Ticked). get_or (phases_of t.watch) i Waiting) taken
        ∙ ap (λ (ps : List Phase). get_or ps i Waiting) (phases_watch (tick rows l (phases_of now)))
        ∙ tick_at rows l (phases_of now) i used placed

    -- "Broken": exactly when the row is not broken before and is after.
    pub broken_exactly : (happened i).broken ≡ (not (is_broken before) && is_broken after)
    broken_exactly = rw (events_right, after_is) (RowEvents.broken_exactly row l before)

    -- "Trigger started": exactly when TSE holds and the row waits, or its running trigger aborts.
    pub started_exactly : ((happened i).started ≡ true) ↔ Started row l before
    started_exactly = rw events_right (Happened.started_exactly row l before)

    -- "Trigger realised", "trigger aborted", "action started", "action completed": exactly when a
    -- check that the row does finds it.
    pub realised_exactly : ((happened i).realised ≡ true) ↔ Realised row l before
    realised_exactly = rw events_right (Happened.realised_exactly row l before)

    pub aborted_exactly : ((happened i).aborted ≡ true) ↔ Aborted row l before
    aborted_exactly = rw events_right (Happened.aborted_exactly row l before)

    pub acting_exactly : ((happened i).acting ≡ true) ↔ ActionStarted row l before
    acting_exactly = rw events_right (Happened.acting_exactly row l before)

    pub completed_exactly : ((happened i).completed ≡ true) ↔ Completed row l before
    completed_exactly = rw events_right (Happened.completed_exactly row l before)

    -- Document 02, ask 4: "A trigger that is pressed again as it aborts". From a running trigger
    -- each letter leads to one of four ends, with what happened at it, and to no other;
    module _ (t : ℕ) (running : before ≡ Trigger t) where
      fits : phase_valid row (Trigger t) ≡ true
      fits = rw running at (valid_at rows (phases_of now)
          (after_accepted s rows start w ok low).state i used)

      pub trigger_step : TriggerStep row l t after (happened i)
      trigger_step = rw (events_right, after_is, running) (Restarts.trigger_step row l t fits)

      pub trigger_step_only : {phase : Phase} {e : Events} → TriggerStep row l t phase e
          → (after ≡ phase) × (happened i ≡ e)
      trigger_step_only step =
          rw (events_right, after_is, running) (Restarts.trigger_step_only row l t fits step)

      -- it is in its first tick then exactly when it began again.
      pub restarts_exactly : (after ≡ Trigger 1) ↔ Restarted row l t
      restarts_exactly = rw (after_is, running) (Restarts.restarts_exactly row l t fits)

    -- An abort realises nothing and breaks nothing, whatever a second check gives.
    pub abort_alone : (happened i).aborted ≡ true
        → ((happened i).realised ≡ false) × ((happened i).acting ≡ false)
        × ((happened i).completed ≡ false) × ((happened i).broken ≡ false)
    abort_alone = rw events_right (Happened.abort_alone row l before)

    -- "A trigger that aborts in the tick it began starts no other": one that begins at this letter
    -- does the check with 0, and no second one.
    module _ (waiting : before ≡ Waiting) where
      pub begins_as_before : after
          ≡ cond (holds row tse l)
          (cond (holds row tee l && leb row.tmin 0) (delay_check row l 0)
          (cond (holds row tc l && ltb 0 row.tmax) (Trigger 1) Waiting)) Waiting
      begins_as_before = rw (after_is, waiting) (Restarts.begins_as_before row l)

      pub begins_as_told : happened i
          ≡ cond (holds row tse l)
          (with_started (cond (holds row tee l && leb row.tmin 0)
          (with_realised (delay_events row l 0))
          (cond (holds row tc l && ltb 0 row.tmax) no_events only_aborted))) no_events
      begins_as_told = rw (events_right, waiting) (Restarts.begins_as_told row l)

    -- "Operators see a row waiting again and can't tell an abort from a completed action": it
    -- waited and nothing happened, or exactly one of the two did.
    pub waiting_after : is_waiting after ≡ true
        → ((is_waiting before ≡ true) × (holds row tse l ≡ false) × (happened i ≡ no_events))
        ⊎ OneEnd (happened i)
    waiting_after = rw (events_right, after_is) (RowEvents.waiting_after row l before)

    -- Realised, and open before, are completed, broken, and open after.
    pub open_sums : bit (happened i).realised + bit (is_open before)
        ≡ bit (happened i).completed + bit (happened i).broken + bit (is_open after)
    open_sums = rw (events_right, after_is) (RowEvents.open_sums row l before)
