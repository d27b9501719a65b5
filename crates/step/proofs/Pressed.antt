-- What a letter does to a running trigger, in closed form: where it aborts it begins again, or
-- waits. Assumes nothing.
use Prim.Native.Nat.{ℕ, ◌+◌}
use native.Mathlib.Omega.{arith}
use mathlib.Core.Bool.{Bool, true, false, ◌&&◌, cond, true≢false}
use mathlib.Core.Path.{◌≡◌, refl, sym, ◌∙◌}
use borrow.Author.Tests.{leb-true, le-leb}
use lib.Dec.{leb, ltb}
use Rattle.letters.proofs.Lists.{and_left, and_right}
use Rattle.table.specs.Row.{holds, tse, tc, tee}
use Rattle.table.specs.declared.Row.{Row}
use Rattle.step.specs.declared.Phase.{Phase}
use Rattle.step.specs.declared.Phase.TheVariants.{Waiting, Trigger}
use Rattle.step.specs.Step.{delay_check, trigger_check, start_check, step_row}
use Rattle.step.specs.Events.{events_of, no_events, only_aborted, with_started, with_realised}
use Rattle.step.specs.Events.{with_aborted, delay_events, trigger_events, start_events, row_events}
use Rattle.step.specs.Further.Pressed.{abort_marks}

module _ (row : Row) (letter : ℕ) where
  -- How the trigger check with t ends: the trigger is realised, or goes on, or is aborted.
  abbrev pub trigger_done : ℕ → Bool
  trigger_done t = holds row tee letter && leb row.tmin t

  abbrev pub trigger_on : ℕ → Bool
  trigger_on t = holds row tc letter && ltb t row.tmax

  -- Too early with t ticks, too early with none: a second check realises nothing.
  pub still_early : (t : ℕ) → trigger_done t ≡ false → trigger_done 0 ≡ false
  still_early t early = go (trigger_done 0) refl
    where
      go : (b : Bool) → trigger_done 0 ≡ b → b ≡ false
      go false e = refl
      go true e =
          let ends = and_left (holds row tee letter) (leb row.tmin 0) e in
          let none = leb-true row.tmin 0 (and_right (holds row tee letter) _ e) in
          let done : trigger_done t ≡ true = rw (ends, le-leb row.tmin t (omega arith)) in
          absurd (true≢false (sym done ∙ early))

  -- What an abort leads to; `abort_marks` has what happens at it.
  abbrev pub abort_phase : Phase
  abort_phase = cond (holds row tse letter && trigger_on 0) (Trigger 1) Waiting

  start_phase : trigger_done 0 ≡ false → start_check row letter ≡ abort_phase
  unfolding start_check trigger_check
  start_phase early = rw early (go (holds row tse letter) (trigger_on 0))
    where
      go : (b on : Bool) → cond b (cond on (Trigger 1) Waiting) Waiting
          ≡ cond (b && on) (Trigger 1) Waiting
      go true on = refl
      go false on = refl

  start_events_lem : trigger_done 0 ≡ false → with_aborted (start_events row letter) ≡ abort_marks row letter
  unfolding start_events trigger_events
  start_events_lem early = rw early (go (holds row tse letter) (trigger_on 0))
    where
      go : (b on : Bool)
          → with_aborted (cond b (with_started (cond on no_events only_aborted)) no_events)
          ≡ events_of b false true false false false
      go true true = refl
      go true false = refl
      go false on = refl

  -- A row that waits does where TSE holds what a trigger of no ticks does: a third check would
  -- change nothing.
  pub waiting_phase : step_row row letter Waiting
      ≡ cond (holds row tse letter) (step_row row letter (Trigger 0)) Waiting
  unfolding step_row start_check trigger_check
  waiting_phase = go (holds row tse letter) (trigger_done 0) (trigger_on 0)
    where
      go : (starts done on : Bool)
          → let next = delay_check row letter 0 in
          let first = cond done next (cond on (Trigger 1) Waiting) in
          cond starts first Waiting
          ≡ cond starts (cond done next (cond on (Trigger 1) (cond starts first Waiting))) Waiting
      go true true on = refl
      go true false true = refl
      go true false false = refl
      go false done on = refl

  pub waiting_events : row_events row letter Waiting
      ≡ cond (holds row tse letter) (with_started (row_events row letter (Trigger 0))) no_events
  unfolding row_events start_events trigger_events
  waiting_events = go (holds row tse letter) (trigger_done 0) (trigger_on 0)
    where
      go : (starts done on : Bool)
          → let next = with_realised (delay_events row letter 0) in
          let first = cond starts (with_started (cond done next (cond on no_events only_aborted)))
          no_events in
          first ≡ cond starts
          (with_started (cond done next (cond on no_events (with_aborted first)))) no_events
      go true true on = refl
      go true false true = refl
      go true false false = refl
      go false done on = refl

  module _ (t : ℕ) where
    pub trigger_phase : step_row row letter (Trigger t)
        ≡ cond (trigger_done t) (delay_check row letter 0)
        (cond (trigger_on t) (Trigger (t + 1)) abort_phase)
    unfolding step_row trigger_check
    trigger_phase = go (trigger_done t) refl (trigger_on t)
      where
        go : (done : Bool) → trigger_done t ≡ done → (on : Bool)
            → cond done (delay_check row letter 0)
            (cond on (Trigger (t + 1)) (start_check row letter))
            ≡ cond done (delay_check row letter 0) (cond on (Trigger (t + 1)) abort_phase)
        go true is on = refl
        go false is true = refl
        go false is false = start_phase (still_early t is)

    pub trigger_events_lem : row_events row letter (Trigger t)
        ≡ cond (trigger_done t) (with_realised (delay_events row letter 0))
        (cond (trigger_on t) no_events (abort_marks row letter))
    unfolding row_events trigger_events
    trigger_events_lem = go (trigger_done t) refl (trigger_on t)
      where
        go : (done : Bool) → trigger_done t ≡ done → (on : Bool)
            → cond done (with_realised (delay_events row letter 0))
            (cond on no_events (with_aborted (start_events row letter)))
            ≡ cond done (with_realised (delay_events row letter 0)) (cond on no_events (abort_marks row letter))
        go true is on = refl
        go false is true = refl
        go false is false = start_events_lem (still_early t is)
