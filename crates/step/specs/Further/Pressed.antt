-- What a letter does to a running trigger, case by case. Document 02, ask 4: "When a trigger that
-- began at an earlier tick aborts and TSE holds at that letter, do the trigger check with 0 on the
-- same letter. If this second check aborts as well, the row waits."
use Rattle.std.specs.Prelude.{ℕ, ◌+◌, ◌<◌, true, false, ◌&&◌, ◌≡◌, leb}
use Rattle.table.specs.Row.{holds, tse, tc, tee}
use Rattle.table.specs.declared.Row.{Row}
use Rattle.step.specs.declared.Events.{Events}
use Rattle.step.specs.declared.Phase.{Phase}
use Rattle.step.specs.declared.Phase.TheVariants.{Waiting, Trigger}
use Rattle.step.specs.Step.{delay_check}
use Rattle.step.specs.Events.{events_of, no_events, with_realised, delay_events}
use Rattle.step.specs.Further.Happened.{Realised, Aborted}

-- What an abort marks: that it happened, and a start where TSE holds.
abbrev pub abort_marks : Row → ℕ → Events
abort_marks row letter = events_of (holds row tse letter) false true false false false

module _ (row : Row) (letter t : ℕ) where
  -- The second check goes on: the trigger has had its most ticks, and the letter both starts it and
  -- holds it.
  pub record Restarted : Type 0 where
    pub aborted : Aborted row letter (Trigger t)
    pub pressed : holds row tse letter ≡ true
    pub held : holds row tc letter ≡ true
    pub over : t ≡ row.tmax

  -- The phase after the letter, and what happened at it.
  pub data TriggerStep : Phase → Events → Type 0 where
    realised : Realised row letter (Trigger t)
        → TriggerStep (delay_check row letter 0) (with_realised (delay_events row letter 0))
    lasts : (holds row tee letter && leb row.tmin t) ≡ false → holds row tc letter ≡ true
        → t < row.tmax → TriggerStep (Trigger (t + 1)) no_events
    restarts : Restarted → TriggerStep (Trigger 1) (abort_marks row letter)
    waits : Aborted row letter (Trigger t) → (Restarted → ⊥)
        → TriggerStep Waiting (abort_marks row letter)
