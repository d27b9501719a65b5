-- The step rules: "One letter is read thus".
use Rattle.std.specs.Prelude.{ℕ, ◌+◌, ◌&&◌, cond, leb, ltb}
use Rattle.table.specs.Row.{holds, tse, tc, tee, ase, ac, aee}
use Rattle.table.specs.declared.Row.{Row}
use Rattle.step.specs.declared.Phase.{Phase}
use Rattle.step.specs.declared.Phase.TheVariants.{Waiting, Trigger, Delay, Action, Broken}

-- "Action check, a: if AEE holds and a >= Amin: waiting. Else if AC holds and a < Amax: action,
-- a + 1. Else broken."
unfoldable pub action_check : Row → ℕ → ℕ → Phase
action_check row letter a =
    cond (holds row aee letter && leb row.amin a) Waiting
    (cond (holds row ac letter && ltb a row.amax) (Action (a + 1)) Broken)

-- "Delay check, d: if ASE holds and d >= Lmin, do the action check with 0 on the same letter. Else
-- if d < Lmax: delay, d + 1. Else broken."
unfoldable pub delay_check : Row → ℕ → ℕ → Phase
delay_check row letter d =
    cond (holds row ase letter && leb row.lmin d) (action_check row letter 0)
    (cond (ltb d row.lmax) (Delay (d + 1)) Broken)

-- "Trigger check, elapsed t: if TEE holds and t >= Tmin, the trigger is realised: do the delay
-- check with 0 on the same letter. Else if TC holds and t < Tmax: trigger, t + 1. Else" it is
-- aborted: what an abort leads to is given.
unfoldable pub trigger_check : Row → ℕ → ℕ → Phase → Phase
trigger_check row letter t aborted =
    cond (holds row tee letter && leb row.tmin t) (delay_check row letter 0)
    (cond (holds row tc letter && ltb t row.tmax) (Trigger (t + 1)) aborted)

-- "Waiting: if TSE holds, do the trigger check with 0; else stay waiting." "A trigger that aborts
-- in the tick it began starts no other": it waits.
unfoldable pub start_check : Row → ℕ → Phase
start_check row letter = cond (holds row tse letter) (trigger_check row letter 0 Waiting) Waiting

-- "A row in a phase does the check of that phase with its elapsed ticks." Document 02, ask 4: "When
-- a trigger that began at an earlier tick aborts and TSE holds at that letter, do the trigger check
-- with 0 on the same letter. If this second check aborts as well, the row waits." So the letter
-- does to it what it does to a waiting row. "Broken stays broken."
unfoldable pub step_row : Row → ℕ → Phase → Phase
step_row row letter Waiting = start_check row letter
step_row row letter (Trigger t) = trigger_check row letter t (start_check row letter)
step_row row letter (Delay d) = delay_check row letter d
step_row row letter (Action a) = action_check row letter a
step_row row letter Broken = Broken
