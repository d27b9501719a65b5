-- Each event by itself, from the checks that a row does at a letter: "A row in a phase does the
-- check of that phase with its elapsed ticks."
use Rattle.std.specs.Prelude.{ℕ, ◌≤◌, true, false, ◌&&◌, ◌⊎◌, ◌≡◌, leb, ltb}
use Rattle.table.specs.Row.{holds, tse, tc, tee, ase, aee}
use Rattle.table.specs.declared.Row.{Row}
use Rattle.step.specs.declared.Events.{Events}
use Rattle.step.specs.declared.Phase.{Phase}
use Rattle.step.specs.declared.Phase.TheVariants.{Waiting, Trigger, Delay, Action}

module _ (row : Row) (letter : ℕ) where
  -- "Waiting: if TSE holds, do the trigger check with 0".
  pub data TriggerChecked : Phase → ℕ → Type 0 where
    starts : holds row tse letter ≡ true → TriggerChecked Waiting 0
    lasts : (t : ℕ) → TriggerChecked (Trigger t) t

  -- "If TEE holds and t >= Tmin, the trigger is realised".
  pub record Realised (phase : Phase) : Type 0 where
    pub elapsed : ℕ
    pub checked : TriggerChecked phase elapsed
    pub ends : holds row tee letter ≡ true
    pub enough : row.tmin ≤ elapsed

  -- "Else if TC holds and t < Tmax: trigger, t + 1. Else waiting (aborted)".
  pub record Aborted (phase : Phase) : Type 0 where
    pub elapsed : ℕ
    pub checked : TriggerChecked phase elapsed
    pub unended : (holds row tee letter && leb row.tmin elapsed) ≡ false
    pub lapsed : (holds row tc letter && ltb elapsed row.tmax) ≡ false

  -- "Waiting: if TSE holds, do the trigger check with 0". Document 02, ask 4: "When a trigger that
  -- began at an earlier tick aborts and TSE holds at that letter, do the trigger check with 0".
  pub data Started : Phase → Type 0 where
    waits : holds row tse letter ≡ true → Started Waiting
    again : {t : ℕ} → Aborted (Trigger t) → holds row tse letter ≡ true → Started (Trigger t)

  -- "Do the delay check with 0 on the same letter".
  pub data DelayChecked : Phase → ℕ → Type 0 where
    starts : {phase : Phase} → Realised phase → DelayChecked phase 0
    lasts : (d : ℕ) → DelayChecked (Delay d) d

  -- "If ASE holds and d >= Lmin".
  pub record ActionStarted (phase : Phase) : Type 0 where
    pub elapsed : ℕ
    pub checked : DelayChecked phase elapsed
    pub ends : holds row ase letter ≡ true
    pub enough : row.lmin ≤ elapsed

  -- "Do the action check with 0 on the same letter".
  pub data ActionChecked : Phase → ℕ → Type 0 where
    starts : {phase : Phase} → ActionStarted phase → ActionChecked phase 0
    lasts : (a : ℕ) → ActionChecked (Action a) a

  -- "If AEE holds and a >= Amin: waiting."
  pub record Completed (phase : Phase) : Type 0 where
    pub elapsed : ℕ
    pub checked : ActionChecked phase elapsed
    pub ends : holds row aee letter ≡ true
    pub enough : row.amin ≤ elapsed

-- Exactly one of aborted and completed is marked.
abbrev pub OneEnd : Events → Type 0
OneEnd e =
    ((e.aborted ≡ true) × (e.completed ≡ false)) ⊎ ((e.aborted ≡ false) × (e.completed ≡ true))
