-- A letter leads a running trigger to exactly one of four ends. Assumes nothing.
use Prim.Native.Nat.{ℕ, ◌+◌, ◌≤◌}
use native.Mathlib.Omega.{arith}
use mathlib.Core.Bool.{Bool, true, false, ◌&&◌, cond, true≢false}
use mathlib.Core.Logic.{◌↔◌}
use mathlib.Core.Path.{◌≡◌, refl, sym, ap, ◌∙◌}
use borrow.Author.Tests.{leb-true, le-leb, lt-ltb, ltb-true, ltb-false}
use lib.Dec.{leb, ltb}
use Rattle.letters.proofs.Lists.{and_left, and_right, within_low, within_high}
use Rattle.table.specs.Row.{holds, tse, tc, tee, ase, ac, aee}
use Rattle.table.specs.declared.Row.{Row}
use Rattle.step.specs.declared.Phase.{Phase}
use Rattle.step.specs.declared.Phase.TheVariants.{Waiting, Trigger, Delay, Action, Broken}
use Rattle.step.specs.declared.Events.{Events}
use Rattle.step.specs.Phase.{code_of}
use Rattle.step.specs.Valid.{phase_valid, is_waiting}
use Rattle.step.specs.Step.{action_check, delay_check, trigger_check, start_check}
use Rattle.step.specs.Step.{step_row}
use Rattle.step.specs.Events.{no_events, only_aborted, with_started, with_realised}
use Rattle.step.specs.Events.{delay_events, trigger_events, start_events, row_events}
use Rattle.step.specs.Further.Happened.{TriggerChecked, Realised, Aborted}
use Rattle.step.specs.Further.Pressed.{Restarted, abort_marks, TriggerStep}
use Rattle.step.proofs.Pressed.{trigger_done, trigger_on, trigger_phase, trigger_events_lem}

-- The check that a running trigger does has its elapsed ticks.
elapsed_is : {row : Row} {letter t n : ℕ} {phase : Phase} → TriggerChecked row letter phase n
    → phase ≡ Trigger t → n ≡ t
unfolding code_of is_waiting
elapsed_is (TriggerChecked.starts h) e = absurd (true≢false (ap is_waiting e))
elapsed_is (TriggerChecked.lasts n) e = ap code_of e

-- A trigger that is realised is over.
unfoldable in_trigger : Phase → Bool
in_trigger Waiting = false
in_trigger (Trigger t) = true
in_trigger (Delay d) = false
in_trigger (Action a) = false
in_trigger Broken = false

leaves : (a b : Bool) (p q : Phase) → in_trigger p ≡ false → in_trigger q ≡ false
    → in_trigger (cond a p (cond b q Broken)) ≡ false
unfolding in_trigger
leaves true b p q hp hq = hp
leaves false true p q hp hq = hq
leaves false false p q hp hq = refl

delay_leaves : (row : Row) (letter : ℕ) → in_trigger (delay_check row letter 0) ≡ false
unfolding delay_check action_check in_trigger
delay_leaves row letter =
    leaves (holds row ase letter && leb row.lmin 0) (ltb 0 row.lmax)
    (action_check row letter 0) (Delay 1)
    (leaves (holds row aee letter && leb row.amin 0) (holds row ac letter && ltb 0 row.amax)
    Waiting (Action 1) refl refl) refl

module _ (row : Row) (letter t : ℕ) where
  -- How the first check ended, from what the cases say of it.
  done_realised : Realised row letter (Trigger t) → trigger_done row letter t ≡ true
  done_realised r =
      rw (r.ends, le-leb row.tmin t (omega (arith, elapsed_is r.checked refl, r.enough)))

  lapses : Aborted row letter (Trigger t)
      → (trigger_done row letter t ≡ false) × (trigger_on row letter t ≡ false)
  lapses r =
      let is = elapsed_is r.checked refl in
      (rw is at r.unended, rw is at r.lapsed)

  aborts : trigger_done row letter t ≡ false → trigger_on row letter t ≡ false
      → Aborted row letter (Trigger t)
  aborts early over =
      record { elapsed = t; checked = TriggerChecked.lasts t; unended = early; lapsed = over }

  -- Whether the second check goes on.
  abbrev again : Bool
  again = holds row tse letter && trigger_on row letter 0

  -- Of a trigger that number 18 lets by: it has begun, and has had no more than its most ticks.
  module _ (fits : phase_valid row (Trigger t) ≡ true) where
    begun : 1 ≤ t
    unfolding phase_valid
    begun = within_low 1 row.tmax t fits

    within_most : t ≤ row.tmax
    unfolding phase_valid
    within_most = within_high 1 row.tmax t fits

    restart_to : Aborted row letter (Trigger t) → again ≡ true → Restarted row letter t
    restart_to r e =
        let held = and_left (holds row tc letter) _ (and_right (holds row tse letter) _ e) in
        let past : ltb t row.tmax ≡ false = rw held at (lapses r).1 in
        record {
          aborted = r;
          pressed = and_left (holds row tse letter) _ e;
          held = held;
          over = omega (arith, within_most, ltb-false t row.tmax past);
        }

    restart_back : Restarted row letter t → again ≡ true
    restart_back r =
        rw (r.pressed, r.held, lt-ltb 0 row.tmax (omega (arith, begun, within_most)))

    restarts_not : Aborted row letter (Trigger t) → (Restarted row letter t → ⊥) → again ≡ false
    restarts_not r none = go again refl
      where
        go : (b : Bool) → again ≡ b → b ≡ false
        go false e = refl
        go true e = absurd (none (restart_to r e))

    -- Every letter does one of the four things,
    pub trigger_step : TriggerStep row letter t (step_row row letter (Trigger t))
        (row_events row letter (Trigger t))
    trigger_step =
        rw (trigger_phase row letter t, trigger_events_lem row letter t)
        (go (trigger_done row letter t) refl (trigger_on row letter t) refl again refl)
      where
        go : (done : Bool) → trigger_done row letter t ≡ done → (on : Bool)
            → trigger_on row letter t ≡ on → (more : Bool) → again ≡ more
            → TriggerStep row letter t
            (cond done (delay_check row letter 0)
            (cond on (Trigger (t + 1)) (cond more (Trigger 1) Waiting)))
            (cond done (with_realised (delay_events row letter 0))
            (cond on no_events (abort_marks row letter)))
        go true is on lasts more press =
            let ends = and_left (holds row tee letter) _ is in
            let enough = leb-true row.tmin t (and_right (holds row tee letter) _ is) in
            TriggerStep.realised (record {
              elapsed = t;
              checked = TriggerChecked.lasts t;
              ends = ends;
              enough = enough;
            })
        go false is true lasts more press =
            TriggerStep.lasts is (and_left (holds row tc letter) _ lasts)
            (ltb-true t row.tmax (and_right (holds row tc letter) _ lasts))
        go false is false lasts true press =
            TriggerStep.restarts (restart_to (aborts is lasts) press)
        go false is false lasts false press =
            TriggerStep.waits (aborts is lasts)
            (λ r. true≢false (sym (restart_back r) ∙ press))

    -- and no other.
    pub trigger_step_only : {phase : Phase} {e : Events} → TriggerStep row letter t phase e
        → (step_row row letter (Trigger t) ≡ phase) × (row_events row letter (Trigger t) ≡ e)
    trigger_step_only (TriggerStep.realised r) =
        rw (trigger_phase row letter t, trigger_events_lem row letter t, done_realised r) (refl, refl)
    trigger_step_only (TriggerStep.lasts early held less) =
        rw (
          trigger_phase row letter t,
          trigger_events_lem row letter t,
          early,
          held,
          lt-ltb t row.tmax less,
        ) (refl, refl)
    trigger_step_only (TriggerStep.restarts r) =
        let both = lapses r.aborted in
        rw (
          trigger_phase row letter t,
          trigger_events_lem row letter t,
          both.0,
          both.1,
          restart_back r,
        ) (refl, refl)
    trigger_step_only (TriggerStep.waits r none) =
        let both = lapses r in
        rw (
          trigger_phase row letter t,
          trigger_events_lem row letter t,
          both.0,
          both.1,
          restarts_not r none,
        ) (refl, refl)

    -- It is in its first tick after the letter exactly when it began again.
    pub restarts_exactly : (step_row row letter (Trigger t) ≡ Trigger 1) ↔ Restarted row letter t
    unfolding in_trigger code_of
    restarts_exactly = (
      λ is. from trigger_step is,
      λ r. (trigger_step_only (TriggerStep.restarts r)).0,
    )
      where
        from : {phase : Phase} {e : Events} → TriggerStep row letter t phase e
            → phase ≡ Trigger 1 → Restarted row letter t
        from (TriggerStep.realised r) is =
            absurd (true≢false (sym (ap in_trigger is) ∙ delay_leaves row letter))
        from (TriggerStep.lasts early held less) is =
            absurd (omega (arith, begun, ap code_of is))
        from (TriggerStep.restarts r) is = r
        from (TriggerStep.waits r none) is = absurd (true≢false (sym (ap in_trigger is)))

-- A trigger that begins at this letter starts no other.
module _ (row : Row) (letter : ℕ) where
  pub begins_as_before : step_row row letter Waiting
      ≡ cond (holds row tse letter)
      (cond (holds row tee letter && leb row.tmin 0) (delay_check row letter 0)
      (cond (holds row tc letter && ltb 0 row.tmax) (Trigger 1) Waiting)) Waiting
  unfolding step_row start_check trigger_check
  begins_as_before = refl

  pub begins_as_told : row_events row letter Waiting
      ≡ cond (holds row tse letter)
      (with_started (cond (holds row tee letter && leb row.tmin 0)
      (with_realised (delay_events row letter 0))
      (cond (holds row tc letter && ltb 0 row.tmax) no_events only_aborted))) no_events
  unfolding row_events start_events trigger_events
  begins_as_told = refl
