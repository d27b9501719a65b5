-- What each check marks, in closed form: one test for each event. Assumes nothing.
use Prim.Native.Nat.{ℕ}
use mathlib.Core.Bool.{Bool, true, false, ◌&&◌, not, cond}
use mathlib.Core.Path.{◌≡◌, refl, ◌∙◌}
use lib.Dec.{leb, ltb}
use Rattle.table.specs.Row.{holds, tse, ase, ac, aee}
use Rattle.table.specs.declared.Row.{Row}
use Rattle.step.specs.declared.Phase.TheVariants.{Waiting, Trigger, Delay, Action}
use Rattle.step.specs.declared.Events.{Events}
use Rattle.step.specs.Events.{events_of, no_events, only_completed, only_broken}
use Rattle.step.specs.Events.{with_realised, with_acting}
use Rattle.step.specs.Events.{action_events, delay_events, trigger_events, start_events}
use Rattle.step.specs.Events.{row_events}
use Rattle.step.proofs.Pressed.{trigger_done, trigger_on, trigger_events_lem}

module _ (row : Row) (letter : ℕ) where
  -- How the checks of delay and action end, and that a trigger is aborted.
  abbrev pub delay_done : ℕ → Bool
  delay_done d = holds row ase letter && leb row.lmin d

  abbrev pub action_done : ℕ → Bool
  action_done a = holds row aee letter && leb row.amin a

  abbrev pub action_on : ℕ → Bool
  action_on a = holds row ac letter && ltb a row.amax

  abbrev pub aborts : ℕ → Bool
  aborts t = not (trigger_done row letter t) && not (trigger_on row letter t)

  -- The marks of each check: started, realised, aborted, acting, completed, broken.
  abbrev pub action_told : ℕ → Events
  action_told a =
      events_of false false false false (action_done a) (not (action_done a) && not (action_on a))

  pub action_told_lem : (a : ℕ) → action_events row letter a ≡ action_told a
  unfolding action_events
  action_told_lem a = go (action_done a) (action_on a)
    where
      go : (done on : Bool) → cond done only_completed (cond on no_events only_broken)
          ≡ events_of false false false false done (not done && not on)
      go true on = refl
      go false true = refl
      go false false = refl

  abbrev pub delay_told : ℕ → Events
  delay_told d =
      events_of false false false (delay_done d) (delay_done d && action_done 0)
      (cond (delay_done d) (action_told 0).broken (not (ltb d row.lmax)))

  pub delay_told_lem : (d : ℕ) → delay_events row letter d ≡ delay_told d
  unfolding delay_events
  delay_told_lem d = rw (action_told_lem 0) (go (delay_done d) (ltb d row.lmax))
    where
      go : (done on : Bool)
          → cond done (with_acting (action_told 0)) (cond on no_events only_broken)
          ≡ events_of false false false done (done && action_done 0)
          (cond done (action_told 0).broken (not on))
      go true on = refl
      go false true = refl
      go false false = refl

  abbrev pub trigger_told : Bool → ℕ → Events
  trigger_told started t =
      let done = trigger_done row letter t in
      events_of started done (aborts t) (done && delay_done 0) (done && (delay_done 0 && action_done 0))
      (done && (delay_told 0).broken)

  -- An abort is told as an abort, whether the trigger started at this letter or not.
  trigger_told_lem : (t : ℕ) (started : Bool)
      → cond (trigger_done row letter t) (with_realised (delay_events row letter 0))
      (cond (trigger_on row letter t) no_events (events_of started false true false false false))
      ≡ trigger_told (aborts t && started) t
  trigger_told_lem t started =
      rw (delay_told_lem 0) (go (trigger_done row letter t) (trigger_on row letter t))
    where
      go : (done on : Bool)
          → cond done (with_realised (delay_told 0))
          (cond on no_events (events_of started false true false false false))
          ≡ events_of (not done && not on && started) done (not done && not on)
          (done && delay_done 0) (done && (delay_done 0 && action_done 0))
          (done && (delay_told 0).broken)
      go true on = refl
      go false true = refl
      go false false = refl

  pub waiting_told : row_events row letter Waiting
      ≡ cond (holds row tse letter) (trigger_told true 0) no_events
  unfolding row_events start_events trigger_events
  waiting_told = rw (trigger_told_lem 0 false)

  pub running_told : (t : ℕ) → row_events row letter (Trigger t)
      ≡ trigger_told (aborts t && holds row tse letter) t
  running_told t = trigger_events_lem row letter t ∙ trigger_told_lem t (holds row tse letter)

  -- Only a trigger is realised.
  pub trigger_realises : (t : ℕ)
      → (row_events row letter (Trigger t)).realised ≡ trigger_done row letter t
  trigger_realises t = rw (running_told t)

  pub delay_realises : (d : ℕ) → (row_events row letter (Delay d)).realised ≡ false
  unfolding row_events
  delay_realises d = rw (delay_told_lem d)

  pub action_realises : (a : ℕ) → (row_events row letter (Action a)).realised ≡ false
  unfolding row_events
  action_realises a = rw (action_told_lem a)
