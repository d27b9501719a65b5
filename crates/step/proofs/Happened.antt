-- Each event is marked exactly when it happens. Assumes nothing.
use Prim.Native.Nat.{ℕ, ◌≤◌}
use mathlib.Core.Bool.{Bool, true, false, ◌&&◌, not, cond, true≢false}
use mathlib.Core.Logic.{◌⊎◌, inl, inr, ◌↔◌}
use mathlib.Core.Path.{◌≡◌, refl, sym, ◌∙◌}
use borrow.Author.Tests.{leb-true, le-leb}
use lib.Dec.{leb}
use Rattle.letters.proofs.Lists.{and_left, and_right}
use Rattle.table.specs.Row.{holds, tse, tee, ase, aee}
use Rattle.table.specs.declared.Row.{Row}
use Rattle.step.specs.declared.Phase.{Phase}
use Rattle.step.specs.declared.Phase.TheVariants.{Waiting, Trigger, Delay, Action, Broken}
use Rattle.step.specs.declared.Events.{Events}
use Rattle.step.specs.Events.{no_events, row_events}
use Rattle.step.specs.Further.Happened.{TriggerChecked, Realised, Aborted, Started}
use Rattle.step.specs.Further.Happened.{DelayChecked, ActionStarted, ActionChecked, Completed}
use Rattle.step.proofs.Pressed.{trigger_done, trigger_on}
use Rattle.step.proofs.Marks.{delay_done, action_done, aborts, trigger_told, action_told_lem}
use Rattle.step.proofs.Marks.{delay_told_lem, waiting_told, running_told}

-- A condition holds and there are ticks enough, or the test of both fails.
enough : (c : Bool) (least t : ℕ) → (c && leb least t) ≡ true → (c ≡ true) × (least ≤ t)
enough c least t h = (and_left c (leb least t) h, leb-true least t (and_right c (leb least t) h))

is_enough : {c : Bool} {least t : ℕ} → c ≡ true → least ≤ t → (c && leb least t) ≡ true
is_enough {least = least} {t = t} h k = rw (h, le-leb least t k)

-- Neither of two tests holds.
neither : (a b : Bool) → (not a && not b) ≡ true → (a ≡ false) × (b ≡ false)
neither true b h = absurd (true≢false (sym h))
neither false true h = absurd (true≢false (sym h))
neither false false h = (refl, refl)

module _ (row : Row) (letter : ℕ) where
  -- The row's marks are those of the checks that it does.
  trigger_of : {phase : Phase} {t : ℕ} → TriggerChecked row letter phase t
      → (started : Bool) × (row_events row letter phase ≡ trigger_told row letter started t)
  trigger_of (TriggerChecked.starts h) = (true, waiting_told row letter ∙ rw h)
  trigger_of (TriggerChecked.lasts t) =
      (aborts row letter t && holds row tse letter, running_told row letter t)

  delay_acting : {phase : Phase} {d : ℕ} → DelayChecked row letter phase d
      → (row_events row letter phase).acting ≡ delay_done row letter d
  delay_acting (DelayChecked.starts r) =
      rw ((trigger_of r.checked).1, is_enough r.ends r.enough)
  delay_acting (DelayChecked.lasts d) = unfold row_events in rw (delay_told_lem row letter d)

  delay_completed : {phase : Phase} {d : ℕ} → DelayChecked row letter phase d
      → (row_events row letter phase).completed ≡ (delay_done row letter d && action_done row letter 0)
  delay_completed (DelayChecked.starts r) =
      rw ((trigger_of r.checked).1, is_enough r.ends r.enough)
  delay_completed (DelayChecked.lasts d) = unfold row_events in rw (delay_told_lem row letter d)

  action_completed : {phase : Phase} {a : ℕ} → ActionChecked row letter phase a
      → (row_events row letter phase).completed ≡ action_done row letter a
  action_completed (ActionChecked.starts s) = delay_completed s.checked
      ∙ rw (is_enough s.ends s.enough)
  action_completed (ActionChecked.lasts a) = unfold row_events in rw (action_told_lem row letter a)

  -- A check is done, or none of its marks is set.
  abbrev WhichTrigger : Phase → Type 0
  WhichTrigger phase = ((t : ℕ) × TriggerChecked row letter phase t)
      ⊎ (((row_events row letter phase).realised ≡ false)
      × ((row_events row letter phase).aborted ≡ false))

  which_trigger : (phase : Phase) → WhichTrigger phase
  which_trigger Waiting = go (holds row tse letter) refl
    where
      go : (b : Bool) → holds row tse letter ≡ b → WhichTrigger Waiting
      go true is = inl (0, TriggerChecked.starts is)
      go false is = inr (rw (waiting_told row letter, is) (refl, refl))
  which_trigger (Trigger t) = inl (t, TriggerChecked.lasts t)
  which_trigger (Delay d) = inr (unfold row_events in rw (delay_told_lem row letter d) (refl, refl))
  which_trigger (Action a) = inr (unfold row_events in rw (action_told_lem row letter a) (refl, refl))
  which_trigger Broken = inr (unfold row_events in (refl, refl))

  -- No action is checked, or one that lasts.
  abbrev Other : Phase → Type 0
  Other phase =
      ((a : ℕ) × ActionChecked row letter phase a) ⊎ ((row_events row letter phase).completed ≡ false)

  abbrev WhichDelay : Phase → Type 0
  WhichDelay phase = ((d : ℕ) × DelayChecked row letter phase d)
      ⊎ (((row_events row letter phase).acting ≡ false) × Other phase)

  by_trigger : {phase : Phase} {t : ℕ} → TriggerChecked row letter phase t → WhichDelay phase
  by_trigger {phase} {t} c = go (trigger_done row letter t) refl
    where
      go : (b : Bool) → trigger_done row letter t ≡ b → WhichDelay phase
      go true is =
          let both = enough (holds row tee letter) row.tmin t is in
          inl (
            0,
            DelayChecked.starts (record {
              elapsed = t;
              checked = c;
              ends = both.0;
              enough = both.1;
            }),
          )
      go false is = inr (rw ((trigger_of c).1, is), inr (rw ((trigger_of c).1, is)))

  which_delay : (phase : Phase) → WhichDelay phase
  which_delay Waiting = go (holds row tse letter) refl
    where
      go : (b : Bool) → holds row tse letter ≡ b → WhichDelay Waiting
      go true is = by_trigger (TriggerChecked.starts is)
      go false is = inr (rw (waiting_told row letter, is), inr (rw (waiting_told row letter, is)))
  which_delay (Trigger t) = by_trigger (TriggerChecked.lasts t)
  which_delay (Delay d) = inl (d, DelayChecked.lasts d)
  which_delay (Action a) =
      inr (unfold row_events in rw (action_told_lem row letter a), inl (a, ActionChecked.lasts a))
  which_delay Broken = inr (unfold row_events in refl, inr (unfold row_events in refl))

  which_action : (phase : Phase) → Other phase
  which_action phase = from (which_delay phase)
    where
      by_delay : (d : ℕ) → DelayChecked row letter phase d → (b : Bool) → delay_done row letter d ≡ b
          → Other phase
      by_delay d c true is =
          let both = enough (holds row ase letter) row.lmin d is in
          inl (
            0,
            ActionChecked.starts (record {
              elapsed = d;
              checked = c;
              ends = both.0;
              enough = both.1;
            }),
          )
      by_delay d c false is = inr (delay_completed c ∙ rw is)

      from : WhichDelay phase → Other phase
      from (inl found) = by_delay found.0 found.1 (delay_done row letter found.0) refl
      from (inr other) = other.1

  module _ (phase : Phase) where
    abbrev events : Events
    events = row_events row letter phase

    pub realised_exactly : (events.realised ≡ true) ↔ Realised row letter phase
    realised_exactly = (
      λ marked. go marked (which_trigger phase),
      λ r. rw ((trigger_of r.checked).1, is_enough r.ends r.enough),
    )
      where
        go : events.realised ≡ true → WhichTrigger phase → Realised row letter phase
        go marked (inl found) =
            let both = enough (holds row tee letter) row.tmin found.0
            (rw (trigger_of found.1).1 at marked) in
            record { elapsed = found.0; checked = found.1; ends = both.0; enough = both.1 }
        go marked (inr none) = absurd (true≢false (sym marked ∙ none.0))

    pub aborted_exactly : (events.aborted ≡ true) ↔ Aborted row letter phase
    aborted_exactly = (
      λ marked. go marked (which_trigger phase),
      λ r. rw ((trigger_of r.checked).1, r.unended, r.lapsed),
    )
      where
        go : events.aborted ≡ true → WhichTrigger phase → Aborted row letter phase
        go marked (inl found) =
            let t = found.0 in
            let both = neither (trigger_done row letter t) (trigger_on row letter t)
            (rw (trigger_of found.1).1 at marked) in
            record { elapsed = t; checked = found.1; unended = both.0; lapsed = both.1 }
        go marked (inr none) = absurd (true≢false (sym marked ∙ none.1))

    -- An abort realises nothing and breaks nothing, whatever a second check gives.
    pub abort_alone : events.aborted ≡ true
        → (events.realised ≡ false) × (events.acting ≡ false) × (events.completed ≡ false)
        × (events.broken ≡ false)
    abort_alone marked =
        let r = aborted_exactly.0 marked in
        rw ((trigger_of r.checked).1, r.unended) (refl, refl, refl, refl)

    pub acting_exactly : (events.acting ≡ true) ↔ ActionStarted row letter phase
    acting_exactly = (
      λ marked. go marked (which_delay phase),
      λ r. delay_acting r.checked ∙ is_enough r.ends r.enough,
    )
      where
        go : events.acting ≡ true → WhichDelay phase → ActionStarted row letter phase
        go marked (inl found) =
            let both = enough (holds row ase letter) row.lmin found.0
            (sym (delay_acting found.1) ∙ marked) in
            record { elapsed = found.0; checked = found.1; ends = both.0; enough = both.1 }
        go marked (inr none) = absurd (true≢false (sym marked ∙ none.0))

    pub completed_exactly : (events.completed ≡ true) ↔ Completed row letter phase
    completed_exactly = (
      λ marked. go marked (which_action phase),
      λ r. action_completed r.checked ∙ is_enough r.ends r.enough,
    )
      where
        go : events.completed ≡ true → Other phase → Completed row letter phase
        go marked (inl found) =
            let both = enough (holds row aee letter) row.amin found.0
            (sym (action_completed found.1) ∙ marked) in
            record { elapsed = found.0; checked = found.1; ends = both.0; enough = both.1 }
        go marked (inr none) = absurd (true≢false (sym marked ∙ none))

  -- A start, from the marks of an abort.
  started_to : (phase : Phase) → (row_events row letter phase).started ≡ true
      → Started row letter phase
  started_to Waiting marked =
      go (holds row tse letter) refl (rw (waiting_told row letter) at marked)
    where
      go : (b : Bool) → holds row tse letter ≡ b
          → (cond b (trigger_told row letter true 0) no_events).started ≡ true
          → Started row letter Waiting
      go true is h = Started.waits is
      go false is h = absurd (true≢false (sym h))
  started_to (Trigger t) marked =
      let both = rw (running_told row letter t) at marked in
      Started.again
      ((aborted_exactly (Trigger t)).0
      (rw (running_told row letter t) (and_left (aborts row letter t) _ both)))
      (and_right (aborts row letter t) _ both)
  started_to (Delay d) marked =
      unfold row_events in absurd (true≢false (sym (rw (delay_told_lem row letter d) at marked)))
  started_to (Action a) marked =
      unfold row_events in absurd (true≢false (sym (rw (action_told_lem row letter a) at marked)))
  started_to Broken marked = unfold row_events in absurd (true≢false (sym marked))

  started_back : {phase : Phase} → Started row letter phase
      → (row_events row letter phase).started ≡ true
  started_back (Started.waits h) = rw (waiting_told row letter, h)
  started_back (Started.again {t = t} r h) =
      let both = rw (running_told row letter t) at ((aborted_exactly (Trigger t)).1 r) in
      rw (running_told row letter t, both, h)

  pub started_exactly : (phase : Phase)
      → ((row_events row letter phase).started ≡ true) ↔ Started row letter phase
  started_exactly phase = (started_to phase, started_back)
