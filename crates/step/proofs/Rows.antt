-- What a letter does to one row, and to rows of any number. Assumes nothing.
use Prim.Native.Nat.{ℕ, zero, suc, ◌+◌, ◌<◌, ◌≤◌}
use native.Mathlib.Omega.{arith}
use mathlib.Core.Bool.{Bool, true, false, ◌&&◌, ◌||◌, cond, or-true, true≢false}
use mathlib.Core.List.{List, [], ◌∷◌}
use mathlib.Core.Path.{◌≡◌, refl, sym, ap}
use borrow.Author.Tests.{ltb-true}
use lib.Dec.{leb, ltb}
use lib.ListN.{length, get_or}
use Rattle.letters.proofs.Lists.{and_left, and_right, within_true}
use Rattle.letters.specs.Lists.{within, some}
use Rattle.table.specs.Row.{holds, tse, tc, tee, ase, ac, aee, no_row}
use Rattle.table.specs.declared.Row.{Row}
use Rattle.step.specs.declared.Phase.{Phase}
use Rattle.step.specs.declared.Phase.TheVariants.{Waiting, Trigger, Delay, Action, Broken}
use Rattle.step.specs.Phase.{is_broken}
use Rattle.step.specs.Step.{action_check, delay_check, trigger_check, start_check, step_row}
use Rattle.step.specs.Tick.{tick, some_broken}
use Rattle.step.specs.Valid.{phase_valid, phases_valid}

-- A choice fits if what is chosen fits.
fits_cond : (row : Row) (b : Bool) (p o : Phase) → phase_valid row p ≡ true
    → (b ≡ false → phase_valid row o ≡ true)
    → phase_valid row (cond b p o) ≡ true
fits_cond row true p o hp ho = hp
fits_cond row false p o hp ho = ho refl

-- One more tick fits where a test found room for it.
fits_more : (row : Row) (hold : Bool) (t most : ℕ) (p o : Phase) → phase_valid row o ≡ true
    → (within 1 most (t + 1) ≡ true → phase_valid row p ≡ true)
    → phase_valid row (cond (hold && ltb t most) p o) ≡ true
fits_more row hold t most p o ho hp = go (hold && ltb t most) refl
  where
    go : (b : Bool) → (hold && ltb t most) ≡ b → phase_valid row (cond b p o) ≡ true
    go true e = hp (within_true 1 most (t + 1) (omega arith)
        (omega (arith, ltb-true t most (and_right hold (ltb t most) e))))
    go false e = ho

module _ (row : Row) (letter : ℕ) where
  action_valid : (a : ℕ) → phase_valid row (action_check row letter a) ≡ true
  unfolding action_check phase_valid
  action_valid a =
      fits_cond row (holds row aee letter && leb row.amin a) Waiting _ refl
      (λ _. fits_more row (holds row ac letter) a row.amax (Action (a + 1)) Broken refl (λ h. h))

  delay_valid : (d : ℕ) → phase_valid row (delay_check row letter d) ≡ true
  unfolding delay_check phase_valid
  delay_valid d =
      fits_cond row (holds row ase letter && leb row.lmin d) (action_check row letter 0) _
      (action_valid 0)
      (λ _. fits_more row true d row.lmax (Delay (d + 1)) Broken refl (λ h. h))

  trigger_valid : (t : ℕ) (aborted : Phase) → phase_valid row aborted ≡ true
      → phase_valid row (trigger_check row letter t aborted) ≡ true
  unfolding trigger_check phase_valid
  trigger_valid t aborted fits =
      fits_cond row (holds row tee letter && leb row.tmin t) (delay_check row letter 0) _
      (delay_valid 0)
      (λ _. fits_more row (holds row tc letter) t row.tmax (Trigger (t + 1)) aborted fits
      (λ h. h))

  start_valid : phase_valid row (start_check row letter) ≡ true
  unfolding start_check phase_valid
  start_valid = fits_cond row (holds row tse letter) (trigger_check row letter 0 Waiting) Waiting
      (trigger_valid 0 Waiting refl) (λ _. refl)

  -- Whatever the phase was, after a letter number 18 lets it by.
  pub step_valid : (phase : Phase) → phase_valid row (step_row row letter phase) ≡ true
  unfolding step_row phase_valid
  step_valid Waiting = start_valid
  step_valid (Trigger t) = trigger_valid t (start_check row letter) start_valid
  step_valid (Delay d) = delay_valid d
  step_valid (Action a) = action_valid a
  step_valid Broken = refl

  -- "Broken stays broken."
  pub step_broken : (phase : Phase) → is_broken phase ≡ true
      → is_broken (step_row row letter phase) ≡ true
  unfolding step_row is_broken
  step_broken Waiting h = absurd (let z : ◌≡◌ {A = ℕ} 0 1 = cc in omega arith)
  step_broken (Trigger t) h = absurd (let z : ◌≡◌ {A = ℕ} 0 1 = cc in omega arith)
  step_broken (Delay d) h = absurd (let z : ◌≡◌ {A = ℕ} 0 1 = cc in omega arith)
  step_broken (Action a) h = absurd (let z : ◌≡◌ {A = ℕ} 0 1 = cc in omega arith)
  step_broken Broken h = refl

-- A tick keeps the number of phases.
pub tick_length : (rows : List Row) (letter : ℕ) (phases : List Phase)
    → length (tick rows letter phases) ≡ length phases
unfolding tick
tick_length [] letter phases = refl
tick_length (row ∷ rows) letter [] = refl
tick_length (row ∷ rows) letter (phase ∷ phases) = ap suc (tick_length rows letter phases)

-- A row is moved on by its own rules, whatever the others do.
pub tick_at : (rows : List Row) (letter : ℕ) (phases : List Phase) (i : ℕ) → i < length rows
    → i < length phases
    → get_or (tick rows letter phases) i Waiting
    ≡ step_row (get_or rows i no_row) letter (get_or phases i Waiting)
unfolding tick
tick_at [] letter phases i h k = absurd (omega arith)
tick_at (row ∷ rows) letter [] i h k = absurd (omega arith)
tick_at (row ∷ rows) letter (phase ∷ phases) zero h k = refl
tick_at (row ∷ rows) letter (phase ∷ phases) (suc i) h k =
    tick_at rows letter phases i (omega arith) (omega arith)

-- A phase without a row stays.
pub tick_beyond : (rows : List Row) (letter : ℕ) (phases : List Phase) (i : ℕ) → length rows ≤ i
    → get_or (tick rows letter phases) i Waiting ≡ get_or phases i Waiting
unfolding tick
tick_beyond [] letter phases i h = refl
tick_beyond (row ∷ rows) letter [] i h = refl
tick_beyond (row ∷ rows) letter (phase ∷ phases) zero h = absurd (omega arith)
tick_beyond (row ∷ rows) letter (phase ∷ phases) (suc i) h =
    tick_beyond rows letter phases i (omega arith)

-- After a tick number 18 lets the state by.
pub tick_valid : (rows : List Row) (letter : ℕ) (phases : List Phase)
    → phases_valid rows phases ≡ true → phases_valid rows (tick rows letter phases) ≡ true
unfolding tick phases_valid
tick_valid [] letter phases h = h
tick_valid (row ∷ rows) letter [] h = h
tick_valid (row ∷ rows) letter (phase ∷ phases) h =
    rw (step_valid row letter phase)
    (tick_valid rows letter phases (and_right (phase_valid row phase) (phases_valid rows phases) h))

-- What number 18 says of a state it says of each row.
pub valid_at : (rows : List Row) (phases : List Phase) → phases_valid rows phases ≡ true
    → (i : ℕ) → i < length rows → phase_valid (get_or rows i no_row) (get_or phases i Waiting) ≡ true
unfolding phases_valid
valid_at [] phases h i low = absurd (omega arith)
valid_at (row ∷ rows) [] h i low = absurd (true≢false (sym h))
valid_at (row ∷ rows) (phase ∷ phases) h zero low =
    and_left (phase_valid row phase) (phases_valid rows phases) h
valid_at (row ∷ rows) (phase ∷ phases) h (suc i) low =
    valid_at rows phases (and_right (phase_valid row phase) (phases_valid rows phases) h) i
    (omega arith)

-- A broken row stays broken, whichever it is.
pub tick_broken : (rows : List Row) (letter : ℕ) (phases : List Phase) → some_broken phases ≡ true
    → some_broken (tick rows letter phases) ≡ true
unfolding tick some
tick_broken [] letter phases h = h
tick_broken (row ∷ rows) letter [] h = h
tick_broken (row ∷ rows) letter (phase ∷ phases) h =
    go (is_broken phase) refl h (tick_broken rows letter phases)
  where
    go : (b : Bool) → is_broken phase ≡ b → (b || some_broken phases) ≡ true
        → (some_broken phases ≡ true → some_broken (tick rows letter phases) ≡ true)
        → (is_broken (step_row row letter phase) || some_broken (tick rows letter phases)) ≡ true
    go true e k ih = rw (step_broken row letter phase e)
    go false e k ih = rw (ih k) (or-true (is_broken (step_row row letter phase)))
