-- Phases, their codes, and number 18 for one row. Assumes nothing.
use Prim.Native.Nat.{ℕ, ◌+◌, ◌-◌, ◌<◌, ◌≤◌}
use native.Mathlib.Decide.{dec_le, dec_lt}
use native.Mathlib.Omega.{arith}
use mathlib.Core.Bool.{true, or-false}
use mathlib.Core.Path.{◌≡◌, refl, sym, ap, subst, ◌∙◌}
use borrow.Author.Tests.{lt-ltb, le-leb, lt-leb, ne_eqb}
use lib.Dec.{leb}
use Rattle.letters.proofs.Lists.{within_low, within_high}
use Rattle.table.specs.Limits.{most_ticks}
use Rattle.table.specs.declared.Row.{Row}
use Rattle.step.specs.declared.Phase.{Phase}
use Rattle.step.specs.declared.Phase.TheVariants.{Waiting, Trigger, Delay, Action, Broken}
use Rattle.step.specs.Phase.{delay_codes, action_codes, broken_code, code_of}
use Rattle.step.specs.Further.Codes.{phase_of}
use Rattle.step.specs.Valid.{phase_valid}
use Rattle.step.specs.Further.Codes.{code_valid}

-- A row whose bounds fit the codes: what number 17 lets by has at most `most_ticks`.
pub record Bounded (row : Row) : Type 0 where
  pub trigger : row.tmax ≤ most_ticks
  pub delay : row.lmax ≤ most_ticks
  pub action : row.amax ≤ most_ticks

-- The phase of a code, by where the code lies.
pub phase_of_trigger : (c : ℕ) → 1 ≤ c → c ≤ most_ticks → phase_of c ≡ Trigger c
unfolding phase_of
phase_of_trigger c low high = simp (ne_eqb c 0 (omega arith), le-leb c delay_codes high)

pub phase_of_delay : (d : ℕ) → 1 ≤ d → d ≤ most_ticks → phase_of (delay_codes + d) ≡ Delay d
unfolding phase_of
phase_of_delay d low high =
    let back : delay_codes + d - delay_codes ≡ d = omega arith in
    simp (
      ne_eqb (delay_codes + d) 0 (omega arith),
      lt-leb (delay_codes + d) delay_codes (omega arith),
      le-leb (delay_codes + d) action_codes
          (omega arith),
      back,
    )

pub phase_of_action : (a : ℕ) → 1 ≤ a → action_codes + a < broken_code
    → phase_of (action_codes + a) ≡ Action a
unfolding phase_of
phase_of_action a low high =
    let back : action_codes + a - action_codes ≡ a = omega arith in
    simp (
      ne_eqb (action_codes + a) 0 (omega arith),
      lt-leb (action_codes + a) delay_codes (omega arith),
      lt-leb (action_codes + a) action_codes
          (omega arith),
      lt-ltb (action_codes + a) broken_code (omega arith),
      back,
    )

-- The code of a phase that fits its row leads back to the phase.
pub phase_code : (row : Row) (phase : Phase) → Bounded row → phase_valid row phase ≡ true
    → phase_of (code_of phase) ≡ phase
unfolding phase_valid code_of
phase_code row Waiting b h = unfold phase_of in refl
phase_code row (Trigger t) b h = phase_of_trigger t (within_low 1 _ t h)
    (omega (arith, b.trigger, within_high 1 _ t h))
phase_code row (Delay d) b h = phase_of_delay d (within_low 1 _ d h)
    (omega (arith, b.delay, within_high 1 _ d h))
phase_code row (Action a) b h = phase_of_action a (within_low 1 _ a h)
    (omega (arith, b.action, within_high 1 _ a h))
phase_code row Broken b h = unfold phase_of in refl

-- It is a code of one byte.
pub code_low : (row : Row) (phase : Phase) → Bounded row → phase_valid row phase ≡ true
    → code_of phase ≤ broken_code
unfolding phase_valid code_of
code_low row Waiting b h = omega arith
code_low row (Trigger t) b h = omega (arith, b.trigger, within_high 1 _ t h)
code_low row (Delay d) b h = omega (arith, b.delay, within_high 1 _ d h)
code_low row (Action a) b h = omega (arith, b.action, within_high 1 _ a h)
code_low row Broken b h = omega arith

-- Two phases that fit rows and have the same code are the same.
pub code_injective : (r q : Row) (p o : Phase) → Bounded r → Bounded q → phase_valid r p ≡ true
    → phase_valid q o ≡ true
    → code_of p ≡ code_of o → p ≡ o
code_injective r q p o br bq hp ho e = sym (phase_code r p br hp) ∙ ap phase_of e
    ∙ phase_code q o bq ho

-- Where a code of one byte lies.
pub data Place : ℕ → Type 0 where
  waits : Place 0
  triggers : {t : ℕ} → 1 ≤ t → t ≤ most_ticks → Place t
  delays : {d : ℕ} → 1 ≤ d → d ≤ most_ticks → Place (delay_codes + d)
  acts : {a : ℕ} → 1 ≤ a → action_codes + a < broken_code → Place (action_codes + a)
  breaks : Place broken_code

pub place_of : (c : ℕ) → c ≤ broken_code → Place c
place_of c h = go (dec_le c 0) (dec_le c delay_codes) (dec_le c action_codes) (dec_lt c broken_code)
  where
    go : Dec (c ≤ 0) → Dec (c ≤ delay_codes) → Dec (c ≤ action_codes) → Dec (c < broken_code) → Place c
    go (yes z) b d e = subst Place {x = 0} {y = c} (omega arith) waits
    go (no z) (yes b) d e = triggers {t = c} (omega arith) b
    go (no z) (no b) (yes d) e = subst Place {x = delay_codes + (c - delay_codes)} (omega arith)
        (delays {d = c - delay_codes} (omega arith) (omega arith))
    go (no z) (no b) (no d) (yes e) =
        subst Place {x = action_codes + (c - action_codes)} (omega arith)
        (acts {a = c - action_codes} (omega arith) (omega arith))
    go (no z) (no b) (no d) (no e) = subst Place {x = broken_code} (omega arith) breaks

-- The phase of a code has that code.
pub code_phase : (c : ℕ) → c ≤ broken_code → code_of (phase_of c) ≡ c
code_phase c h = go (place_of c h)
  where
    go : {k : ℕ} → Place k → code_of (phase_of k) ≡ k
    go waits = unfold code_of phase_of in refl
    go (triggers low high) = unfold code_of in rw (phase_of_trigger _ low high)
    go (delays low high) = unfold code_of in rw (phase_of_delay _ low high)
    go (acts low high) = unfold code_of in rw (phase_of_action _ low high)
    go breaks = unfold code_of phase_of in refl

leb_shift : (k a b : ℕ) → leb (k + a) (k + b) ≡ leb a b
leb_shift k a b = go (dec_le a b)
  where
    go : Dec (a ≤ b) → leb (k + a) (k + b) ≡ leb a b
    go (yes h) = le-leb (k + a) (k + b) (omega arith) ∙ sym (le-leb a b h)
    go (no h) = lt-leb (k + a) (k + b) (omega arith) ∙ sym (lt-leb a b (omega arith))

-- Number 18 says the same of a code as of its phase.
pub code_valid_lem : (row : Row) (c : ℕ) → Bounded row → c ≤ broken_code
    → code_valid row c ≡ phase_valid row (phase_of c)
code_valid_lem row c b h = go (place_of c h)
  where
    go : {k : ℕ} → Place k → code_valid row k ≡ phase_valid row (phase_of k)
    go waits = unfold code_valid phase_valid phase_of in refl
    go (triggers {t = t} low high) = unfold code_valid phase_valid in
        rw (phase_of_trigger t low high)
        (simp (
          ne_eqb t 0 (omega arith),
          ne_eqb t broken_code (omega arith),
          lt-leb (delay_codes + 1) t (omega arith),
          lt-leb (action_codes + 1) t (omega arith),
          or-false,
        ))
    go (delays {d = d} low high) = unfold code_valid phase_valid in
        rw (phase_of_delay d low high)
        (simp (
          ne_eqb (delay_codes + d) 0 (omega arith),
          ne_eqb (delay_codes + d) broken_code (omega arith),
          le-leb 1 (delay_codes + d)
              (omega arith),
          lt-leb (delay_codes + d) row.tmax (omega (arith, b.trigger)),
          le-leb (delay_codes + 1) (delay_codes + d)
              (omega arith),
          leb_shift delay_codes d row.lmax,
          lt-leb (action_codes + 1) (delay_codes + d) (omega arith),
          le-leb 1 d
              low,
          or-false,
        ))
    go (acts {a = a} low high) = unfold code_valid phase_valid in
        rw (phase_of_action a low high)
        (simp (
          ne_eqb (action_codes + a) 0 (omega arith),
          ne_eqb (action_codes + a) broken_code (omega arith),
          le-leb 1
              (action_codes + a) (omega arith),
          lt-leb (action_codes + a) row.tmax (omega (arith, b.trigger)),
          le-leb (delay_codes + 1)
              (action_codes + a) (omega arith),
          lt-leb (action_codes + a) (delay_codes + row.lmax) (omega (arith, b.delay)),
          le-leb
              (action_codes + 1) (action_codes + a) (omega arith),
          leb_shift action_codes a row.amax,
          le-leb 1 a low,
        ))
    go breaks = unfold code_valid phase_valid phase_of in refl
