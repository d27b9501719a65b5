-- The set of the numbers below n of which P holds: it is below 2^n, no other number is that set,
-- and a test that tells P gives it. Assumes nothing.
use Prim.Native.Nat.{ℕ, ◌^◌, ◌<◌, ◌≤◌}
use native.Mathlib.Omega.{arith}
use mathlib.Core.Bool.{Bool, true, false}
use mathlib.Core.Logic.{◌↔◌}
use mathlib.Core.Path.{◌≡◌, refl, sym, ◌∙◌}
use Rattle.letters.specs.Letter.{bit_at, set_of}
use Rattle.letters.specs.Sets.{IsSet}
use Rattle.letters.proofs.Bits.{bits_below, bit_place}
use Rattle.letters.proofs.Sets.{in_set_of, set_of_lt, set_ext}

-- Two tests that hold together are the same.
same_test : (a b : Bool) → (a ≡ true → b ≡ true) → (b ≡ true → a ≡ true) → a ≡ b
same_test true b there back = sym (there refl)
same_test false true there back = back refl
same_test false false there back = refl

module _ (n : ℕ) (P : ℕ → Type 0) where
  pub is_set_low : (set : ℕ) → IsSet n P set → set < 2 ^ n
  is_set_low set is = bits_below set n (λ i far. go i far (bit_at set i) refl)
    where
      go : (i : ℕ) → n ≤ i → (b : Bool) → bit_at set i ≡ b → bit_at set i ≡ false
      go i far true e = absurd (omega (arith, ((is i).0 e).0))
      go i far false e = e

  pub is_set_only : (one other : ℕ) → IsSet n P one → IsSet n P other → one ≡ other
  is_set_only one other p q =
      set_ext n one other (is_set_low one p) (is_set_low other q)
      (λ i low. same_test (bit_at one i) (bit_at other i)
      (λ e. (q i).1 ((p i).0 e)) (λ e. (p i).1 ((q i).0 e)))

  pub set_of_is : (test : ℕ → Bool) → ((i : ℕ) → i < n → (test i ≡ true) ↔ P i)
      → IsSet n P (set_of n test)
  set_of_is test tells i = (
    λ e.
        let low = bit_place (set_of n test) n i (set_of_lt n test) e in
        (low, (tells i low).0 (sym (in_set_of n i test low) ∙ e)),
    λ (low, holds). in_set_of n i test low ∙ (tells i low).1 holds,
  )
