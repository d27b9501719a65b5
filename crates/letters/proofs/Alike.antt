-- With s signals a letter is told from the others by its signals: two letters that agree at each
-- of them are the same. Assumes nothing.
use Prim.Native.Nat.{ℕ, zero, suc, ◌+◌, ◌^◌, ◌<◌, ◌≤◌}
use native.Mathlib.Decide.{ℕ_discrete}
use native.Mathlib.Omega.{arith}
use borrow.Author.Tests.{eq-eqb, ne_eqb}
use mathlib.Core.Bool.{Bool, true, false, ◌&&◌, not, cond, true≢false}
use mathlib.Core.Path.{◌≡◌, refl, sym, ap, subst, ◌∙◌}
use lib.Dec.{eqb}
use Rattle.letters.specs.Letter.{bit_at, signal_on}
use Rattle.letters.proofs.Lists.{and_left, and_right}
use Rattle.letters.proofs.Sets.{set_ext}

-- Signal k at the letter l is as it is at the letter a; and so are the n signals from k on.
abbrev pub agrees : ℕ → ℕ → ℕ → Bool
agrees k a l = cond (signal_on a k) (signal_on l k) (not (signal_on l k))

unfoldable pub alike : ℕ → ℕ → ℕ → ℕ → Bool
alike zero k a l = true
alike (suc n) k a l = agrees k a l && alike n (suc k) a l

module _ (a l : ℕ) where
  agrees_bit : (k : ℕ) → agrees k a l ≡ true → bit_at a k ≡ bit_at l k
  agrees_bit k = go (bit_at a k) (bit_at l k)
    where
      go : (x y : Bool) → cond x y (not y) ≡ true → x ≡ y
      go true y h = sym h
      go false true h = absurd (true≢false (sym h))
      go false false h = refl

  alike_bits : (n k : ℕ) → alike n k a l ≡ true → (i : ℕ) → k ≤ i → i < k + n
      → bit_at a i ≡ bit_at l i
  unfolding alike
  alike_bits zero k h i low high = absurd (omega arith)
  alike_bits (suc n) k h i low high =
      let here = agrees_bit k (and_left (agrees k a l) (alike n (suc k) a l) h) in
      let later = and_right (agrees k a l) (alike n (suc k) a l) h in
      go (ℕ_discrete k i) here
      (λ other. alike_bits n (suc k) later i (omega arith) (omega arith))
    where
      go : Dec (k ≡ i) → bit_at a k ≡ bit_at l k → ((k ≡ i → ⊥) → bit_at a i ≡ bit_at l i)
          → bit_at a i ≡ bit_at l i
      go (yes e) here ih = subst (λ (j : ℕ). bit_at a j ≡ bit_at l j) e here
      go (no other) here ih = ih other

pub alike_self : (n k a : ℕ) → alike n k a a ≡ true
unfolding alike
alike_self zero k a = refl
alike_self (suc n) k a = rw (here (bit_at a k)) (alike_self n (suc k) a)
  where
    here : (x : Bool) → cond x x (not x) ≡ true
    here true = refl
    here false = refl

-- All s signals are alike exactly where the letters are equal.
pub alike_eqb : (s a l : ℕ) → a < 2 ^ s → l < 2 ^ s → alike s 0 a l ≡ eqb a l
alike_eqb s a l low high = go (ℕ_discrete a l)
  where
    differ : (t : Bool) → alike s 0 a l ≡ t → (a ≡ l → ⊥) → t ≡ false
    differ true e other =
        absurd (other (set_ext s a l low high
        (λ i h. alike_bits a l s 0 e i (omega arith) (omega arith))))
    differ false e other = refl

    go : Dec (a ≡ l) → alike s 0 a l ≡ eqb a l
    go (yes e) =
        ap (λ (x : ℕ). alike s 0 a x) (sym e) ∙ alike_self s 0 a ∙ sym (eq-eqb a l e)
    go (no other) = differ (alike s 0 a l) refl other ∙ sym (ne_eqb a l other)
