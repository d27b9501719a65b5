-- `bound_of` says that bytes are a bound exactly where they are one of the texts `0` to `60`.
-- Assumes nothing.
use Prim.Native.Nat.{ℕ, zero, suc, ◌+◌, ◌-◌, ◌*◌, ◌/◌, ◌%◌, ◌≤◌, ◌<◌}
use borrow.Author.Tests.{lt-ltb, le-ltb, leb-true, le-leb}
use native.Mathlib.Decide.{dec_lt}
use native.Mathlib.Omega.{arith}
use mathlib.Core.Bool.{Bool, true, false, ◌&&◌, cond}
use mathlib.Core.List.{List, [], ◌∷◌, ◌++◌}
use Rattle.std.specs.Prelude.{Option, Some, None}
use mathlib.Core.Path.{◌≡◌, refl, ◌∙◌}
use lib.Dec.{leb, ltb}
use lib.ListN.{length, get_or}
use Rattle.letters.specs.Lists.{within, every}
use Rattle.letters.proofs.Lists.{and_left, and_right, every_append, within_true, within_bounds}
use Rattle.table.specs.Limits.{most_ticks}
use Rattle.text.specs.Bounds.{digits, decimal, IsBound}
use Rattle.text.specs.Inner.Bounds.{one_digit, two_digits, bound_of}
use Rattle.text.specs.Lines.{count}
use Rattle.text.proofs.Decimals.{decimal_few, decimal_more}
use Rattle.text.proofs.Joins.{passing_free}

-- A number of two digits.
decimal_two : (n : ℕ) → 10 ≤ n → n < 100 → decimal n ≡ (48 + n / 10) ∷ (48 + n % 10) ∷ []
decimal_two n h g = decimal_more n h ∙ rw (decimal_few (n / 10) (omega arith))

-- Each bound is found.
pub bound_of_complete : (xs : List ℕ) (n : ℕ) → IsBound xs n → bound_of xs ≡ Some n
unfolding bound_of
bound_of_complete xs n h = go (dec_lt n 10)
  where
    go : Dec (n < 10) → bound_of xs ≡ Some n
    go (yes few) =
        let value : 48 + n - 48 ≡ n = omega arith in
        rw (
          ← h.bytes,
          decimal_few n few,
          within_true 48 57 (48 + n) (omega arith) (omega arith),
          value,
        )
    go (no many) =
        let value : 10 * (48 + n / 10 - 48) + (48 + n % 10 - 48) ≡ n = omega arith in
        let first = within_true 49 57 (48 + n / 10) (omega arith) (omega arith) in
        let second = within_true 48 57 (48 + n % 10) (omega arith) (omega arith) in
        rw (
          ← h.bytes,
          decimal_two n (omega arith) (omega arith),
          first,
          second,
          value,
          le-leb n most_ticks h.small,
        )

pub bound_of_wrong : (xs : List ℕ) → bound_of xs ≡ None → (n : ℕ) → IsBound xs n → ⊥
bound_of_wrong xs e n h =
    let found = bound_of_complete xs n h in
    let z : ◌≡◌ {A = ℕ} 0 1 = cc in
    omega arith

-- What is found is a bound.
cond_value : (t : Bool) (v n : ℕ) → cond t (Some v) None ≡ Some n → (t ≡ true) × (v ≡ n)
cond_value true v n e = (refl, cc)
cond_value false v n e = absurd (let z : ◌≡◌ {A = ℕ} 0 1 = cc in omega arith)

one_digit_right : (a n : ℕ) → one_digit a ≡ Some n → IsBound (a ∷ []) n
one_digit_right a n e =
    let told = cond_value (within 48 57 a) (a - 48) n e in
    let digit = within_bounds 48 57 a told.0 in
    let same : 48 + n ≡ a = omega arith in
    record { small = omega arith; bytes = decimal_few n (omega arith) ∙ rw same }

two_digits_right : (a b n : ℕ) → two_digits a b ≡ Some n → IsBound (a ∷ b ∷ []) n
two_digits_right a b n e =
    let v = 10 * (a - 48) + (b - 48) in
    let told = cond_value (within 49 57 a && within 48 57 b && leb v most_ticks) v n e in
    let both = and_left (within 49 57 a && within 48 57 b) (leb v most_ticks) told.0 in
    let first = within_bounds 49 57 a (and_left (within 49 57 a) (within 48 57 b) both) in
    let second = within_bounds 48 57 b (and_right (within 49 57 a) (within 48 57 b) both) in
    let most = leb-true v most_ticks
    (and_right (within 49 57 a && within 48 57 b) (leb v most_ticks) told.0) in
    let same : 48 + n / 10 ≡ a = omega arith in
    let same-too : 48 + n % 10 ≡ b = omega arith in
    record {
      small = omega arith;
      bytes = decimal_two n (omega arith) (omega arith) ∙ rw (same, same-too);
    }

pub bound_of_right : (xs : List ℕ) (n : ℕ) → bound_of xs ≡ Some n → IsBound xs n
unfolding bound_of
bound_of_right [] n e = absurd (let z : ◌≡◌ {A = ℕ} 0 1 = cc in omega arith)
bound_of_right (a ∷ []) n e = one_digit_right a n e
bound_of_right (a ∷ b ∷ []) n e = two_digits_right a b n e
bound_of_right (a ∷ b ∷ c ∷ xs) n e = absurd (let z : ◌≡◌ {A = ℕ} 0 1 = cc in omega arith)

pub bound_of_none : (xs : List ℕ) → ((n : ℕ) → IsBound xs n → ⊥) → bound_of xs ≡ None
bound_of_none xs h = go (bound_of xs) refl
  where
    go : (b : Option ℕ) → bound_of xs ≡ b → b ≡ None
    go (Some n) e = absurd (h n (bound_of_right xs n e))
    go None e = refl

pub bound_of_value_small : (xs : List ℕ) (n : ℕ) → bound_of xs ≡ Some n → n ≤ most_ticks
bound_of_value_small xs n e = (bound_of_right xs n e).small

-- `bound_of` by how many bytes there are.
pub bound_of_one : (xs : List ℕ) → length xs ≡ 1 → bound_of xs ≡ one_digit (get_or xs 0 0)
unfolding bound_of
bound_of_one [] h = absurd (omega arith)
bound_of_one (a ∷ []) h = refl
bound_of_one (a ∷ b ∷ []) h = absurd (omega arith)
bound_of_one (a ∷ b ∷ c ∷ xs) h = absurd (omega arith)

pub bound_of_two : (xs : List ℕ) → length xs ≡ 2
    → bound_of xs ≡ two_digits (get_or xs 0 0) (get_or xs 1 0)
unfolding bound_of
bound_of_two [] h = absurd (omega arith)
bound_of_two (a ∷ []) h = absurd (omega arith)
bound_of_two (a ∷ b ∷ []) h = refl
bound_of_two (a ∷ b ∷ c ∷ xs) h = absurd (omega arith)

pub bound_of_other : (xs : List ℕ) → (length xs ≡ 1 → ⊥) → (length xs ≡ 2 → ⊥)
    → bound_of xs ≡ None
unfolding bound_of
bound_of_other [] h g = refl
bound_of_other (a ∷ []) h g = absurd (h refl)
bound_of_other (a ∷ b ∷ []) h g = absurd (g refl)
bound_of_other (a ∷ b ∷ c ∷ xs) h g = refl

-- A number is written in digits alone.
digits_within : (k n : ℕ) → every (within 48 57) (digits k n) ≡ true
unfolding digits every
digits_within zero n = refl
digits_within (suc k) n = go (dec_lt n 10) (digits_within k (n / 10))
  where
    go : Dec (n < 10) → every (within 48 57) (digits k (n / 10)) ≡ true
        → every (within 48 57) (cond (ltb n 10) ((48 + n) ∷ [])
        (digits k (n / 10) ++ ((48 + n % 10) ∷ []))) ≡ true
    go (yes few) ih = rw (lt-ltb n 10 few, within_true 48 57 (48 + n) (omega arith) (omega arith))
    go (no many) ih =
        let last = within_true 48 57 (48 + n % 10) (omega arith) (omega arith) in
        rw (le-ltb n 10 (omega arith))
        (every_append (within 48 57) (digits k (n / 10)) ((48 + n % 10) ∷ []) ∙ rw (ih, last))

pub decimal_within : (n : ℕ) → every (within 48 57) (decimal n) ≡ true
unfolding decimal
decimal_within n = digits_within (suc n) n

pub decimal_free : (b : ℕ) → within 48 57 b ≡ false → (n : ℕ) → count b (decimal n) ≡ 0
decimal_free b e n = passing_free (within 48 57) b e (decimal n) (decimal_within n)
