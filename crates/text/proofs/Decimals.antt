-- Numbers in base ten: digit by digit, how many digits, and no two numbers alike. Assumes nothing.
use Prim.Native.Nat.{ℕ, zero, suc, ◌+◌, ◌-◌, ◌*◌, ◌/◌, ◌%◌, ◌^◌, ◌≤◌, ◌<◌}
use borrow.Author.Tests.{lt-ltb, le-ltb}
use native.Mathlib.Decide.{dec_lt}
use native.Mathlib.Omega.{arith}
use mathlib.Core.List.{List, [], ◌∷◌, ◌++◌}
use mathlib.Core.Path.{◌≡◌, refl, sym, ap, ◌∙◌}
use lib.ListN.{length, length-append}
use Rattle.text.specs.Bounds.{digits, decimal}

-- More digits than are needed change nothing.
digits_enough : (j k n : ℕ) → n < j → n < k → digits j n ≡ digits k n
unfolding digits
digits_enough zero k n h g = absurd (omega arith)
digits_enough (suc j) zero n h g = absurd (omega arith)
digits_enough (suc j) (suc k) n h g =
    go (dec_lt n 10) (λ m. digits_enough j k (n / 10) (omega arith) (omega arith))
  where
    go : Dec (n < 10) → (10 ≤ n → digits j (n / 10) ≡ digits k (n / 10))
        → digits (suc j) n ≡ digits (suc k) n
    go (yes few) ih = rw (lt-ltb n 10 few)
    go (no many) ih = rw (le-ltb n 10 (omega arith), ih (omega arith))

pub decimal_few : (n : ℕ) → n < 10 → decimal n ≡ (48 + n) ∷ []
unfolding decimal digits
decimal_few n h = rw (lt-ltb n 10 h)

pub decimal_more : (n : ℕ) → 10 ≤ n → decimal n ≡ decimal (n / 10) ++ (48 + n % 10) ∷ []
unfolding decimal digits
decimal_more n h = rw (
  le-ltb n 10 h,
  digits_enough n (suc (n / 10)) (n / 10) (omega arith) (omega arith),
)

-- A number below 10^k has at most k digits.
pub digits_length : (j k n : ℕ) → n < 10 ^ suc k → length (digits j n) ≤ suc k
unfolding digits
digits_length zero k n h = omega arith
digits_length (suc j) k n h = go k h (dec_lt n 10) (λ i. digits_length j i (n / 10))
  where
    go : (k : ℕ) → n < 10 ^ suc k → Dec (n < 10)
        → ((i : ℕ) → n / 10 < 10 ^ suc i → length (digits j (n / 10)) ≤ suc i)
        → length (digits (suc j) n) ≤ suc k
    go k low (yes few) ih = rw (lt-ltb n 10 few) (omega arith)
    go zero low (no many) ih = absurd (omega arith)
    go (suc k) low (no many) ih =
        let shorter = ih k (omega arith) in
        rw (le-ltb n 10 (omega arith), length-append) (omega arith)

pub decimal_length : (k n : ℕ) → n < 10 ^ suc k → length (decimal n) ≤ suc k
unfolding decimal
decimal_length k n = digits_length (suc n) k n

-- What digits stand for.
unfoldable value_from : ℕ → List ℕ → ℕ
value_from v [] = v
value_from v (d ∷ ds) = value_from (10 * v + (d - 48)) ds

value_from_snoc : (v : ℕ) (ds : List ℕ) (d : ℕ)
    → value_from v (ds ++ d ∷ []) ≡ 10 * value_from v ds + (d - 48)
unfolding value_from
value_from_snoc v [] d = refl
value_from_snoc v (e ∷ ds) d = value_from_snoc (10 * v + (e - 48)) ds d

digits_value : (j n : ℕ) → n < j → value_from 0 (digits j n) ≡ n
unfolding digits value_from
digits_value zero n h = absurd (omega arith)
digits_value (suc j) n h = go (dec_lt n 10) (λ m. digits_value j (n / 10) (omega arith))
  where
    go : Dec (n < 10) → (10 ≤ n → value_from 0 (digits j (n / 10)) ≡ n / 10)
        → value_from 0 (digits (suc j) n) ≡ n
    go (yes few) ih = rw (lt-ltb n 10 few) (omega arith)
    go (no many) ih =
        rw (le-ltb n 10 (omega arith), value_from_snoc, ih (omega arith)) (omega arith)

pub decimal_injective : (m n : ℕ) → decimal m ≡ decimal n → m ≡ n
unfolding decimal
decimal_injective m n e =
    sym (digits_value (suc m) m (omega arith)) ∙ ap (value_from 0) e
    ∙ digits_value (suc n) n (omega arith)
