-- Bits of numbers, and numbers as sets of letters. Assumes nothing.
use Prim.Native.Nat.{ℕ, zero, suc, ◌+◌, ◌*◌, ◌/◌, ◌%◌, ◌^◌, ◌<◌, ◌≤◌}
use native.Mathlib.Decide.{dec_lt}
use native.Mathlib.Nat.{div-one, div-eq_of_lt, lt_of_lt_of_le, one-mul, div-lt_iff_lt-mul}
use native.Mathlib.Omega.{arith}
use native.Mathlib.Numerals.{one-add}
use mathlib.Core.Bool.{Bool, true, false, true≢false}
use mathlib.Core.Path.{◌≡◌, refl, sym, ap, ◌∙◌}
use borrow.Author.Tests.{lt-ltb, ltb-true, eqb-false}
use lib.Dec.{eqb, lit<}
use lib.Pow.{pow_pos, pow_mono, shr-shr, shl_exact}
use Rattle.letters.specs.Letter.{bit_at, bit, in_set, letters, set_valid, set_bits, width}

-- Bit 0, and the bits above it.
pub bit_zero : (x : ℕ) → bit_at x 0 ≡ eqb (x % 2) 1
unfolding bit_at
bit_zero x = rw div-one

pub bit_suc : (x k : ℕ) → bit_at x (suc k) ≡ bit_at (x / 2) k
unfolding bit_at
bit_suc x k = rw (shr-shr x 1 k, one-add)

-- A number below 2^n has no bit from n on.
pub bit_high : (x n k : ℕ) → x < 2 ^ n → n ≤ k → bit_at x k ≡ false
unfolding bit_at
bit_high x n k low h = rw (div-eq_of_lt (lt_of_lt_of_le low (pow_mono {i = n} {j = k} h)))

pub bit_place : (x n k : ℕ) → x < 2 ^ n → bit_at x k ≡ true → k < n
bit_place x n k low e = go (dec_lt k n)
  where
    go : Dec (k < n) → k < n
    go (yes h) = h
    go (no h) = absurd (true≢false (sym e ∙ bit_high x n k low (omega arith)))

pub bit_lt : (b : Bool) → bit b < 2
bit_lt true = omega arith
bit_lt false = omega arith

pub bit_eqb : (x : ℕ) → x < 2 → bit (eqb x 1) ≡ x
bit_eqb zero p = refl
bit_eqb (suc zero) p = refl
bit_eqb (suc (suc x)) p = absurd (omega arith)

pub eqb_bit : (b : Bool) → eqb (bit b) 1 ≡ b
eqb_bit true = refl
eqb_bit false = refl

pub bit_injective : (a b : Bool) → bit a ≡ bit b → a ≡ b
bit_injective a b e = sym (eqb_bit a) ∙ ap (λ (x : ℕ). eqb x 1) e ∙ eqb_bit b

-- The signals that have as many letters as a set has bits.
abbrev pub set_signals : ℕ
set_signals = 6

-- With no more of them a set can hold all letters.
pub letters_few : (s : ℕ) → s ≤ set_signals → letters s ≤ set_bits
letters_few s few = pow_mono {i = s} {j = set_signals} few

pub width_letters : (s : ℕ) → s ≤ set_signals → width s ≡ letters s
width_letters s few = omega (arith, letters_few s few)

-- What the code's `1 << k` is.
pub one_shifted : (k : ℕ) → k < set_bits → (1 * 2 ^ k) % 2 ^ set_bits ≡ 2 ^ k
one_shifted k h = shl_exact 1 k set_bits (lit< tt) (omega arith) ∙ one-mul (2 ^ k)

-- A number with no bit is 0, and one with no bit from n on is below 2^n.
bits_none : (n x : ℕ) → x ≤ n → ((k : ℕ) → bit_at x k ≡ false) → x ≡ 0
bits_none zero x h none = omega arith
bits_none (suc n) x h none =
    let half = bits_none n (x / 2) (omega arith) (λ k. sym (bit_suc x k) ∙ none (suc k)) in
    omega (arith, eqb-false (x % 2) 1 (sym (bit_zero x) ∙ none 0))

pub bits_below : (x n : ℕ) → ((k : ℕ) → n ≤ k → bit_at x k ≡ false) → x < 2 ^ n
unfolding bit_at
bits_below x n none =
    let high = bits_none (x / 2 ^ n) (x / 2 ^ n) (omega arith)
    (λ k. rw shr-shr (none (n + k) (omega arith))) in
    rw one-mul at ((div-lt_iff_lt-mul {x = x} {y = 1} (pow_pos n)).0 (omega arith))

-- A set fits where no letter from 2^s on is in it, and only there.
pub set_valid_if : (s set : ℕ) → set_valid s set ≡ true
    → (l : ℕ) → letters s ≤ l → in_set set l ≡ false
set_valid_if s set fits l h = bit_high set (letters s) l (ltb-true set (2 ^ letters s) fits) h

pub set_valid_only_if : (s set : ℕ) → ((l : ℕ) → letters s ≤ l → in_set set l ≡ false)
    → set_valid s set ≡ true
set_valid_only_if s set none = lt-ltb set (2 ^ letters s) (bits_below set (letters s) none)
