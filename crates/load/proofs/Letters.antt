-- The numbers and the letters of a load. Assumes nothing.
use Prim.Native.Nat.{ℕ, zero, suc, ◌%◌, ◌<◌, ◌≤◌}
use native.Mathlib.Decide.{dec_le}
use native.Mathlib.Nat.{mod-lt, mod-eq_of_lt}
use native.Mathlib.Omega.{arith}
use mathlib.Core.List.{List, [], ◌∷◌, ◌++◌}
use mathlib.Core.Path.{◌≡◌, refl, sym, ap, ◌∙◌}
use lib.ListN.{length, get_or}
use lib.Pow.{pow_pos}
use lib.Seq.{ext_get_or}
use Rattle.letters.specs.Letter.{letters, set_bits, width}
use Rattle.traces.specs.Trace.{AllBelow}
use Rattle.load.specs.Load.{next_number, numbers_from, letter_of, load_of}
use Rattle.load.specs.Further.Numbers.{IsLoad}

-- There is a letter to take; and of numbers below 64 it is the same whether all letters are
-- counted or the most that a set can hold.
pub width_positive : (s : ℕ) → 0 < width s
width_positive s = omega (arith, pow_pos s)

pub letter_narrow : (s x : ℕ) → x < set_bits → x % width s ≡ x % letters s
letter_narrow s x low = go (dec_le (letters s) set_bits)
  where
    go : Dec (letters s ≤ set_bits) → x % width s ≡ x % letters s
    go (yes few) = let narrow : width s ≡ letters s = omega arith in rw narrow
    go (no many) =
        let all : width s ≡ set_bits = omega arith in
        let wide : x < letters s = omega arith in
        rw all (mod-eq_of_lt low ∙ sym (mod-eq_of_lt wide))

-- The number after so many ticks.
unfoldable pub number_after : ℕ → ℕ → ℕ
number_after start zero = start
number_after start (suc k) = next_number (number_after start k)

number_first : (start k : ℕ) → number_after (next_number start) k ≡ number_after start (suc k)
unfolding number_after
number_first start zero = refl
number_first start (suc k) = ap next_number (number_first start k)

module _ (s : ℕ) where
  pub load_length : (start ticks : ℕ) → length (load_of s start ticks) ≡ ticks
  unfolding numbers_from
  load_length start zero = refl
  load_length start (suc ticks) = ap suc (load_length (next_number start) ticks)

  -- The last letter is that of the number after the last tick.
  pub load_snoc : (start k : ℕ)
      → load_of s start (suc k) ≡ load_of s start k ++ (letter_of s (number_after start (suc k)) ∷ [])
  unfolding numbers_from number_after
  load_snoc start zero = refl
  load_snoc start (suc k) =
      ap (◌∷◌ (letter_of s (next_number start))) (load_snoc (next_number start) k
      ∙ ap (λ (n : ℕ). load_of s (next_number start) k ++ (letter_of s n ∷ []))
      (number_first start (suc k)))

  pub load_letter : (start ticks k : ℕ) → k < ticks
      → get_or (load_of s start ticks) k 0 ≡ letter_of s (number_after start (suc k))
  unfolding numbers_from number_after
  load_letter start zero k h = absurd (omega arith)
  load_letter start (suc ticks) zero h = refl
  load_letter start (suc ticks) (suc k) h =
      load_letter (next_number start) ticks k (omega arith)
      ∙ ap (letter_of s) (number_first start (suc k))

  -- Each is a letter of the table.
  pub letter_below : (number : ℕ) → letter_of s number < letters s
  unfolding letter_of
  letter_below number = mod-lt _ (pow_pos s)

  pub load_below : (start ticks : ℕ) → AllBelow (letters s) (load_of s start ticks)
  unfolding numbers_from
  load_below start zero = tt
  load_below start (suc ticks) =
      (letter_below (next_number start), load_below (next_number start) ticks)

  -- The list is the one that is described, and no other.
  module _ (start ticks : ℕ) where
    pub load_described : IsLoad s start ticks (load_of s start ticks)
    unfolding number_after next_number letter_of
    load_described = record {
      number = number_after start;
      starts = refl;
      changes = λ k. refl;
      long = load_length start ticks;
      letter = λ k h. load_letter start ticks k h;
    }

    pub load_only : (w : List ℕ) → IsLoad s start ticks w → w ≡ load_of s start ticks
    unfolding number_after next_number letter_of
    load_only w is =
        ext_get_or 0 w (load_of s start ticks) (is.long ∙ sym (load_length start ticks))
        (λ k h. same_letter k (omega (arith, is.long)))
      where
        same_number : (k : ℕ) → is.number k ≡ number_after start k
        same_number zero = is.starts
        same_number (suc k) = is.changes k ∙ ap next_number (same_number k)

        same_letter : (k : ℕ) → k < ticks → get_or w k 0 ≡ get_or (load_of s start ticks) k 0
        same_letter k h = is.letter k h ∙ ap (letter_of s) (same_number (suc k))
            ∙ sym (load_letter start ticks k h)
