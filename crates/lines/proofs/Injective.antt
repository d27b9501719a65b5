-- Lines of different numbers and letters are different, and no line has an LF in it. Assumes
-- nothing.
use Prim.Native.Nat.{ℕ, zero, suc, ◌+◌, ◌<◌}
use borrow.Author.Tests.{ltb-true, ne_eqb}
use native.Mathlib.Nat.{zero-add}
use native.Mathlib.Omega.{arith}
use mathlib.Core.Bool.{true}
use mathlib.Core.List.{List, [], ◌∷◌, ◌++◌, append_assoc, append_cancel_left}
use mathlib.Core.List.{head-eq_of_cons-eq, tail-eq_of_cons-eq}
use mathlib.Core.Path.{◌≡◌, refl, ap, ap₂, ◌∙◌}
use lib.ListN.{get_or, drop}
use Rattle.letters.specs.Letter.{signal_on, bit, letters, letter_valid}
use Rattle.letters.proofs.Bits.{bit_injective}
use Rattle.letters.proofs.Sets.{set_ext}
use Rattle.table.specs.declared.Refusal.{Refusal}
use Rattle.text.specs.Bytes.{bytes}
use Rattle.text.specs.Bounds.{decimal}
use Rattle.text.specs.Lines.{LF, count, Free, and}
use Rattle.text.proofs.Bounds.{decimal_free}
use Rattle.text.proofs.Decimals.{decimal_injective}
use Rattle.text.proofs.Splits.{count_append, append_injective}
use Rattle.lines.specs.Line.{refused_line, signal_values, tick_line, tick_lines}

-- No line has an LF in it.
pub numbered_free : (word : List ℕ) (n : ℕ) → count LF word ≡ 0 → count LF (word ++ decimal n) ≡ 0
numbered_free word n h = count_append LF word (decimal n) ∙ rw (h, decimal_free LF refl n)

pub refused_free : (m n : ℕ) → count LF (refused_line m n) ≡ 0
unfolding count
refused_free m n =
    numbered_free (bytes "refused " ++ decimal m ++ bytes " line ") n
    (count_append LF (bytes "refused " ++ decimal m) (bytes " line ")
    ∙ rw (numbered_free (bytes "refused ") m refl))

values_free : (n k letter : ℕ) → count LF (signal_values n k letter) ≡ 0
unfolding signal_values count
values_free zero k letter = refl
values_free (suc n) k letter =
    rw (ne_eqb (48 + bit (signal_on letter k)) LF (λ e. omega arith)) (values_free n (suc k) letter)

module _ (signals : ℕ) where
  tick_free : (tick letter : ℕ) → count LF (tick_line signals tick letter) ≡ 0
  unfolding count
  tick_free tick letter =
      count_append LF (bytes "tick " ++ decimal tick) (32 ∷ signal_values signals 0 letter)
      ∙ rw (numbered_free (bytes "tick ") tick refl, values_free signals 0 letter)

  pub ticks_free : (tick : ℕ) (w : List ℕ) (more : List (List ℕ)) → Free LF more
      → Free LF (tick_lines signals tick w ++ more)
  unfolding tick_lines
  ticks_free tick [] more f = f
  ticks_free tick (letter ∷ w) more f =
      and (tick_free tick letter) (ticks_free (suc tick) w more f)

-- Byte k of line i.
abbrev pub byte_at : ℕ → ℕ → List (List ℕ) → ℕ
byte_at i k ls = get_or (get_or ls i []) k 0

-- Lines that are the same are of the same numbers,
pub numbered_injective : (word : List ℕ) (m n : ℕ) → word ++ decimal m ≡ word ++ decimal n → m ≡ n
numbered_injective word m n e =
    decimal_injective m n (append_cancel_left word (decimal m) (decimal n) e)

pub refused_injective : (r s : Refusal)
    → refused_line r.number r.line ≡ refused_line s.number s.line → r ≡ s
refused_injective r s e =
    let rest = drop 1 (bytes " line ") in
    let parts = append_injective 32 (decimal r.number) (rest ++ decimal r.line)
    (decimal s.number) (rest ++ decimal s.line) (decimal_free 32 refl r.number)
    (decimal_free 32 refl s.number) (simp append_assoc at (ap (drop 8) e)) in
    ap₂ {C = Refusal} (λ m n. record { number = m; line = n })
    (decimal_injective r.number s.number parts.0)
    (numbered_injective rest r.line s.line parts.1)

-- and of the same letters.
values_injective : (n k x y : ℕ) → signal_values n k x ≡ signal_values n k y
    → (i : ℕ) → i < n → signal_on x (k + i) ≡ signal_on y (k + i)
unfolding signal_values
values_injective zero k x y e i h = absurd (omega arith)
values_injective (suc n) k x y e zero h =
    let here : k + 0 ≡ k = omega arith in
    let bits : bit (signal_on x k) ≡ bit (signal_on y k) = omega (arith, head-eq_of_cons-eq e) in
    rw here (bit_injective (signal_on x k) (signal_on y k) bits)
values_injective (suc n) k x y e (suc i) h =
    let later : k + suc i ≡ suc k + i = omega arith in
    rw later (values_injective n (suc k) x y (tail-eq_of_cons-eq e) i (omega arith))

pub tick_injective : (signals tick x y : ℕ) → letter_valid signals x ≡ true
    → letter_valid signals y ≡ true → tick_line signals tick x ≡ tick_line signals tick y → x ≡ y
tick_injective signals tick x y f g e =
    let same = tail-eq_of_cons-eq (append_cancel_left (bytes "tick " ++ decimal tick)
    (32 ∷ signal_values signals 0 x) (32 ∷ signal_values signals 0 y) e) in
    set_ext signals x y (ltb-true x (letters signals) f) (ltb-true y (letters signals) g)
    (λ l h. rw zero-add at (values_injective signals 0 x y same l h))
