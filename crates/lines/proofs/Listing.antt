-- The numbers of listed rows in a line: no other bytes than spaces and digits, and no two sets of
-- rows alike. Assumes nothing.
use Prim.Native.Char.{code}
use Prim.Native.Nat.{ℕ, zero, suc, ◌+◌, ◌^◌, ◌<◌}
use native.Mathlib.Nat.{zero-add}
use native.Mathlib.Omega.{arith}
use mathlib.Core.Bool.{Bool, true, false, cond}
use mathlib.Core.List.{List, [], ◌∷◌, ◌++◌, map, append-nil, append_cancel_left}
use mathlib.Core.List.{head-eq_of_cons-eq, tail-eq_of_cons-eq}
use mathlib.Core.Path.{◌≡◌, refl, sym, ap, ap₂, ◌∙◌}
use lib.Dec.{eqb}
use lib.ListN.{length}
use Rattle.letters.specs.Letter.{bit_at, members}
use Rattle.letters.specs.Lists.{within}
use Rattle.letters.proofs.Sets.{set_ext}
use Rattle.text.specs.Bounds.{decimal}
use Rattle.text.specs.Lines.{LF, space, count}
use Rattle.text.specs.Inner.Cut.{front}
use Rattle.text.proofs.Bounds.{decimal_free}
use Rattle.text.proofs.Decimals.{decimal_injective}
use Rattle.text.proofs.Splits.{count_append, front_append, front_whole}
use Rattle.lines.specs.Line.{row_numbers, spaced, spaced_or_dash}

pub spaced_free : (b : ℕ) → within 48 57 b ≡ false → eqb space b ≡ false
    → (numbers : List ℕ) → count b (spaced numbers) ≡ 0
unfolding spaced count
spaced_free b digit blank [] = refl
spaced_free b digit blank (number ∷ more) =
    rw blank (count_append b (decimal number) (spaced more)
    ∙ rw (decimal_free b digit number, spaced_free b digit blank more))

pub or_dash_free : (numbers : List ℕ) → count LF (spaced_or_dash numbers) ≡ 0
unfolding spaced_or_dash count
or_dash_free [] = refl
or_dash_free (number ∷ more) = spaced_free LF refl refl (number ∷ more)

-- Bytes that are the same are of the same numbers.
number_front : (number : ℕ) (more : List ℕ)
    → front space (decimal number ++ spaced more) ≡ decimal number
unfolding spaced
number_front number [] =
    rw append-nil (front_whole space (decimal number) (decimal_free space refl number))
number_front number (next ∷ more) =
    front_append space (decimal number) (decimal next ++ spaced more)
    (decimal_free space refl number)

pub spaced_injective : (xs ys : List ℕ) → spaced xs ≡ spaced ys → xs ≡ ys
unfolding spaced
spaced_injective [] [] e = refl
spaced_injective [] (y ∷ ys) e = absurd (omega (arith, ap length e))
spaced_injective (x ∷ xs) [] e = absurd (omega (arith, ap length e))
spaced_injective (x ∷ xs) (y ∷ ys) e =
    let same = tail-eq_of_cons-eq e in
    let first = decimal_injective x y
    (sym (number_front x xs) ∙ ap (front space) same ∙ number_front y ys) in
    let others = append_cancel_left (decimal y) (spaced xs) (spaced ys) (rw first at same) in
    ap₂ ◌∷◌ first (spaced_injective xs ys others)

-- The dash is no number.
abbrev dash : ℕ
dash = code "-"

or_dash_injective : (xs ys : List ℕ) → spaced_or_dash xs ≡ spaced_or_dash ys → xs ≡ ys
unfolding spaced_or_dash count
or_dash_injective [] [] e = refl
or_dash_injective [] (y ∷ ys) e =
    absurd (omega (arith, ap (count dash) e, spaced_free dash refl refl (y ∷ ys)))
or_dash_injective (x ∷ xs) [] e =
    absurd (omega (arith, ap (count dash) e, spaced_free dash refl refl (x ∷ xs)))
or_dash_injective (x ∷ xs) (y ∷ ys) e = spaced_injective (x ∷ xs) (y ∷ ys) e

-- Numbers that are the same are of the same rows: those of the later rows are larger.
numbers_larger : (n r set first : ℕ) (more : List ℕ) → row_numbers n r set ≡ first ∷ more
    → r < first
unfolding members
numbers_larger zero r set first more e = absurd (omega (arith, ap length e))
numbers_larger (suc n) r set first more e =
    go (bit_at set r) (members n (suc r) set) (numbers_larger n (suc r) set first more) e
  where
    go : (b : Bool) (later : List ℕ) → (map suc later ≡ first ∷ more → suc r < first)
        → map suc (cond b (r ∷ later) later) ≡ first ∷ more → r < first
    go true later ih e = omega (arith, head-eq_of_cons-eq e)
    go false later ih e = omega (arith, ih e)

module _ (x y : ℕ) where
  first_same : (n r : ℕ) → row_numbers (suc n) r x ≡ row_numbers (suc n) r y
      → (bit_at x r ≡ bit_at y r) × (row_numbers n (suc r) x ≡ row_numbers n (suc r) y)
  unfolding members
  first_same n r = go (bit_at x r) (bit_at y r)
    where
      xs : List ℕ
      xs = members n (suc r) x

      ys : List ℕ
      ys = members n (suc r) y

      go : (a b : Bool) → map suc (cond a (r ∷ xs) xs) ≡ map suc (cond b (r ∷ ys) ys)
          → (a ≡ b) × (map suc xs ≡ map suc ys)
      go true true e = (refl, tail-eq_of_cons-eq e)
      go true false e = absurd (omega (arith, numbers_larger n (suc r) y (suc r) _ (sym e)))
      go false true e = absurd (omega (arith, numbers_larger n (suc r) x (suc r) _ e))
      go false false e = (refl, e)

  bits_same : (n r : ℕ) → row_numbers n r x ≡ row_numbers n r y
      → (i : ℕ) → i < n → bit_at x (r + i) ≡ bit_at y (r + i)
  bits_same zero r e i h = absurd (omega arith)
  bits_same (suc n) r e zero h =
      let here : r + 0 ≡ r = omega arith in rw here (first_same n r e).0
  bits_same (suc n) r e (suc i) h =
      let later : r + suc i ≡ suc r + i = omega arith in
      rw later (bits_same n (suc r) (first_same n r e).1 i (omega arith))

  pub row_line_injective : (word : List ℕ) (rows : ℕ) → x < 2 ^ rows → y < 2 ^ rows
      → word ++ spaced_or_dash (row_numbers rows 0 x) ≡ word ++ spaced_or_dash (row_numbers rows 0 y)
      → x ≡ y
  row_line_injective word rows low_x low-y e =
      let numbers = or_dash_injective (row_numbers rows 0 x) (row_numbers rows 0 y)
      (append_cancel_left word _ _ e) in
      set_ext rows x y low_x low-y (λ l h. rw zero-add at (bits_same rows 0 numbers l h))
