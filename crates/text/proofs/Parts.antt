-- Parts of a slice, as the logic has them, and as the definitions do. Assumes nothing.
use Prim.Native.Nat.{ℕ, ◌-◌}
use Rattle.std.specs.Prelude.{Option, Some, None, Result, Ok, Err}
use Rattle.std.specs.Option.{MatchOption, ok_or}
use Rattle.std.specs.List.{starts_with as begins}
use Rattle.std.specs.Cmp.Lexicographic.{pointwise}
use Rattle.std.proofs.lemmas.Bool.Decides.{nat_tests}
use native.Mathlib.Omega.{arith}
use mathlib.Core.List.{List, [], ◌∷◌}
use mathlib.Core.Path.{◌≡◌, refl, sym, subst}
use lib.ListN.{length, take, drop, length-drop}
use lib.Seq.{take_all}
use lib.Dec.{eqb}
use Rattle.letters.specs.Lists.{same_bytes}
use Rattle.text.specs.Inner.Cut.{front, starts_with}
use Rattle.text.proofs.Splits.{front_take}

-- `&l[a..]`.
pub rest_whole : (l : List ℕ) (a : ℕ) → take (length l - a) (drop a l) ≡ drop a l
rest_whole l a = take_all (length l - a) (drop a l) (rw length-drop (omega arith))

-- `&l[..n]`, where n is what `find` gives.
pub part_front : (b : ℕ) (l : List ℕ) {n : ℕ} → n ≡ length (front b l) → take n l ≡ front b l
part_front b l e = rw e (sym (front_take b l))

-- What the bytes begin with, as the library has it.
eqb_sym : (x y : ℕ) → eqb y x ≡ eqb x y
eqb_sym x y = grind (arith, nat_tests)

pub pointwise_same : (xs ys : List ℕ) → pointwise eqb ys xs ≡ same_bytes xs ys
unfolding same_bytes
pointwise_same [] [] = refl
pointwise_same [] (y ∷ ys) = refl
pointwise_same (x ∷ xs) [] = refl
pointwise_same (x ∷ xs) (y ∷ ys) = rw (eqb_sym x y, pointwise_same xs ys)

pub starts_with_word : (word xs : List ℕ) → begins eqb xs word ≡ starts_with word xs
starts_with_word word xs = pointwise_same (take (length word) xs) word

-- What `ok_or` keeps of what is known of an Option: of None its number, of Some its value.
module _ {A : Type 0} (P : Type 0) (Q : A → Type 0) (n : ℕ) where
  pub none_refused : {r : Result A ℕ} {m : ℕ} (o : Option A) → MatchOption o P Q → r ≡ ok_or o n
      → r ≡ Err m → P × (m ≡ n)
  none_refused None known is e = (known, cc)
  none_refused (Some x) known is e = absurd (let z : ◌≡◌ {A = ℕ} 0 1 = cc in omega arith)

  pub some_kept : {r : Result A ℕ} {x : A} (o : Option A) → MatchOption o P Q → r ≡ ok_or o n
      → r ≡ Ok x → Q x
  some_kept None known is e = absurd (let z : ◌≡◌ {A = ℕ} 0 1 = cc in omega arith)
  some_kept {r} {x} (Some y) known is e = let same : y ≡ x = cc in subst Q same known
