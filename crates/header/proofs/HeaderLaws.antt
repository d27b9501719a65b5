-- Line 1: what the tests of the code say of the numbers 4 and 5. Assumes nothing.
use Prim.Native.Nat.{ℕ}
use native.Mathlib.Omega.{arith}
use mathlib.Core.Bool.{Bool, true, false, ◌&&◌, cond, and-true, and-false}
use mathlib.Core.List.{List, [], ◌∷◌}
use mathlib.Core.Path.{◌≡◌, refl, ◌∙◌}
use borrow.Author.Tests.{eq-eqb, ne_eqb}
use native.Mathlib.Decide.{ℕ_discrete}
use lib.Dec.{eqb}
use lib.ListN.{length, get_or, take, drop, length-drop}
use Rattle.std.specs.Prelude.{Result, Ok, Err}
use Rattle.letters.specs.Lists.{every, same_bytes}
use Rattle.letters.proofs.Lists.{and_left, and_right}
use Rattle.text.specs.Words.{PNP, version1}
use Rattle.text.specs.declared.Version.{Version}
use Rattle.text.specs.declared.Version.TheVariants.{First}
use Rattle.header.specs.Header.{is_digit16}
use Rattle.header.specs.Inner.Header.{version_answer}

-- Four digits, one by one.
regroup : (a b c d : Bool) → (a && (b && (c && (d && true)))) ≡ (a && b && c && d)
regroup a b c d = grind arith

pub digits_four : (s : List ℕ) → length s ≡ 4 → every is_digit16 s
    ≡ (is_digit16 (get_or s 0 0) && is_digit16 (get_or s 1 0) && is_digit16 (get_or s 2 0)
    && is_digit16 (get_or s 3 0))
unfolding every
digits_four [] e = absurd (omega arith)
digits_four (a ∷ []) e = absurd (omega arith)
digits_four (a ∷ b ∷ []) e = absurd (omega arith)
digits_four (a ∷ b ∷ c ∷ []) e = absurd (omega arith)
digits_four (a ∷ b ∷ c ∷ d ∷ []) e =
    regroup (is_digit16 a) (is_digit16 b) (is_digit16 c) (is_digit16 d)
digits_four (a ∷ b ∷ c ∷ d ∷ x ∷ xs) e = absurd (omega arith)

module _ (l : List ℕ) where
  abbrev four_digits : Bool
  four_digits = eqb (length (drop 4 l)) 4 && every is_digit16 (drop 4 l)

  -- Four digits past `PNP `: the length of the line, and that they are digits.
  shaped_digits : (eqb (length l) 8 && every is_digit16 (drop 4 l)) ≡ four_digits
  shaped_digits = go (ℕ_discrete (length l) 8)
    where
      go : Dec (length l ≡ 8) → (eqb (length l) 8 && every is_digit16 (drop 4 l)) ≡ four_digits
      go (yes e) = rw (eq-eqb (length l) 8 e, eq-eqb (length (drop 4 l)) 4 (omega (arith, length-drop 4 l)))
      go (no e) = rw (ne_eqb (length l) 8 e, ne_eqb (length (drop 4 l)) 4 (λ z. e (omega (arith, length-drop 4 l))))

  pub header_word : same_bytes (take 4 l) PNP ≡ false → version_answer l ≡ Err 4
  unfolding version_answer
  header_word h = rw (h, and-false (eqb (length l) 8))

  pub header_digits : four_digits ≡ false → version_answer l ≡ Err 4
  unfolding version_answer
  header_digits h = go (same_bytes (take 4 l) PNP) refl
    where
      go : (t : Bool) → same_bytes (take 4 l) PNP ≡ t
          → cond {A = Result Version ℕ} (eqb (length l) 8 && t && every is_digit16 (drop 4 l))
          (cond (same_bytes (drop 4 l) version1) (Ok First) (Err 5)) (Err 4) ≡ Err 4
      go true e = rw (and-true (eqb (length l) 8), shaped_digits, h)
      go false e = rw (and-false (eqb (length l) 8))

  pub header_version : same_bytes (take 4 l) PNP ≡ true → four_digits ≡ true
      → (b : Bool) → same_bytes (drop 4 l) version1 ≡ b
      → version_answer l ≡ cond b (Ok First) (Err 5)
  unfolding version_answer
  header_version w d b v =
      let long = and_left (eqb (length l) 8) (every is_digit16 (drop 4 l)) (shaped_digits ∙ d) in
      let right = and_right (eqb (length l) 8) (every is_digit16 (drop 4 l)) (shaped_digits ∙ d) in
      rw (long, w, right, v)
