-- The running counters find exactly the bytes with over 8 open parentheses at some place; and their
-- turn at byte i, `-next` where it goes on, `-stop` where it settles the answer, `-end` past the
-- last. Assumes nothing.
use Prim.Native.Char.{code}
use Prim.Native.Nat.{ℕ, zero, suc, ◌+◌, ◌≤◌, ◌<◌}
use native.Mathlib.Numerals.{add-one}
use native.Mathlib.Omega.{arith}
use borrow.Author.Tests.{ltb-true, ltb-false}
use mathlib.Core.Bool.{Bool, true, false, ◌||◌, cond, true≢false}
use mathlib.Core.List.{List, [], ◌∷◌}
use mathlib.Core.Path.{◌≡◌, refl, sym, ap}
use lib.Dec.{eqb, ltb}
use lib.ListN.{length, get_or, take, drop, take-append-drop, drop_of_length-le}
use lib.Seq.{drop-cons}
use mir.Val.{bool_byte}
use Rattle.text.specs.Lines.{count}
use Rattle.text.proofs.Splits.{count_append}
use Rattle.conditions.specs.Inner.Judge.{is_byte, deep}
use Rattle.conditions.specs.Depth.{Shallow, TooDeep}

count_cons : (b x : ℕ) (xs : List ℕ) → count b (x ∷ xs) ≡ is_byte x b + count b xs
unfolding count
count_cons b x xs = go (eqb x b)
  where
    go : (t : Bool) → cond t (suc (count b xs)) (count b xs) ≡ cond t 1 0 + count b xs
    go true = omega arith
    go false = omega arith

-- OpenOver 8 are open before place i of the bytes, or at most 8 are, after o opening and c closing
-- ones.
abbrev OpenOver : ℕ → ℕ → List ℕ → ℕ → Type 0
OpenOver o c xs i = c + count (code ")") (take i xs) + 8 < o + count (code "(") (take i xs)

abbrev OpenWithin : ℕ → ℕ → List ℕ → ℕ → Type 0
OpenWithin o c xs i = o + count (code "(") (take i xs) ≤ c + count (code ")") (take i xs) + 8

deep_over : (xs : List ℕ) (o c : ℕ) → deep o c xs ≡ true → (i : ℕ) × OpenOver o c xs i
unfolding deep count
deep_over [] o c e = absurd (true≢false (sym e))
deep_over (x ∷ xs) o c e = go (ltb (c' + 8) o') refl e (deep_over xs o' c')
  where
    o' : ℕ
    o' = o + is_byte x (code "(")

    c' : ℕ
    c' = c + is_byte x (code ")")

    go : (t : Bool) → ltb (c' + 8) o' ≡ t → (t || deep o' c' xs) ≡ true
        → (deep o' c' xs ≡ true → (i : ℕ) × OpenOver o' c' xs i) → (i : ℕ) × OpenOver o c (x ∷ xs) i
    go true p q ih =
        let here = ltb-true (c' + 8) o' p in
        (1, omega (arith, count_cons (code "(") x [], count_cons (code ")") x []))
    go false p q ih =
        let later = ih q in
        let ys = take later.0 xs in (
          suc later.0,
          omega (arith, later.1, count_cons (code "(") x ys, count_cons (code ")") x ys),
        )

deep_within : (xs : List ℕ) (o c : ℕ) → deep o c xs ≡ false → o ≤ c + 8 → (i : ℕ)
    → OpenWithin o c xs i
unfolding deep count
deep_within [] o c e h zero = omega arith
deep_within [] o c e h (suc i) = omega arith
deep_within (x ∷ xs) o c e h zero = omega arith
deep_within (x ∷ xs) o c e h (suc i) = go (ltb (c' + 8) o') refl e (deep_within xs o' c')
  where
    o' : ℕ
    o' = o + is_byte x (code "(")

    c' : ℕ
    c' = c + is_byte x (code ")")

    go : (t : Bool) → ltb (c' + 8) o' ≡ t → (t || deep o' c' xs) ≡ false
        → (deep o' c' xs ≡ false → o' ≤ c' + 8 → (i : ℕ) → OpenWithin o' c' xs i)
        → OpenWithin o c (x ∷ xs) (suc i)
    go true p q ih = absurd (true≢false q)
    go false p q ih =
        let later = ih q (ltb-false (c' + 8) o' p) i in
        let ys = take i xs in
        omega (arith, count_cons (code "(") x ys, count_cons (code ")") x ys)

module _ (xs : List ℕ) where
  pub deep_true : deep 0 0 xs ≡ true → TooDeep xs
  deep_true e = let h = deep_over xs 0 0 e in record { place = h.0; over = omega arith }

  pub deep_false : deep 0 0 xs ≡ false → Shallow xs
  deep_false e = record { upto = λ i. omega (arith, deep_within xs 0 0 e (omega arith) i) }

  not_both : TooDeep xs → Shallow xs → ⊥
  not_both d h = omega (arith, h.upto d.place, d.over)

  pub shallow_false : Shallow xs → deep 0 0 xs ≡ false
  shallow_false h = go (deep 0 0 xs) refl
    where
      go : (t : Bool) → deep 0 0 xs ≡ t → t ≡ false
      go true e = absurd (not_both (deep_true e) h)
      go false e = refl

  pub too_deep_true : TooDeep xs → deep 0 0 xs ≡ true
  too_deep_true h = go (deep 0 0 xs) refl
    where
      go : (t : Bool) → deep 0 0 xs ≡ t → t ≡ true
      go true e = refl
      go false e = absurd (not_both h (deep_false e))

-- Bytes without an opening parenthesis.
pub free_shallow : (xs : List ℕ) → count (code "(") xs ≡ 0 → Shallow xs
free_shallow xs free = record {
  upto = λ i. omega (
    arith,
    count_append (code "(") (take i xs) (drop i xs),
    ap (count (code "(")) (take-append-drop i xs),
  );
}

-- The loop's turn, where `usize::from` of a test counts its byte.
byte_counts : (b x : ℕ) → bool_byte (eqb b x) ≡ is_byte b x
byte_counts b x = go (eqb b x)
  where
    go : (t : Bool) → bool_byte t ≡ cond t 1 0
    go true = refl
    go false = refl

pub byte_most : (t : Bool) → bool_byte t ≤ 1
byte_most true = omega arith
byte_most false = omega arith

module _ (s : List ℕ) (o c i : ℕ) (h : i < length s) where
  abbrev opened : ℕ
  opened = o + bool_byte (eqb (get_or s i 0) (code "("))

  abbrev closed : ℕ
  closed = c + bool_byte (eqb (get_or s i 0) (code ")"))

  pub deep_turn : deep o c (drop i s)
      ≡ (ltb (closed + 8) opened || deep opened closed (drop (i + 1) s))
  unfolding deep
  deep_turn = rw (
    add-one,
    drop-cons s i 0 h,
    byte_counts (get_or s i 0) (code "("),
    byte_counts (get_or s i 0) (code ")"),
  )

pub deep_end : (s : List ℕ) (o c i : ℕ) → length s ≤ i → deep o c (drop i s) ≡ false
unfolding deep
deep_end s o c i h = rw (drop_of_length-le s h)
