-- Tests of numbers and of lists: what a loop that counts from the front needs, and what passing
-- says of each element. Assumes nothing.
use Prim.Native.Nat.{ℕ, zero, suc, ◌+◌, ◌<◌, ◌≤◌}
use borrow.Author.Tests.{eqb-true, eq-eqb, ne_eqb, leb-true, le-leb, ltb-true, ltb-false}
use native.Mathlib.Numerals.{add-one}
use native.Mathlib.Omega.{arith}
use mathlib.Core.Bool.{Bool, true, false, ◌&&◌, ◌||◌, not, true≢false}
use mathlib.Core.List.{List, ◌++◌}
use mathlib.Core.Logic.{◌⊎◌, inl, inr}
use mathlib.Core.Path.{◌≡◌, refl}
use lib.Dec.{eqb, leb, ltb}
use lib.Pointwise.{bytes_decides}
use Rattle.std.proofs.lemmas.List.Folds.{list_all-append}
use Rattle.std.proofs.lemmas.List.Sums.{AllPass-from_list_all}
use lib.ListN.{length, get_or, take, drop, replicate, length-take, drop_of_length-le}
use lib.Seq.{drop-cons}
use Rattle.letters.specs.Lists.{within, every, same_bytes}

-- Both halves of a test that passed.
pub and_left : (a b : Bool) → (a && b) ≡ true → a ≡ true
and_left true b h = refl
and_left false b h = h

pub and_right : (a b : Bool) → (a && b) ≡ true → b ≡ true
and_right true b h = h
and_right false b h = absurd (let z : ◌≡◌ {A = ℕ} 0 1 = cc in omega arith)

-- Both halves of a choice that failed.
pub or_neither : (a b : Bool) → (a || b) ≡ false → (a ≡ false) × (b ≡ false)
or_neither true b h = absurd (let z : ◌≡◌ {A = ℕ} 0 1 = cc in omega arith)
or_neither false b h = (refl, h)

-- A loop's test that is over at a number, or as soon as another is as wanted.
module _ (n most x wanted : ℕ) where
  pub test_on : (ltb n most && not (eqb x wanted)) ≡ true → n < most
  test_on h = ltb-true n most (and_left (ltb n most) (not (eqb x wanted)) h)

  pub test_over : (ltb n most && not (eqb x wanted)) ≡ false → (most ≤ n) ⊎ (x ≡ wanted)
  test_over h = go (ltb n most) refl (eqb x wanted) refl h
    where
      go : (a : Bool) → ltb n most ≡ a → (b : Bool) → eqb x wanted ≡ b
          → (a && not b) ≡ false → (most ≤ n) ⊎ (x ≡ wanted)
      go false p b q r = inl (ltb-false n most p)
      go true p true q r = inr (eqb-true x wanted q)
      go true p false q r = absurd (true≢false r)

-- A number in a range lies between its ends, and one between them is in it.
module _ (least most n : ℕ) where
  pub within_low : within least most n ≡ true → least ≤ n
  within_low h = leb-true least n (and_left (leb least n) (leb n most) h)

  pub within_high : within least most n ≡ true → n ≤ most
  within_high h = leb-true n most (and_right (leb least n) (leb n most) h)

  pub within_bounds : within least most n ≡ true → (least ≤ n) × (n ≤ most)
  within_bounds h = (within_low h, within_high h)

  pub within_true : least ≤ n → n ≤ most → within least most n ≡ true
  within_true low high = simp (le-leb least n low, le-leb n most high)

module _ {A : Type 0} (test : A → Bool) where
  -- The test of the elements from i on is that of element i and of those after it.
  pub every_drop : (xs : List A) (i : ℕ) (d : A) → i < length xs
      → every test (drop i xs) ≡ (test (get_or xs i d) && every test (drop (i + 1) xs))
  unfolding every
  every_drop xs i d h = rw (drop-cons xs i d h, add-one)

  pub every_end : (xs : List A) (i : ℕ) → length xs ≤ i → every test (drop i xs) ≡ true
  unfolding every
  every_end xs i h = rw (drop_of_length-le xs h)

  -- Where every element passes, the one at i does.
  pub every_at : (xs : List A) (i : ℕ) (d : A) → every test xs ≡ true → i < length xs
      → test (get_or xs i d) ≡ true
  unfolding every
  every_at xs i d e h = AllPass-from_list_all test xs e i d h

  pub every_append : (xs ys : List A) → every test (xs ++ ys) ≡ (every test xs && every test ys)
  unfolding every
  every_append = list_all-append test

  pub every_replicate : (x : A) → test x ≡ true → (k : ℕ) → every test (replicate k x) ≡ true
  unfolding every
  every_replicate x e zero = refl
  every_replicate x e (suc k) = rw e (every_replicate x e k)

-- A loop's turn at element i: `-next` where it goes on, `-stop` where it settles the answer.
module _ {A : Type 0} (test : A → Bool) (xs : List A) (i : ℕ) (d : A) (h : i < length xs) where
  pub every_next : test (get_or xs i d) ≡ true
      → every test (drop i xs) ≡ every test (drop (i + 1) xs)
  every_next e = rw (every_drop test xs i d h, e)

  pub every_stop : test (get_or xs i d) ≡ false → every test (drop i xs) ≡ false
  every_stop e = rw (every_drop test xs i d h, e)

-- A place among the first n elements.
pub lt_length_take : {A : Type 0} (n : ℕ) (xs : List A) (i : ℕ) → i < n → i < length xs
    → i < length (take n xs)
lt_length_take n xs i h k = rw length-take (omega arith)

-- All parts of a test of four that passed.
pub and_four : (a b c d : Bool) → (a && b && c && d) ≡ true
    → (a ≡ true) × (b ≡ true) × (c ≡ true) × (d ≡ true)
and_four a b c d h =
    let abc = and_left (a && b && c) d h in
    let ab = and_left (a && b) c abc in
    (and_left a b ab, and_right a b ab, and_right (a && b) c abc, and_right (a && b && c) d h)

-- Two lists of bytes, place by place.
module _ (xs ys : List ℕ) (i : ℕ) where
  pub same_bytes_next : i < length xs → i < length ys → get_or xs i 0 ≡ get_or ys i 0
      → same_bytes (drop i xs) (drop i ys) ≡ same_bytes (drop (i + 1) xs) (drop (i + 1) ys)
  unfolding same_bytes
  same_bytes_next h k e = rw (drop-cons xs i 0 h, drop-cons ys i 0 k, eq-eqb _ _ e, add-one)

  pub same_bytes_stop : i < length xs → i < length ys → (get_or xs i 0 ≡ get_or ys i 0 → ⊥)
      → same_bytes (drop i xs) (drop i ys) ≡ false
  unfolding same_bytes
  same_bytes_stop h k e = rw (drop-cons xs i 0 h, drop-cons ys i 0 k, ne_eqb _ _ e)

  pub same_bytes_end : length xs ≤ i → length ys ≤ i → same_bytes (drop i xs) (drop i ys) ≡ true
  unfolding same_bytes
  same_bytes_end h k = rw (drop_of_length-le xs h, drop_of_length-le ys k)

-- The test passes at equal lists, and at no others.
pub same_bytes_refl : (xs : List ℕ) → same_bytes xs xs ≡ true
unfolding same_bytes
same_bytes_refl xs = (bytes_decides xs xs).1 refl

pub same_bytes_true : (xs ys : List ℕ) → same_bytes xs ys ≡ true → xs ≡ ys
unfolding same_bytes
same_bytes_true xs ys = (bytes_decides xs ys).0

pub same_bytes_false : (xs ys : List ℕ) → (xs ≡ ys → ⊥) → same_bytes xs ys ≡ false
same_bytes_false xs ys other = go (same_bytes xs ys) (same_bytes_true xs ys)
  where
    go : (t : Bool) → (t ≡ true → xs ≡ ys) → t ≡ false
    go true same = absurd (other (same refl))
    go false same = refl
