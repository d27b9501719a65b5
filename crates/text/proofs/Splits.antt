-- Bytes cut at a byte: what `split`, `front`, `after` and `count` say of each other.
-- Assumes nothing.
use Prim.Native.Nat.{ℕ, suc, ◌+◌, ◌<◌, ◌≤◌}
use borrow.Author.Tests.{eqb-true, eq-eqb, ltb-false}
use native.Mathlib.Omega.{arith}
use mathlib.Core.Bool.{Bool, true, false, not}
use Rattle.std.proofs.lemmas.List.Sums.{prefix_len-le-length}
use mathlib.Core.List.{List, [], ◌∷◌, ◌++◌}
use mathlib.Core.Logic.{⊎_elim}
use Rattle.std.proofs.lemmas.Bool.{cases_Bool}
use mathlib.Core.Path.{◌≡◌, refl, sym, ap, ◌∙◌}
use lib.Dec.{eqb, ltb}
use lib.ListN.{length, take, drop, length-append, length-take}
use lib.Seq.{drop-append-add}
use Rattle.std.specs.Prelude.{Some, None, unwrap_or, cond}
use Rattle.std.specs.List.{position, position_or_len, count_by, slice_split, onto_first}
use Rattle.std.proofs.lemmas.List.Recursion.{is_count_by}
use Rattle.text.specs.Lines.{count}
use Rattle.text.specs.Inner.Cut.{longer, split, front, after}

longer_length : (x : ℕ) (pieces : List (List ℕ)) → length (longer x pieces) ≡ length pieces
longer_length x [] = refl
longer_length x (piece ∷ pieces) = refl

split_some : (b : ℕ) (xs : List ℕ) → 1 ≤ length (split b xs)
unfolding split
split_some b [] = omega arith
split_some b (x ∷ xs) = go (eqb x b) (split_some b xs)
  where
    go : (t : Bool) → 1 ≤ length (split b xs)
        → 1 ≤ length (cond t ([] ∷ split b xs) (longer x (split b xs)))
    go true some = omega arith
    go false some = rw longer_length some

-- The pieces are those of the library's `split`.
pub split_slice : (b : ℕ) (xs : List ℕ) → slice_split (λ x. eqb x b) xs ≡ split b xs
unfolding split
split_slice b [] = refl
split_slice b (x ∷ xs) = go (eqb x b) (split b xs) (split_some b xs) (split_slice b xs)
  where
    go : (t : Bool) (pieces : List (List ℕ)) → 1 ≤ length pieces
        → slice_split (λ y. eqb y b) xs ≡ pieces
        → cond t ([] ∷ slice_split (λ y. eqb y b) xs) (onto_first x (slice_split (λ y. eqb y b) xs))
        ≡ cond t ([] ∷ pieces) (longer x pieces)
    go t [] some e = absurd (omega arith)
    go true (piece ∷ more) some e = rw e
    go false (piece ∷ more) some e = rw e

module _ (b : ℕ) where
  pub count_append : (xs ys : List ℕ) → count b (xs ++ ys) ≡ count b xs + count b ys
  unfolding count
  count_append [] ys = omega arith
  count_append (x ∷ xs) ys =
      let rest = count_append xs ys in
      ⊎_elim (λ e. rw e (omega arith)) (λ e. rw e (omega arith)) (cases_Bool (eqb x b))

  pub count_le : (xs : List ℕ) → count b xs ≤ length xs
  unfolding count
  count_le [] = omega arith
  count_le (x ∷ xs) =
      let rest = count_le xs in
      ⊎_elim (λ e. rw e (omega arith)) (λ e. rw e (omega arith)) (cases_Bool (eqb x b))

  pub split_length : (xs : List ℕ) → length (split b xs) ≡ suc (count b xs)
  unfolding split count
  split_length [] = refl
  split_length (x ∷ xs) =
      ⊎_elim
      (λ e. rw e (ap suc (split_length xs)))
      (λ e. rw e (longer_length x (split b xs) ∙ split_length xs))
      (cases_Bool (eqb x b))

  -- The front is what the bytes begin with, and b is not in it.
  pub count_front : (xs : List ℕ) → count b (front b xs) ≡ 0
  unfolding front count
  count_front [] = refl
  count_front (x ∷ xs) =
      ⊎_elim (λ e. rw e) (λ e. rw e (rw e (count_front xs))) (cases_Bool (eqb x b))

  pub front_take : (xs : List ℕ) → front b xs ≡ take (length (front b xs)) xs
  unfolding front
  front_take [] = refl
  front_take (x ∷ xs) =
      ⊎_elim (λ e. rw e) (λ e. rw e (ap (◌∷◌ x) (front_take xs))) (cases_Bool (eqb x b))

  pub front_length : (xs : List ℕ) → length (front b xs) ≤ length xs
  front_length xs = omega (arith, rw length-take at (ap length (front_take xs)))

  -- Bytes with no b among them.
  count_none : (x : ℕ) (xs : List ℕ) → count b (x ∷ xs) ≡ 0
      → (eqb x b ≡ false) × (count b xs ≡ 0)
  unfolding count
  count_none x xs h =
      ⊎_elim (λ e. absurd (omega (arith, rw e at h))) (λ e. (e, rw e at h)) (cases_Bool (eqb x b))

  pub front_whole : (xs : List ℕ) → count b xs ≡ 0 → front b xs ≡ xs
  unfolding front
  front_whole [] h = refl
  front_whole (x ∷ xs) h = let none = count_none x xs h in rw (none.0, front_whole xs none.1)

  pub split_front : (xs : List ℕ) → count b xs ≡ 0 → split b xs ≡ xs ∷ []
  unfolding split
  split_front [] h = refl
  split_front (x ∷ xs) h = let none = count_none x xs h in rw (none.0, split_front xs none.1)

  -- The same, with b and more bytes after them.
  pub front_append : (xs ys : List ℕ) → count b xs ≡ 0 → front b (xs ++ b ∷ ys) ≡ xs
  unfolding front
  front_append [] ys h = rw (eq-eqb b b refl)
  front_append (x ∷ xs) ys h =
      let none = count_none x xs h in rw (none.0, front_append xs ys none.1)

  pub after_append : (xs ys : List ℕ) → count b xs ≡ 0 → after b (xs ++ b ∷ ys) ≡ ys
  unfolding after
  after_append [] ys h = rw (eq-eqb b b refl)
  after_append (x ∷ xs) ys h =
      let none = count_none x xs h in rw (none.0, after_append xs ys none.1)

  pub append_injective : (xs ys us vs : List ℕ) → count b xs ≡ 0 → count b us ≡ 0
      → xs ++ b ∷ ys ≡ us ++ b ∷ vs → (xs ≡ us) × (ys ≡ vs)
  append_injective xs ys us vs h g e = (
    sym (front_append xs ys h) ∙ ap (front b) e ∙ front_append us vs g,
    sym (after_append xs ys h) ∙ ap (after b) e ∙ after_append us vs g,
  )

  pub split_append : (xs ys : List ℕ) → count b xs ≡ 0
      → split b (xs ++ b ∷ ys) ≡ xs ∷ split b ys
  unfolding split
  split_append [] ys h = rw (eq-eqb b b refl)
  split_append (x ∷ xs) ys h =
      let none = count_none x xs h in rw (none.0, split_append xs ys none.1)

  -- Bytes with a b among them are the front, b, and what stands after.
  pub front_after : (xs : List ℕ) → 0 < count b xs → front b xs ++ b ∷ after b xs ≡ xs
  unfolding front after count
  front_after [] h = absurd (omega arith)
  front_after (x ∷ xs) h =
      ⊎_elim
      (λ e. rw e (rw (eqb-true x b e)))
      (λ e. rw (e, front_after xs (rw e at h)))
      (cases_Bool (eqb x b))

  module _ (xs : List ℕ) (h : 0 < count b xs) where
    pub split_cons : split b xs ≡ front b xs ∷ split b (after b xs)
    split_cons =
        ap (split b) (sym (front_after xs h))
        ∙ split_append (front b xs) (after b xs) (count_front xs)

    pub count_after : count b xs ≡ suc (count b (after b xs))
    unfolding count
    count_after =
        ap (count b) (sym (front_after xs h))
        ∙ count_append (front b xs) (b ∷ after b xs)
        ∙ rw (count_front xs, eq-eqb b b refl) (omega arith)

    pub after_drop : after b xs ≡ drop (length (front b xs) + 1) xs
    after_drop =
        sym (drop-append-add (front b xs) (b ∷ after b xs) 1)
        ∙ ap (drop (length (front b xs) + 1)) (front_after xs h)

    pub front_short : length (front b xs) < length xs
    front_short = omega (arith, simp length-append at (ap length (front_after xs h)))

-- The place of the first element that passes, or how many there are.
pub position_unwrapped : {X : Type 0} (p : X → Bool) (xs : List X)
    → unwrap_or (position p xs) (length xs) ≡ position_or_len p xs
position_unwrapped p xs = go (ltb (position_or_len p xs) (length xs)) refl
  where
    go : (t : Bool) → ltb (position_or_len p xs) (length xs) ≡ t
        → unwrap_or (cond t (Some (position_or_len p xs)) None) (length xs) ≡ position_or_len p xs
    go true e = refl
    go false e =
        let past = ltb-false (position_or_len p xs) (length xs) e in
        omega (arith, prefix_len-le-length (λ x. not (p x)) xs)

-- The front is as long as the library's search for b says, and `count` is its count.
pub front_position : (b : ℕ) (xs : List ℕ)
    → length (front b xs) ≡ position_or_len (λ x. eqb x b) xs
unfolding front
front_position b [] = refl
front_position b (x ∷ xs) =
    let rest = front_position b xs in
    ⊎_elim (λ e. rw e) (λ e. rw e (omega arith)) (cases_Bool (eqb x b))

pub count_by_byte : (b : ℕ) (xs : List ℕ) → count b xs ≡ count_by (λ x. eqb x b) xs
unfolding count
count_by_byte b =
    is_count_by (count b) (λ x. eqb x b) refl
    (λ x xs. ⊎_elim (λ e. rw e (omega arith)) (λ e. rw e) (cases_Bool (eqb x b)))
