-- What a set picks out of a list: which elements, how many, and in which order. Assumes nothing.
use Prim.Native.Nat.{ℕ, suc, ◌+◌, ◌<◌, ◌≤◌}
use native.Mathlib.Nat.{add-zero, zero-add}
use native.Mathlib.Numerals.{add-one}
use native.Mathlib.Omega.{arith}
use mathlib.Core.Bool.{Bool, true, false, cond}
use mathlib.Core.List.Memᴰ
use mathlib.Core.List.{List, [], ◌∷◌, ◌++◌, map, append-nil, Memᴰ}
use mathlib.Core.Path.{◌≡◌, refl, ap, ◌∙◌}
use lib.ListN.{length, get_or, take, length-map}
use lib.Seq.{take-suc, length-take-le}
use Rattle.letters.specs.Letter.{bit_at, members}
use Rattle.letters.specs.Lists.{every}
use Rattle.letters.specs.Sets.{picked_from, picked}
use Rattle.letters.proofs.Described.{members_in, in_members, members_le}
use Rattle.letters.proofs.Elements.{mem_at, mem_length}
use Rattle.letters.proofs.Lists.{and_left, and_right}
use Rattle.letters.proofs.Members.{members_here, members_past, of_first, of_others}
use Rattle.letters.proofs.Padding.{map_at}

module _ {A : Type 0} (set : ℕ) where
  -- The first element is picked, or not.
  turn : (P : List A → Type 0) (i : ℕ) (x : A) (xs : List A)
      → (bit_at set i ≡ true → P (x ∷ picked_from (suc i) set xs))
      → (bit_at set i ≡ false → P (picked_from (suc i) set xs)) → P (picked_from i set (x ∷ xs))
  unfolding picked_from
  turn P i x xs here past = go (bit_at set i) refl
    where
      go : (b : Bool) → bit_at set i ≡ b
          → P (cond b (x ∷ picked_from (suc i) set xs) (picked_from (suc i) set xs))
      go true e = here e
      go false e = past e

  -- They are the elements at the members of the set, `at` telling the element of a place.
  at_members : (d : A) (at : ℕ → A) (i : ℕ) (xs : List A)
      → ((j : ℕ) → j < length xs → at (i + j) ≡ get_or xs j d)
      → picked_from i set xs ≡ map at (members (length xs) i set)
  unfolding picked_from members
  at_members d at i [] are = refl
  at_members d at i (x ∷ xs) are =
      let first : at i ≡ x = rw add-zero at (are 0 (omega arith)) in
      let later = at_members d at (suc i) xs (λ j low.
      let place : suc i + j ≡ i + suc j = omega arith in rw place (are (suc j) (omega arith))) in
      turn (λ l. l ≡ map at (members (suc (length xs)) i set)) i x xs
      (λ e. rw (members_here set (length xs) i e, first, later))
      (λ e. rw (members_past set (length xs) i e, later))

  pub picked_members : (d : A) (xs : List A)
      → picked set xs ≡ map (λ i. get_or xs i d) (members (length xs) 0 set)
  picked_members d xs = at_members d (λ i. get_or xs i d) 0 xs (λ j low. rw zero-add)

  -- So there are as many, and the k-th one stands at the k-th member.
  pub picked_length : (xs : List A) → length (picked set xs) ≡ length (members (length xs) 0 set)
  unfolding picked_from members
  picked_length [] = refl
  picked_length (x ∷ xs) =
      ap length (picked_members x (x ∷ xs)) ∙ length-map (members (length (x ∷ xs)) 0 set) _

  pub picked_le : (xs : List A) → length (picked set xs) ≤ length xs
  picked_le xs = rw picked_length (members_le set (length xs) 0)

  pub picked_at : (d : A) (xs : List A) (k : ℕ) → k < length (members (length xs) 0 set)
      → get_or (picked set xs) k d ≡ get_or xs (get_or (members (length xs) 0 set) k 0) d
  picked_at d xs k low = rw (picked_members d xs)
      (map_at (λ i. get_or xs i d) (members (length xs) 0 set) 0 d k low)

  -- Those whose places are in the set, and no others.
  pub picked_place : (d x : A) (xs : List A) → Memᴰ x (picked set xs)
      → (j : ℕ) × (j < length xs) × (bit_at set j ≡ true) × (get_or xs j d ≡ x)
  picked_place d x xs m =
      let at = Memᴰ.of_map (λ i. get_or xs i d) (members (length xs) 0 set)
      (rw (picked_members d xs) at m) in
      let is = members_in set (length xs) 0 at.0 at.1 in
      (at.0, omega (arith, is.1), is.2, at.2)

  pub place_picked : (d : A) (xs : List A) (j : ℕ) → j < length xs → bit_at set j ≡ true
      → Memᴰ (get_or xs j d) (picked set xs)
  place_picked d xs j low e =
      rw (picked_members d xs)
      (Memᴰ.map (λ i. get_or xs i d) (in_members set (length xs) 0 j (omega arith) (omega arith) e))

  pub picked_mem : (d x : A) (xs : List A) → Memᴰ x (picked set xs) → Memᴰ x xs
  picked_mem d x xs m =
      let at = picked_place d x xs m in rw at.3 at (mem_at d xs at.0 at.1)

  pub picked_some : (d : A) (xs : List A) (j : ℕ) → j < length xs → bit_at set j ≡ true
      → 1 ≤ length (picked set xs)
  picked_some d xs j low e =
      mem_length (get_or xs j d) (picked set xs) (place_picked d xs j low e)

  -- All of them, if every place is in the set.
  from_all : (i : ℕ) (xs : List A) → ((j : ℕ) → j < length xs → bit_at set (i + j) ≡ true)
      → picked_from i set xs ≡ xs
  unfolding picked_from
  from_all i [] all = refl
  from_all i (x ∷ xs) all =
      let P : ℕ → Type 0 = λ j. bit_at set j ≡ true in
      rw (
        of_first P (length xs) i all,
        from_all (suc i) xs (of_others P (length xs) i all),
      )

  pub picked_all : (xs : List A) → ((j : ℕ) → j < length xs → bit_at set j ≡ true)
      → picked set xs ≡ xs
  picked_all xs all = from_all 0 xs (λ j low. rw zero-add (all j low))

  -- What every element passes every picked one does.
  from_every : (test : A → Bool) (i : ℕ) (xs : List A) → every test xs ≡ true
      → every test (picked_from i set xs) ≡ true
  unfolding every picked_from
  from_every test i [] h = refl
  from_every test i (x ∷ xs) h =
      let later = from_every test (suc i) xs (and_right (test x) (every test xs) h) in
      turn (λ l. every test l ≡ true) i x xs
      (λ e. rw (and_left (test x) (every test xs) h) later) (λ e. later)

  pub picked_every : (test : A → Bool) (xs : List A) → every test xs ≡ true
      → every test (picked set xs) ≡ true
  picked_every test xs h = from_every test 0 xs h

  -- Of two lists, one behind the other.
  from_append : (i : ℕ) (xs ys : List A) → picked_from i set (xs ++ ys)
      ≡ picked_from i set xs ++ picked_from (i + length xs) set ys
  unfolding picked_from
  from_append i [] ys = rw add-zero
  from_append i (x ∷ xs) ys =
      let place : i + suc (length xs) ≡ suc i + length xs = omega arith in
      rw (from_append (suc i) xs ys, place) (go (bit_at set i) _ _)
    where
      go : (b : Bool) (ps qs : List A)
          → cond b (x ∷ ps ++ qs) (ps ++ qs) ≡ cond b (x ∷ ps) ps ++ qs
      go true ps qs = refl
      go false ps qs = refl

  -- A loop's turn at place j: what is picked of the elements up to it.
  module _ (d : A) (xs : List A) (j : ℕ) (low : j < length xs) where
    upto : picked set (take (j + 1) xs)
        ≡ picked set (take j xs) ++ cond (bit_at set j) (get_or xs j d ∷ []) []
    unfolding picked_from
    upto =
        let long = length-take-le j xs (omega arith) in
        rw (add-one, take-suc xs j d low)
        (from_append 0 (take j xs) (get_or xs j d ∷ []) ∙ rw (zero-add, long))

    pub picked_next : bit_at set j ≡ true
        → picked set (take (j + 1) xs) ≡ picked set (take j xs) ++ (get_or xs j d ∷ [])
    picked_next e = upto ∙ rw e

    pub picked_skip : bit_at set j ≡ false
        → picked set (take (j + 1) xs) ≡ picked set (take j xs)
    picked_skip e = upto ∙ rw (e, append-nil)

-- A larger set picks what a set does.
pub picked_more : {A : Type 0} (set larger : ℕ) (d x : A) (xs : List A)
    → ((j : ℕ) → j < length xs → bit_at set j ≡ true → bit_at larger j ≡ true)
    → Memᴰ x (picked set xs) → Memᴰ x (picked larger xs)
picked_more set larger d x xs more m =
    let at = picked_place set d x xs m in
    rw at.3 at (place_picked larger d xs at.0 at.1 (more at.0 at.1 at.2))

-- Values of the elements that are picked are picked of the values.
module _ {A B : Type 0} (f : A → B) (set : ℕ) where
  from_map : (i : ℕ) (xs : List A) → picked_from i set (map f xs) ≡ map f (picked_from i set xs)
  unfolding picked_from
  from_map i [] = refl
  from_map i (x ∷ xs) = rw (from_map (suc i) xs) (go (bit_at set i) _)
    where
      go : (b : Bool) (ps : List A)
          → cond b (f x ∷ map f ps) (map f ps) ≡ map f (cond b (x ∷ ps) ps)
      go true ps = refl
      go false ps = refl

  pub picked_map : (xs : List A) → picked set (map f xs) ≡ map f (picked set xs)
  picked_map xs = from_map 0 xs
