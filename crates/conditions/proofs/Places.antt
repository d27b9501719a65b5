-- The place of a name among names: a loop's turn at place k, `-next` where it goes on, `-stop`
-- where it settles the answer, `-end` past the last; that a name which is read is found exactly
-- where it is kept; and that each of different names stands at its own place. Assumes nothing.
use Prim.Native.Nat.{ℕ, zero, suc, ◌+◌, ◌-◌, ◌≤◌, ◌<◌}
use native.Mathlib.Omega.{arith}
use borrow.Author.Tests.{ltb-true, lt-ltb, le-leb, not-true}
use mathlib.Core.Bool.{Bool, true, false, ◌||◌, not, cond, true≢false}
use mathlib.Core.List.{List, [], ◌∷◌, ◌++◌, map}
use mathlib.Core.Path.{◌≡◌, refl, sym, ap, ◌∙◌}
use lib.Dec.{eqb, ltb, leb-suc-suc}
use Rattle.std.proofs.lemmas.List.Sums.{prefix_len-le-length}
use Rattle.std.specs.List.{position_or_len}
use Rattle.std.specs.Cmp.Lexicographic.{pointwise}
use Rattle.text.proofs.Parts.{pointwise_same}
use lib.ListN.{length, take, replicate}
use lib.Seq.{take-append_seam, take-append-add, drop-append_seam}
use Rattle.letters.specs.Lists.{every, some}
use Rattle.letters.proofs.Lists.{and_left, and_right, or_neither}
use Rattle.letters.proofs.Lists.{same_bytes_refl, same_bytes_true, same_bytes_false}
use Rattle.table.specs.Name.{name_run, same_name, name_valid, all_distinct}
use Rattle.table.specs.Row.{is_zero}
use Rattle.table.specs.declared.Name.{Name}
use Rattle.text.specs.Lines.{All, none as All-none, and as all-and}
use Rattle.conditions.specs.Condition.{IsName, name_of, place}
use Rattle.conditions.proofs.Names.{name_run_append, take_zeros}

-- The place of a name is where the library finds it, or how many names there are.
pub place_position : (names : List Name) (name : Name)
    → place names name ≡ position_or_len (λ known. pointwise eqb known.chars name.chars) names
unfolding place
place_position [] name = refl
place_position (first ∷ names) name =
    rw (pointwise_same name.chars first.chars)
    (go (same_name name first) (place_position names name))
  where
    at : ℕ
    at = position_or_len (λ known. pointwise eqb known.chars name.chars) names

    go : (t : Bool) → place names name ≡ at
        → cond t 0 (suc (place names name)) ≡ cond (not t) (1 + at) 0
    go true ih = refl
    go false ih = omega arith

pub place_le : (names : List Name) (name : Name) → place names name ≤ length names
place_le names name = rw place_position (prefix_len-le-length _ names)

-- A name has a place below the number of names exactly where it stands among them.
place_some : (names : List Name) (name : Name)
    → ltb (place names name) (length names) ≡ some (same_name name) names
unfolding place some
place_some [] name = refl
place_some (first ∷ names) name = go (same_name name first) (place_some names name)
  where
    go : (t : Bool) → ltb (place names name) (length names) ≡ some (same_name name) names
        → ltb (cond t 0 (suc (place names name))) (suc (length names))
        ≡ (t || some (same_name name) names)
    go true ih = lt-ltb 0 (suc (length names)) (omega arith)
    go false ih = rw leb-suc-suc ih

module _ (names : List Name) (name : Name) where
  pub known_place : some (same_name name) names ≡ true → place names name < length names
  known_place h = ltb-true (place names name) (length names) (place_some names name ∙ h)

  pub place_known : place names name < length names → some (same_name name) names ≡ true
  place_known h = sym (place_some names name) ∙ lt-ltb (place names name) (length names) h

-- A name as it is kept: its letters, then zeros.
name_run_zeros : (k : ℕ) → name_run (replicate k 0) ≡ 0
unfolding name_run
name_run_zeros zero = refl
name_run_zeros (suc k) = refl

every_zeros : (k : ℕ) → every is_zero (replicate k 0) ≡ true
unfolding every
every_zeros zero = refl
every_zeros (suc k) = every_zeros k

module _ (w : List ℕ) (h : IsName w) where
  name_of_letters : (name_of w).chars ≡ w ++ replicate (8 - length w) 0
  unfolding name_of
  name_of_letters =
      let k = 8 - length w in
      let few = h.few in
      let places : 8 ≡ length w + k = omega arith in
      ap (λ (m : ℕ). take m (w ++ replicate 8 0)) places
      ∙ take-append-add w (replicate 8 0) k ∙ rw (take_zeros k 8 (omega arith))

  name_of_run : name_run (name_of w).chars ≡ length w
  name_of_run =
      rw name_of_letters
      (name_run_append w (replicate (8 - length w) 0) h.letters
      (name_run_zeros (8 - length w)))

  pub name_of_valid : name_valid (name_of w) ≡ true
  unfolding name_valid
  name_of_valid = rw (name_of_run, name_of_letters, drop-append_seam, le-leb 1 (length w) h.some)
      (every_zeros (8 - length w))

  name_of_take : take (name_run (name_of w).chars) (name_of w).chars ≡ w
  name_of_take = rw (name_of_run, name_of_letters, take-append_seam)

pub name_of_injective : (v w : List ℕ) → IsName v → IsName w
    → same_name (name_of v) (name_of w) ≡ true → v ≡ w
name_of_injective v w h g e =
    let same = same_bytes_true (name_of v).chars (name_of w).chars e in
    sym (name_of_take v h) ∙ rw same (name_of_take w g)

-- Names that stand at their own places, from place k on.
pub data Placed (names : List Name) : ℕ → List (List ℕ) → Type 0 where
  nowhere : {k : ℕ} → Placed names k []
  here : {k : ℕ} {w : List ℕ} {words : List (List ℕ)} → IsName w → place names (name_of w) ≡ k
      → Placed names (suc k) words → Placed names k (w ∷ words)

differ_both : (a b : Name) → same_name a b ≡ false → same_name b a ≡ false
differ_both a b e =
    same_bytes_false b.chars a.chars
    (λ same. true≢false (sym (rw same (same_bytes_refl a.chars)) ∙ e))

placed_later : (first : Name) (names : List Name) (k : ℕ) (words : List (List ℕ))
    → some (same_name first) (map name_of words) ≡ false → Placed names k words
    → Placed (first ∷ names) (suc k) words
unfolding some place
placed_later first names k [] e nowhere = nowhere
placed_later first names k (w ∷ words) e (here h p rest) =
    let later = some (same_name first) (map name_of words) in
    let parts = or_neither (same_name first (name_of w)) later e in
    here {k = suc k} h (rw (differ_both first (name_of w) parts.0, p))
    (placed_later first names (suc k) words parts.1 rest)

pub words_placed : (words : List (List ℕ)) → All IsName words
    → all_distinct (map name_of words) ≡ true → Placed (map name_of words) 0 words
unfolding all_distinct place
words_placed [] All-none h = nowhere
words_placed (w ∷ words) (all-and name all) h =
    let others = map name_of words in
    let apart = and_left (not (some (same_name (name_of w)) others)) (all_distinct others) h in
    let rest = and_right (not (some (same_name (name_of w)) others)) (all_distinct others) h in
    here {k = 0} name (rw (same_bytes_refl (name_of w).chars))
    (placed_later (name_of w) others 0 words (not-true _ apart) (words_placed words all rest))
