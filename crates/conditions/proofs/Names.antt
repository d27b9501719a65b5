-- Names: the letters in front of some bytes, a name as a table value keeps it, and the name at a
-- place. Assumes nothing.
use Prim.Native.Nat.{ℕ, zero, suc, ◌+◌, ◌-◌, ◌≤◌, ◌<◌, min}
use native.Mathlib.Omega.{arith}
use borrow.Author.Tests.{lt-ltb, le-ltb, ne_eqb}
use mathlib.Core.Bool.{Bool, true, false, cond}
use mathlib.Core.List.{List, [], ◌∷◌, ◌++◌}
use mathlib.Core.Path.{◌≡◌, refl, sym, ap}
use lib.Dec.{eqb}
use lib.ListN.{length, take, drop, replicate, length-drop, length-take}
use lib.Seq.{take_all, take-take}
use Rattle.letters.specs.Letter.{signal_on, set_of}
use Rattle.letters.specs.Lists.{every}
use Rattle.letters.proofs.Lists.{and_left, and_right}
use Rattle.table.specs.Name.{is_lowercase, name_run}
use Rattle.table.specs.declared.Name.{Name}
use Rattle.conditions.specs.Condition.{name_of, place}
use Rattle.conditions.specs.Inner.Reading.{name_at}
use Rattle.conditions.specs.Inner.Reading.{some_part}
use Rattle.std.specs.Prelude.{None}

-- The letters in front.
pub name_run_every : (xs : List ℕ) → every is_lowercase (take (name_run xs) xs) ≡ true
unfolding name_run every
name_run_every [] = refl
name_run_every (b ∷ xs) = go (is_lowercase b) refl (name_run_every xs)
  where
    go : (t : Bool) → is_lowercase b ≡ t → every is_lowercase (take (name_run xs) xs) ≡ true
        → every is_lowercase (take (cond t (suc (name_run xs)) 0) (b ∷ xs)) ≡ true
    go true e h = rw e h
    go false e h = refl

pub name_run_append : (w rest : List ℕ) → every is_lowercase w ≡ true → name_run rest ≡ 0
    → name_run (w ++ rest) ≡ length w
unfolding name_run every
name_run_append [] rest h e = e
name_run_append (b ∷ w) rest h e = rw (
  and_left (is_lowercase b) (every is_lowercase w) h,
  name_run_append w rest (and_right (is_lowercase b) (every is_lowercase w) h) e,
)

-- i letters of w in front of what is left of the zeros.
abbrev pub filled : List ℕ → List ℕ → ℕ → List ℕ
filled w zeros i = take i w ++ drop i zeros

pub take_zeros : (m k : ℕ) → m ≤ k → take {A = ℕ} m (replicate k 0) ≡ replicate m 0
take_zeros zero k h = refl
take_zeros (suc m) zero h = absurd (omega arith)
take_zeros (suc m) (suc k) h = ap (◌∷◌ 0) (take_zeros m k (omega arith))

filled_end : (w : List ℕ) (i m k : ℕ) → i ≤ length w → i ≤ m → min (length w) m ≤ i
    → m ≤ k
    → filled w (replicate m 0) i ≡ take m (w ++ replicate k 0)
filled_end [] zero m k a b c d = sym (take_zeros m k d)
filled_end [] (suc i) m k a b c d = absurd (omega arith)
filled_end (x ∷ w) zero zero k a b c d = refl
filled_end (x ∷ w) zero (suc m) k a b c d = absurd (omega arith)
filled_end (x ∷ w) (suc i) zero k a b c d = absurd (omega arith)
filled_end (x ∷ w) (suc i) (suc m) k a b c d =
    ap (◌∷◌ x) (filled_end w i m k (omega arith) (omega arith) (omega arith) (omega arith))

pub name_of_filled : (w letters : List ℕ) (i : ℕ) → letters ≡ filled w (replicate 8 0) i → i ≤ 8
    → i ≤ length w → min (length w) 8 ≤ i → record { chars = letters } ≡ name_of w
unfolding name_of
name_of_filled w letters i e h g f = rw (e, filled_end w i 8 8 g h f (omega arith))

-- The first letters copied to the front of eight zeros.
pub name_of_front : (s : List ℕ) (n : ℕ) {k : ℕ} → k ≡ min (min n (length s)) 8
    → record { chars = take k s ++ drop k (replicate 8 0) } ≡ name_of (take n s)
unfolding name_of
name_of_front s n {k} e =
    let long : length (take n s) ≡ min n (length s) = length-take n s in
    let same : take k (take n s) ≡ take k s = take-take k n s (omega arith) in
    rw (← same)
    (ap (λ (l : List ℕ). record { chars = l })
    (filled_end (take n s) k 8 8 (omega arith) (omega arith) (omega arith) (omega arith)))

-- The name at a place, where r letters stand.
module _ (names : List Name) (n : ℕ) (s : List ℕ) (at : ℕ) {r : ℕ}
    (run : r ≡ name_run (drop at s)) where
  pub name_at_none : r ≡ 0 → None ≡ name_at names n s at (name_run (drop at s))
  unfolding name_at
  name_at_none e = rw (← run, e)

  pub name_at_long : 8 < r → None ≡ name_at names n s at (name_run (drop at s))
  unfolding name_at
  name_at_long h = rw (← run, ne_eqb r 0 (omega arith), lt-ltb 8 r h)

  pub name_at_some : {k used v : ℕ} {name : Name} → (r ≡ 0 → ⊥) → r ≤ 8
      → name ≡ name_of (take r (take (length s - at) (drop at s))) → k ≡ place names name
      → used ≡ length names → v ≡ set_of n (λ l. signal_on l k)
      → some_part v (eqb k used) (at + r) ≡ name_at names n s at (name_run (drop at s))
  unfolding name_at
  name_at_some some few e p u w =
      let rest = take_all (length s - at) (drop at s) (rw length-drop (omega arith)) in
      rw (w, u, p, e, rest, ← run, ne_eqb r 0 some, le-ltb 8 r few)
