-- Places in a list of bytes, and the front of what is left there. Assumes nothing.
use Prim.Native.Nat.{ℕ, zero, suc, ◌+◌, ◌<◌}
use native.Mathlib.Omega.{arith}
use borrow.Author.Tests.{lt-ltb, le-ltb, eqb-true}
use mathlib.Core.Bool.{Bool, true, false, false≢true}
use mathlib.Core.List.{List, [], ◌∷◌, ◌++◌}
use mathlib.Core.Path.{◌≡◌, refl, sym, ap, ◌∙◌}
use lib.Dec.{eqb, leb-suc-suc}
use lib.ListN.{length, drop, length-drop}
use lib.Seq.{drop-drop, drop-append_seam}
use Rattle.conditions.specs.Inner.Reading.{is_at}

abbrev pub begins : List ℕ → ℕ → Bool
begins [] b = false
begins (x ∷ xs) b = eqb x b

-- The byte at a place is the first of what is left there.
pub is_at_drop : (s : List ℕ) (at b : ℕ) → is_at s at b ≡ begins (drop at s) b
unfolding is_at
is_at_drop [] zero b = refl
is_at_drop [] (suc at) b = rw (le-ltb (suc at) 0 (omega arith))
is_at_drop (x ∷ s) zero b = rw (lt-ltb 0 (suc (length s)) (omega arith))
is_at_drop (x ∷ s) (suc at) b = rw leb-suc-suc (is_at_drop s at b)

-- What is left past what stands there.
pub drop_past : (s xs rest : List ℕ) (at : ℕ) → drop at s ≡ xs ++ rest
    → drop (at + length xs) s ≡ rest
drop_past s xs rest at e = sym (drop-drop (length xs) at s) ∙ rw e (drop-append_seam xs rest)

pub drop_next : (s rest : List ℕ) (b at : ℕ) → drop at s ≡ b ∷ rest → drop (at + 1) s ≡ rest
drop_next s rest b at e = drop_past s (b ∷ []) rest at e

pub is_at_cons : (s : List ℕ) (at b : ℕ) → is_at s at b ≡ true → drop at s ≡ b ∷ drop (at + 1) s
is_at_cons s at b h = go (drop at s) refl (sym (is_at_drop s at b) ∙ h)
  where
    go : (xs : List ℕ) → drop at s ≡ xs → begins xs b ≡ true → xs ≡ b ∷ drop (at + 1) s
    go [] e q = absurd (false≢true q)
    go (x ∷ xs) e q = rw (eqb-true x b q, drop_next s xs x at e)

pub is_at_lt : (s : List ℕ) (at b : ℕ) → is_at s at b ≡ true → at < length s
is_at_lt s at b h = let e = ap length (is_at_cons s at b h) in omega (arith, length-drop at s)
