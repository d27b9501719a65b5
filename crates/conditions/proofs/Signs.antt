-- Which bytes a condition is made of: no other byte stands in it. Assumes nothing.
use Prim.Native.Char.{code}
use Prim.Native.Nat.{ℕ}
use mathlib.Core.Bool.{Bool, true, false, ◌||◌}
use mathlib.Core.List.{List, [], ◌∷◌}
use mathlib.Core.Path.{◌≡◌, refl, ◌∙◌}
use lib.Dec.{eqb}
use Rattle.letters.specs.Lists.{every, some}
use Rattle.letters.proofs.Lists.{and_left, and_right, every_append}
use Rattle.table.specs.Name.{is_lowercase}
use Rattle.table.specs.declared.Name.{Name}
use Rattle.text.specs.Bytes.{bytes}
use Rattle.text.specs.Lines.{count}
use Rattle.text.proofs.Joins.{passing_free}
use Rattle.conditions.specs.Condition.{Kind, Condition, one_term, or, one_factor, and, negated}
use Rattle.conditions.specs.Condition.{named, never, always, grouped, text}
use Rattle.conditions.specs.Judge.{IsCondition}

abbrev pub in_condition : ℕ → Bool
in_condition x =
    is_lowercase x || some (eqb x) (bytes "|&!01()")

letters_in : (w : List ℕ) → every is_lowercase w ≡ true → every in_condition w ≡ true
unfolding every
letters_in [] h = refl
letters_in (x ∷ w) h =
    rw (and_left (is_lowercase x) (every is_lowercase w) h)
    (letters_in w (and_right (is_lowercase x) (every is_lowercase w) h))

text_in : {k : Kind} (c : Condition k) → every in_condition (text c) ≡ true
unfolding text every some
text_in (one_term t) = text_in t
text_in (or t c) =
    every_append in_condition (text t) (code "|" ∷ text c) ∙ rw (text_in t) (text_in c)
text_in (one_factor f) = text_in f
text_in (and f t) =
    every_append in_condition (text f) (code "&" ∷ text t) ∙ rw (text_in f) (text_in t)
text_in (negated f) = text_in f
text_in (named w h) = letters_in w h.letters
text_in never = refl
text_in always = refl
text_in (grouped c) = every_append in_condition (text c) (code ")" ∷ []) ∙ rw (text_in c)

pub condition_free : (names : List Name) (n b : ℕ) → in_condition b ≡ false → {xs : List ℕ}
    {v : ℕ} → IsCondition names n xs v → count b xs ≡ 0
condition_free names n b e {xs} h =
    passing_free in_condition b e xs
    (rw (← h.means.bytes) (text_in h.means.tree))
