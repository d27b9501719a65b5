-- What a condition writes is read to its end, with the condition's meaning, where what is left does
-- not lengthen it. Assumes nothing.
use Prim.Native.Char.{code}
use Prim.Native.Nat.{ℕ, zero, suc, ◌+◌, ◌*◌, ◌<◌}
use native.Mathlib.Omega.{arith}
use borrow.Author.Tests.{le-ltb, ne_eqb, not-true}
use mathlib.Core.Bool.{Bool, true, false, not, ◌||◌, true≢false, false≢true}
use mathlib.Core.List.{List, [], ◌∷◌, ◌++◌, append_assoc}
use mathlib.Core.Path.{◌≡◌, refl, sym, ap, ◌∙◌}
use lib.Dec.{eqb}
use lib.ListN.{length, drop, length-append}
use lib.Seq.{take-append_seam}
use Rattle.letters.specs.Letter.{set_of}
use Rattle.letters.specs.Lists.{every}
use Rattle.letters.proofs.Lists.{and_left}
use Rattle.letters.proofs.Sets.{set_of_or, set_of_and, set_of_others, set_of_false}
use Rattle.table.specs.Name.{is_lowercase, name_run}
use Rattle.table.specs.declared.Name.{Name}
use Rattle.conditions.specs.Condition.{IsName, Kind, choice, term, factor, Condition, text}
use Rattle.conditions.specs.Condition.{name_of, place, holds_at, unknown}
use Rattle.conditions.specs.Condition.Condition.{one_term, or, one_factor, and, negated, named}
use Rattle.conditions.specs.Condition.Condition.{never, always, grouped}
use Rattle.conditions.specs.Inner.Reading.{is_at, signal, name_at, digit_at, rank, reads}
use Rattle.conditions.specs.declared.Part.{Part}
use Rattle.conditions.specs.Inner.Reading.{some_part}
use Rattle.std.specs.Prelude.{Option}
use Rattle.conditions.proofs.Bytes.{begins, is_at_drop, drop_past, drop_next}
use Rattle.conditions.proofs.Names.{name_run_append}

-- The byte b lengthens what was read of a kind.
abbrev goes_on : Kind → ℕ → Bool
goes_on choice b = is_lowercase b || eqb b (code "&") || eqb b (code "|")
goes_on term b = is_lowercase b || eqb b (code "&")
goes_on factor b = is_lowercase b

-- What is left does not.
abbrev pub stops : Kind → List ℕ → Bool
stops k [] = true
stops k (b ∷ rest) = not (goes_on k b)

or_left : (a b : Bool) → not (a || b) ≡ true → not a ≡ true
or_left false b e = refl
or_left true b e = e

or_right : (a b : Bool) → not (a || b) ≡ true → b ≡ false
or_right false false e = refl
or_right false true e = sym e
or_right true b e = absurd (false≢true e)

stops_term : (rest : List ℕ) → stops choice rest ≡ true → stops term rest ≡ true
stops_term [] e = refl
stops_term (b ∷ rest) e = or_left (is_lowercase b || eqb b (code "&")) (eqb b (code "|")) e

stops_factor : (rest : List ℕ) → stops term rest ≡ true → stops factor rest ≡ true
stops_factor [] e = refl
stops_factor (b ∷ rest) e = or_left (is_lowercase b) (eqb b (code "&")) e

no_bar : (rest : List ℕ) → stops choice rest ≡ true → begins rest (code "|") ≡ false
no_bar [] e = refl
no_bar (b ∷ rest) e = or_right (is_lowercase b || eqb b (code "&")) (eqb b (code "|")) e

no_amp : (rest : List ℕ) → stops term rest ≡ true → begins rest (code "&") ≡ false
no_amp [] e = refl
no_amp (b ∷ rest) e = or_right (is_lowercase b) (eqb b (code "&")) e

no_letter : (rest : List ℕ) → stops factor rest ≡ true → name_run rest ≡ 0
unfolding name_run
no_letter [] e = refl
no_letter (b ∷ rest) e = rw (not-true (is_lowercase b) e)

-- No sign stands where a name begins.
no_sign : (w rest : List ℕ) (b : ℕ) → IsName w → is_lowercase b ≡ false
    → begins (w ++ rest) b ≡ false
unfolding every
no_sign [] rest b p g = absurd (let h = p.some in omega arith)
no_sign (x ∷ w) rest b p g =
    let letter = and_left (is_lowercase x) (every is_lowercase w) p.letters in
    ne_eqb x b (λ e. true≢false (sym letter ∙ ap is_lowercase e ∙ g))

module _ (names : List Name) (n : ℕ) (s : List ℕ) where
  abbrev ReadAs : {k : Kind} → Condition k → ℕ → Option Part → Type 0
  ReadAs c at r = r ≡ some_part (set_of n (holds_at names c)) (unknown names c) (at + length (text c))

  set_path : {v w i j : ℕ} {u : Bool} → v ≡ w → i ≡ j → some_part v u i ≡ some_part w u j
  set_path p q = cc

  name_read : (w rest : List ℕ) (at : ℕ) (p : IsName w) → drop at s ≡ w ++ rest
      → name_at names n s at (length w) ≡ signal names n s (place names (name_of w)) (at + length w)
  unfolding name_at
  name_read w rest at p e =
      let some = p.some in
      rw (
        ne_eqb (length w) 0 (omega arith),
        le-ltb 8 (length w) p.few,
        e,
        take-append_seam w rest,
      )

  pub complete : {k : Kind} (c : Condition k) (f at : ℕ) (rest : List ℕ)
      → 3 * length (text c) + rank k < f → drop at s ≡ text c ++ rest → stops k rest ≡ true
      → ReadAs c at (reads names n s f k at)
  unfolding reads digit_at text holds_at unknown
  complete c zero at rest h e q = absurd (omega arith)
  complete (one_term t) (suc f) at rest h e q =
      let ih = complete t f at rest (omega arith) e (stops_term rest q) in
      rw (ih, is_at_drop, drop_past s (text t) rest at e, no_bar rest q)
  complete (or t c) (suc f) at rest h e q =
      let len = length-append (text t) (code "|" ∷ text c) in
      let first = e ∙ append_assoc (text t) (code "|" ∷ text c) rest in
      let left = drop_past s (text t) (code "|" ∷ text c ++ rest) at first in
      let next = at + length (text t) in
      let second = drop_next s (text c ++ rest) (code "|") next left in
      let ih₁ = complete t f at (code "|" ∷ text c ++ rest) (omega arith) first refl in
      let ih₂ = complete c f (next + 1) rest (omega arith) second q in
      rw (ih₁, is_at_drop, left, ih₂)
      (set_path (set_of_or n (holds_at names t) (holds_at names c)) (omega arith))
  complete (one_factor t) (suc f) at rest h e q =
      let ih = complete t f at rest (omega arith) e (stops_factor rest q) in
      rw (ih, is_at_drop, drop_past s (text t) rest at e, no_amp rest q)
  complete (and t c) (suc f) at rest h e q =
      let len = length-append (text t) (code "&" ∷ text c) in
      let first = e ∙ append_assoc (text t) (code "&" ∷ text c) rest in
      let left = drop_past s (text t) (code "&" ∷ text c ++ rest) at first in
      let next = at + length (text t) in
      let second = drop_next s (text c ++ rest) (code "&") next left in
      let ih₁ = complete t f at (code "&" ∷ text c ++ rest) (omega arith) first refl in
      let ih₂ = complete c f (next + 1) rest (omega arith) second q in
      rw (ih₁, is_at_drop, left, ih₂)
      (set_path (set_of_and n (holds_at names t) (holds_at names c)) (omega arith))
  complete (negated t) (suc f) at rest h e q =
      let second = drop_next s (text t ++ rest) (code "!") at e in
      let ih = complete t f (at + 1) rest (omega arith) second q in
      rw (is_at_drop s at (code "!"), e, ih)
      (set_path (set_of_others n (holds_at names t)) (omega arith))
  complete (named w p) (suc f) at rest h e q =
      let other : (b : ℕ) → is_lowercase b ≡ false → is_at s at b ≡ false =
      λ b i. is_at_drop s at b ∙ rw e (no_sign w rest b p i) in
      rw (
        other (code "!") refl,
        other (code "(") refl,
        other (code "0") refl,
        other (code "1") refl,
        e,
        name_run_append w rest p.letters (no_letter rest q),
      )
      (name_read w rest at p e)
  complete never (suc f) at rest h e q = simp (is_at_drop, e) (set_path (sym (set_of_false n)) refl)
  complete always (suc f) at rest h e q = simp (is_at_drop, e)
  complete (grouped c) (suc f) at rest h e q =
      let len = length-append (text c) (code ")" ∷ []) in
      let inner = drop_next s (text c ++ code ")" ∷ [] ++ rest) (code "(") at e
      ∙ append_assoc (text c) (code ")" ∷ []) rest in
      let left = drop_past s (text c) (code ")" ∷ rest) (at + 1) inner in
      let ih = complete c f (at + 1) (code ")" ∷ rest) (omega arith) inner refl in
      simp (is_at_drop, e, ih, left) (set_path refl (omega arith))
