-- Conditions as trees: the bytes of each, and what each says of a letter.
use Rattle.std.specs.Prelude.{ℕ, suc, ◌≤◌, Bool, true, false, not, ◌&&◌, ◌||◌, cond, List, [], ◌∷◌, ◌++◌, ◌≡◌, eqb, length, take, replicate}
use Rattle.letters.specs.Letter.{signal_on, set_of}
use Rattle.letters.specs.Lists.{every}
use Rattle.table.specs.Limits.{name_length}
use Rattle.table.specs.Name.{is_lowercase, same_name}
use Rattle.table.specs.declared.Name.{Name}
use Rattle.text.specs.Words.{or_sign, and_sign, not_sign, false_sign, true_sign, open_sign, close_sign}

-- "A name has 1 to 8 letters a-z."
pub record IsName (w : List ℕ) : Type 0 where
  pub some : 1 ≤ length w
  pub few : length w ≤ name_length
  pub letters : every is_lowercase w ≡ true

-- "A condition is a choice: one or more terms joined by `|`. A term is one or more factors joined
-- by `&`. A factor is `!` and a factor, or a name, or `0` (false), or `1` (true), or a choice in
-- parentheses."
pub data Kind : Type 0 where
  choice term factor : Kind

pub data Condition : Kind → Type 0 where
  one_term : Condition term → Condition choice
  or : Condition term → Condition choice → Condition choice
  one_factor : Condition factor → Condition term
  and : Condition factor → Condition term → Condition term
  negated : Condition factor → Condition factor
  named : (w : List ℕ) → IsName w → Condition factor
  never always : Condition factor
  grouped : Condition choice → Condition factor

-- The bytes of a condition.
unfoldable pub text : {k : Kind} → Condition k → List ℕ
text (one_term t) = text t
text (or t c) = text t ++ or_sign ∷ text c
text (one_factor f) = text f
text (and f t) = text f ++ and_sign ∷ text t
text (negated f) = not_sign ∷ text f
text (named w _) = w
text never = false_sign ∷ []
text always = true_sign ∷ []
text (grouped c) = open_sign ∷ text c ++ close_sign ∷ []

-- A name as a table value keeps it: its letters, then zeros, in eight places.
unfoldable pub name_of : List ℕ → Name
name_of w = record { chars = take name_length (w ++ replicate name_length 0) }

-- How many names stand before a name: all of them, where it is unknown.
unfoldable pub place : List Name → Name → ℕ
place [] name = 0
place (first ∷ names) name = cond (same_name name first) 0 (suc (place names name))

module _ (names : List Name) where
  -- Whether a condition holds at a letter: the k-th name is signal k.
  unfoldable pub holds_at : {k : Kind} → Condition k → ℕ → Bool
  holds_at (one_term t) l = holds_at t l
  holds_at (or t c) l = holds_at t l || holds_at c l
  holds_at (one_factor f) l = holds_at f l
  holds_at (and f t) l = holds_at f l && holds_at t l
  holds_at (negated f) l = not (holds_at f l)
  holds_at (named w _) l = signal_on l (place names (name_of w))
  holds_at never l = false
  holds_at always l = true
  holds_at (grouped c) l = holds_at c l

  -- Whether a condition has an unknown name.
  unfoldable pub unknown : {k : Kind} → Condition k → Bool
  unknown (one_term t) = unknown t
  unknown (or t c) = unknown t || unknown c
  unknown (one_factor f) = unknown f
  unknown (and f t) = unknown f || unknown t
  unknown (negated f) = unknown f
  unknown (named w _) = eqb (place names (name_of w)) (length names)
  unknown never = false
  unknown always = false
  unknown (grouped c) = unknown c

  -- The bytes xs are a condition that holds at the letters of the set v, of the first n letters; u
  -- says whether a name in it is unknown.
  pub record ConditionMeans (n : ℕ) (xs : List ℕ) (v : ℕ) (u : Bool) : Type 0 where
    pub tree : Condition choice
    pub bytes : text tree ≡ xs
    pub letters : set_of n (holds_at tree) ≡ v
    pub flag : unknown tree ≡ u
