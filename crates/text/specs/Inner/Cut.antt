-- Bytes cut at each place of a byte: lines at LF, fields at commas, words at spaces.
use Rattle.std.specs.Prelude.{ℕ, Bool, cond, List, [], ◌∷◌, eqb, length, take}
use Rattle.letters.specs.Lists.{same_bytes}
use Rattle.text.specs.Lines.{LF}

-- What the bytes begin with.
abbrev pub starts_with : List ℕ → List ℕ → Bool
starts_with word xs = same_bytes (take (length word) xs) word

-- The pieces between the places of b: one more than there are such places.
abbrev pub longer : ℕ → List (List ℕ) → List (List ℕ)
longer x [] = []
longer x (piece ∷ pieces) = (x ∷ piece) ∷ pieces

unfoldable pub split : ℕ → List ℕ → List (List ℕ)
split b [] = [] ∷ []
split b (x ∷ xs) = cond (eqb x b) ([] ∷ split b xs) (longer x (split b xs))

-- What stands before the first b, and after it.
unfoldable pub front : ℕ → List ℕ → List ℕ
front b [] = []
front b (x ∷ xs) = cond (eqb x b) [] (x ∷ front b xs)

unfoldable pub after : ℕ → List ℕ → List ℕ
after b [] = []
after b (x ∷ xs) = cond (eqb x b) xs (after b xs)

-- The lines. Bytes after the last LF would be a line too; a file that has such bytes is refused
-- with 3 before it is cut.
abbrev pub prefixed : ℕ → List (List ℕ) → List (List ℕ)
prefixed x [] = (x ∷ []) ∷ []
prefixed x (line ∷ more) = (x ∷ line) ∷ more

unfoldable pub lines : List ℕ → List (List ℕ)
lines [] = []
lines (x ∷ xs) = cond (eqb x LF) ([] ∷ lines xs) (prefixed x (lines xs))
