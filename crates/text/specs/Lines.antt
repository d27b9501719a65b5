-- Bytes put together from pieces: a file from its lines, a line from its words or its fields.
use Prim.Native.Char.{code}
use Rattle.std.specs.Prelude.{ℕ, suc, cond, List, [], ◌∷◌, ◌++◌, ◌≡◌, eqb}

-- "Lines end with LF (byte 10)."
abbrev pub LF : ℕ
LF = 10

abbrev pub space : ℕ
space = code " "

abbrev pub comma : ℕ
comma = code ","

-- The bytes of some lines, each with its LF; and of some pieces, with the byte b between each two.
unfoldable pub ended : List (List ℕ) → List ℕ
ended [] = []
ended (line ∷ more) = line ++ LF ∷ ended more

unfoldable pub joined : ℕ → List (List ℕ) → List ℕ
joined b [] = []
joined b (piece ∷ []) = piece
joined b (piece ∷ next ∷ more) = piece ++ b ∷ joined b (next ∷ more)

-- How often a byte stands in a list.
unfoldable pub count : ℕ → List ℕ → ℕ
count b [] = 0
count b (x ∷ xs) = cond (eqb x b) (suc (count b xs)) (count b xs)

-- Each of a list is so; and the byte b stands in none of the pieces.
pub data All {A : Type 0} (P : A → Type 0) : List A → Type 0 where
  none : All P []
  and : {a : A} {more : List A} → P a → All P more → All P (a ∷ more)

abbrev pub Free : ℕ → List (List ℕ) → Type 0
Free b pieces = All (λ piece. count b piece ≡ 0) pieces
