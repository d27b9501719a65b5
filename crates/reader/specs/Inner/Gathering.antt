-- What the code gathers of the rows, in arrays.
use Rattle.std.specs.Prelude.{ℕ, List, [], ◌∷◌}
use Rattle.table.specs.declared.Row.{Row}
use Rattle.rows.specs.Inner.Row.{row_from}

-- The rows, of arrays of sets and of bounds, place by place.
unfoldable pub gathered : List (List ℕ) → List (List ℕ) → List Row
gathered [] bounds = []
gathered (sets ∷ more) [] = []
gathered (sets ∷ more) (bounds ∷ rest) = row_from sets bounds ∷ gathered more rest
