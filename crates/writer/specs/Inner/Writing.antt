-- How the functions that put a table on a page take it.
use Rattle.std.specs.Prelude.{ℕ, List, [], ◌∷◌, ◌++◌, get_or, take}
use Rattle.table.specs.Refusal.{refused_at}
use Rattle.table.specs.declared.Name.{Name}
use Rattle.table.specs.declared.Row.{Row}
use Rattle.table.specs.declared.Signals.{Signals}
use Rattle.text.specs.Bounds.{decimal}
use Rattle.writer.specs.File.{condition_text}
use Rattle.writer.specs.declared.Field.{Field}
use Rattle.writer.specs.declared.Field.TheVariants.{Condition, Bound}
use Rattle.writer.specs.declared.Written.{Written}

-- The names that are used.
abbrev pub names_of : Signals → List Name
names_of signals = take signals.count signals.names

-- Pieces, each behind a byte.
unfoldable pub behind : ℕ → List (List ℕ) → List ℕ
behind b [] = []
behind b (piece ∷ more) = b ∷ piece ++ behind b more

-- The fields of a row, in file order, and the text of each.
abbrev pub fields_of : Row → List Field
fields_of row =
    Condition (get_or row.sets 0 0) ∷ Condition (get_or row.sets 1 0)
    ∷ Condition (get_or row.sets 2 0) ∷ Bound row.tmin ∷ Bound row.tmax ∷ Bound row.lmin
    ∷ Bound row.lmax ∷ Condition (get_or row.sets 3 0) ∷ Condition (get_or row.sets 4 0)
    ∷ Condition (get_or row.sets 5 0) ∷ Bound row.amin ∷ Bound row.amax ∷ []

abbrev pub field_text : List Name → ℕ → Field → List ℕ
field_text names s (Condition set) = condition_text names s set
field_text names s (Bound n) = decimal n

-- What is answered where nothing is written.
abbrev pub not_written : ℕ → Written
not_written number = record { outcome = refused_at number 0; length = 0 }
