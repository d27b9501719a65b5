-- What `loadtable` prints of a table: document 02, ask 5.
use Rattle.std.specs.Prelude.{ℕ, suc, List, [], ◌∷◌, ◌++◌, take}
use Rattle.table.specs.Refusal.{Outcome}
use Rattle.std.specs.Prelude.{Ok, Err}
use Rattle.text.specs.Bounds.{decimal}
use Rattle.text.specs.Bytes.{bytes}
use Rattle.text.specs.Lines.{ended}
use Rattle.load.specs.declared.Ran.{Ran}
use Rattle.load.specs.Figures.{Sums}
use Rattle.load.specs.Figures.{Totals}
use Rattle.load.specs.Load.{sums_of}
use Rattle.lines.specs.Line.{refused_line, spaced}

-- "Prints for each row `row R` and, each after a space, triggers realised, actions completed,
-- breaks and actions open at the end": row r, and those from row r on.
abbrev pub totals_line : ℕ → Totals → List ℕ
totals_line r t =
    bytes "row " ++ decimal r
    ++ spaced (t.realised ∷ t.completed ∷ t.breaks ∷ t.pending ∷ [])

unfoldable pub totals_lines : ℕ → List Totals → List (List ℕ)
totals_lines r [] = []
totals_lines r (t ∷ more) = totals_line r t ∷ totals_lines (suc r) more

-- "Then `total` and the sums."
abbrev pub sums_line : Sums → List ℕ
sums_line sums =
    bytes "total"
    ++ spaced (sums.realised ∷ sums.completed ∷ sums.breaks ∷ sums.pending ∷ [])

-- The lines of the first rows of a run. "A refused table prints its refused line alone."
unfoldable pub run_lines : ℕ → Outcome → List Totals → List (List ℕ)
run_lines rows (Err r) all = refused_line r.number r.line ∷ []
run_lines rows (Ok _) all =
    let used = take rows all in totals_lines 1 used ++ sums_line (sums_of used) ∷ []

abbrev pub run_bytes : ℕ → Ran → List ℕ
run_bytes rows ran = ended (run_lines rows ran.outcome ran.totals)
