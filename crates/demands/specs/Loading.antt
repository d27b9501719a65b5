-- What the promises about the burn-in speak of: from the bytes of a file to its totals.
use Rattle.std.specs.Prelude.{ℕ, List, [], ◌∷◌, ◌++◌, map}
use Rattle.table.specs.Valid.{rows_of}
use Rattle.table.specs.declared.Table.{Table}
use Rattle.text.specs.Lines.{ended}
use Rattle.reader.specs.Grammar.{IsFile}
use Rattle.reader.specs.Reading.{refused_file}
use Rattle.reader.specs.Right.{RightReading}
use Rattle.load.specs.Figures.{Totals}
use Rattle.load.specs.Load.{load_of, totals_of, sums_of}
use Rattle.lines.specs.Line.{refused_line}
use Rattle.totals.specs.Totals.{totals_lines, sums_line}
use Rattle.checker.specs.FileLoad.{load_start, load_ticks}

-- The totals of each row of a table after the program's load.
abbrev pub load_totals : Table → List Totals
load_totals table =
    let s = table.signals in
    map (λ row. totals_of s row (load_of s load_start load_ticks)) (rows_of table)

-- "`loadtable` .. prints for each row `row R` and .., then `total` and the sums. A refused table
-- prints its refused line alone."
pub data RightLoad (bytes : List ℕ) : List ℕ → Type 0 where
  refused : {number line : ℕ} → RightReading bytes (refused_file number line)
      → RightLoad bytes (ended (refused_line number line ∷ []))
  loaded : {table : Table} → IsFile bytes table
      → RightLoad bytes
      (ended (totals_lines 1 (load_totals table) ++ sums_line (sums_of (load_totals table)) ∷ []))
