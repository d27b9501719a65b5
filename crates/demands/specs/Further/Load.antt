-- What `loadtable` can print.
use Rattle.std.specs.Prelude.{ℕ, ◌≤◌, List, [], ◌∷◌, ◌++◌, length}
use Rattle.table.specs.Limits.{most_rows}
use Rattle.text.specs.Lines.{ended}
use Rattle.load.specs.Figures.{Totals}
use Rattle.load.specs.Load.{sums_of}
use Rattle.lines.specs.Line.{refused_line}
use Rattle.totals.specs.Totals.{totals_lines, sums_line}

-- Refused by one of 1 to 16, or the totals of 1 to 8 rows with their sums.
pub data LoadPrints : List ℕ → Type 0 where
  refused : (number line : ℕ) → 1 ≤ number → number ≤ 16
      → LoadPrints (ended (refused_line number line ∷ []))
  totals : (all : List Totals) → 1 ≤ length all → length all ≤ most_rows
      → LoadPrints (ended (totals_lines 1 all ++ sums_line (sums_of all) ∷ []))
