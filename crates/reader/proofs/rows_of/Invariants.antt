-- `reader::rows_of`. The invariant: the rows below i are those of their sets and bounds.
use Rattle.letters.proofs.Filling.{Filled}
use Rattle.table.specs.Limits.{most_rows}
use Rattle.table.specs.Row.{zero_row}
use Rattle.reader.proofs.Gathering.{row_at}
use Rattle.reader.proofs.rows_of.Given as goal

abbrev pub invariant-loop-i : goal.invariant-loop-i
invariant-loop-i l = Filled zero_row (row_at l.sets l.bounds) most_rows l.row-items l.i
