-- The invariant of `load::sum`: the sums are those of the rows so far, and none is larger than so
-- many totals can make it.
use lib.ListN.{length, take}
use Rattle.load.proofs.Summing.{Summing}
use Rattle.load.proofs.sum.Given as goal

abbrev pub invariant-loop-row : goal.invariant-loop-row
invariant-loop-row l = Summing (take l.rows l.fn.totals) l.sums (length l.yielded)
