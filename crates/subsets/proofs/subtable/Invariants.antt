-- `subsets::subtable` meets its contract. The invariant: of the rows below i, those in the set
-- stand in front. Assumes nothing.
use Rattle.std.proofs.Common.{take}
use Rattle.subsets.proofs.Gathering.{Gathered}
use Rattle.subsets.proofs.subtable.Given as goal

abbrev pub invariant-loop-i : goal.invariant-loop-i
invariant-loop-i l = Gathered l.set (take l.used l.fn.table.rows) l.rows l.n l.i
