-- `table::names::distinct` meets its contract. The invariant: none of the first n names stands
-- twice exactly if none from i on does. Assumes nothing.
use mathlib.Core.Path.{◌≡◌}
use lib.ListN.{take, drop}
use Rattle.table.specs.Name.{all_distinct}
use Rattle.table.proofs.names.distinct.Given as goal

abbrev pub invariant-loop-i : goal.invariant-loop-i
invariant-loop-i l = all_distinct (take l.n l.fn.names) ≡ all_distinct (drop l.i (take l.n l.fn.names))
