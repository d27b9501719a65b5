-- `reader::read_rows`. The invariant: n rows are read, up to the place `at`, and their sets and
-- bounds are gathered. The measure: how many bytes are left.
use Prim.Native.Nat.{◌≤◌, ◌-◌, ◌+◌}
use mathlib.Core.List.{List}
use lib.ListN.{length}
use Rattle.rows.specs.declared.RowRead.{RowRead}
use Rattle.reader.proofs.Gathering.{Gathering}
use Rattle.reader.proofs.read_rows.Given as goal

abbrev pub invariant-loop-at : goal.invariant-loop-at
invariant-loop-at l =
    (reads : List RowRead) × (Gathering l.signals.names l.signals.count l.version l.rest reads l.sets
    l.bounds l.n l.at × ((l.at ≤ length l.rest + 1) × (1 ≤ length l.rest)))

abbrev pub decreases-loop-at : goal.decreases-loop-at
decreases-loop-at l = length l.rest + 1 - l.at
