-- The invariant of `Pass::over`: the rows from i on, passed from here, give what all of them give
-- from the beginning.
use mathlib.Core.Path.{◌≡◌}
use lib.ListN.{drop}
use Rattle.pass.specs.Inner.Pass.{pass_over}
use Rattle.pass.proofs.Pass.over.Given as goal

abbrev pub invariant-loop-i : goal.invariant-loop-i
invariant-loop-i l = pass_over (drop l.i l.rows) l.i l.self ≡ pass_over l.rows 0 l.initial.self
