-- The invariant of `load::run` (`Running`): the number and the phases are those after the first
-- ticks, and the totals are those of their letters.
use Rattle.load.proofs.Running.{Running}
use Rattle.load.proofs.run.Given as goal

abbrev pub invariant-loop : goal.invariant-loop
invariant-loop l = Running l.table l.start l.ticks l.number l.watch l.totals l.counter
