-- The invariant of `watcher::play`: number 17 and 18 let by what was passed, the letters so far are
-- right, the state is the one after them, and what happened at them is counted.
use Rattle.watcher.proofs.Tables.{Playing}
use Rattle.watcher.proofs.play.Given as goal

abbrev pub invariant-loop-letter : goal.invariant-loop-letter
invariant-loop-letter l = Playing l.table l.watch l.trace l.last l.counts l.letter-index
