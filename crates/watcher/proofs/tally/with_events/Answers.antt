-- `watcher::tally::with_events` meets its contract, count by count. Assumes nothing.
use Rattle.std.proofs.Common.{arith}
use Rattle.step.specs.Events.{Event}
use Rattle.watcher.proofs.tally.with_events.Goals as goal

pub overflow_add-result : goal.overflow_add-result
overflow_add-result c = grind (arith, c.requires Event.started)

pub overflow_add-result-2 : goal.overflow_add-result-2
overflow_add-result-2 c = grind (arith, c.requires Event.realised)

pub overflow_add-result-3 : goal.overflow_add-result-3
overflow_add-result-3 c = grind (arith, c.requires Event.aborted)

pub overflow_add-result-4 : goal.overflow_add-result-4
overflow_add-result-4 c = grind (arith, c.requires Event.acting)

pub overflow_add-result-5 : goal.overflow_add-result-5
overflow_add-result-5 c = grind (arith, c.requires Event.completed)

pub overflow_add-result-6 : goal.overflow_add-result-6
overflow_add-result-6 c = grind (arith, c.requires Event.broken)
