-- `watcher::tally::add` meets its contract. Assumes nothing.
use Rattle.std.proofs.Common.{arith}
use borrow.Author.Rules.{rules}
use Rattle.watcher.proofs.Counting.{added_over}
use Rattle.watcher.proofs.tally.add.Goals as goal

pub returns : goal.returns
returns c =
    let head = c.loop-i.invariant in
    added_over _ _ _ head.long c.told-counts (search rules)
    (λ j low. head.done j (omega (arith, low, c.loop-i-test.false)))
