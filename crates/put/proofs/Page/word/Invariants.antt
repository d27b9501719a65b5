-- The bytes so far are put: the buffer is that of the page with them, and `at` the place behind them.
use Rattle.std.proofs.Common.{◌≡◌, take}
use Rattle.put.specs.Inner.Page.{added}
use Rattle.put.proofs.Page.word.Given as goal

abbrev pub invariant-loop-b : goal.invariant-loop-b
invariant-loop-b l =
    record l.self { at = l.at } ≡ added l.initial.self (take l.b-index l.bytes)
