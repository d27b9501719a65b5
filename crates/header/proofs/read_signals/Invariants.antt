-- `header::read_signals`: the words so far are names, and those of the first six are kept.
use lib.ListN.{length}
use Rattle.text.specs.Inner.Cut.{split}
use Rattle.text.specs.Lines.{space}
use Rattle.header.proofs.SignalLaws.{Named}
use Rattle.header.proofs.read_signals.Given as goal

abbrev pub invariant-loop-n : goal.invariant-loop-n
invariant-loop-n l = Named (split space l.rest) (length l.yielded) l.names
