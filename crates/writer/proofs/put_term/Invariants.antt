-- The literals from signal k on, put now, make the whole.
use Rattle.std.proofs.Common.{◌≡◌, ltb, drop}
use Rattle.text.specs.Lines.{joined}
use Rattle.text.specs.Words.{and_sign}
use Rattle.put.specs.Inner.Page.{added}
use Rattle.writer.specs.File.{literals}
use Rattle.writer.proofs.Turns.{left}
use Rattle.writer.proofs.put_term.Given as goal

abbrev pub invariant-loop-k : goal.invariant-loop-k
invariant-loop-k l =
    added l.page (left and_sign (ltb 0 l.k) (literals l.k (drop l.k l.name-items) l.letter))
    ≡ added l.initial.page (joined and_sign (literals 0 l.name-items l.letter))
