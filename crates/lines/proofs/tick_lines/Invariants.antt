-- The lines from tick i + 1 on, put now, make the whole.
use Rattle.std.proofs.Common.{◌≡◌, ◌+◌, drop}
use Rattle.text.specs.Lines.{ended}
use Rattle.put.specs.Inner.Page.{added}
use Rattle.lines.specs.Line.{tick_lines}
use Rattle.lines.proofs.tick_lines.Given as goal

abbrev pub invariant-loop-i : goal.invariant-loop-i
invariant-loop-i l =
    added l.page (ended (tick_lines l.signals (l.i + 1) (drop l.i l.used)))
    ≡ added l.initial.page (ended (tick_lines l.signals 1 l.used))
