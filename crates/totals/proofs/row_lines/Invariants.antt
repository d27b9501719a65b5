-- The lines that are left, put now, make the whole; each takes at most 59 bytes.
use Rattle.std.proofs.Common.{◌≡◌, ◌+◌, ◌*◌, ◌≤◌, drop}
use Rattle.text.specs.Lines.{ended}
use Rattle.put.specs.Inner.Page.{added}
use Rattle.totals.specs.Totals.{totals_lines}
use Rattle.totals.proofs.row_lines.Given as goal

abbrev pub invariant-loop-i : goal.invariant-loop-i
invariant-loop-i l = record {
  putting : added l.page (ended (totals_lines (l.i + 1) (drop l.i l.used)))
      ≡ added l.initial.page (ended (totals_lines 1 l.used));
  near : l.page.at ≤ l.initial.page.at + 59 * l.i;
}
