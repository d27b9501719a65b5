-- The numbers that are left, put now, make the whole; each takes at most eleven bytes.
use Rattle.std.proofs.Common.{◌≡◌, ◌+◌, ◌*◌, ◌≤◌, drop}
use Rattle.put.specs.Inner.Page.{added}
use Rattle.lines.specs.Line.{spaced}
use Rattle.totals.proofs.numbers.Given as goal

abbrev pub invariant-loop-n : goal.invariant-loop-n
invariant-loop-n l = record {
  putting : added l.page (spaced (drop l.n-index l.n-items)) ≡ added l.initial.page (spaced l.n-items);
  near : l.page.at ≤ l.initial.page.at + 11 * l.n-index;
}
