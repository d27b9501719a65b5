-- The numbers of the rows from `row` on, put now, make the whole; and whether there was one yet.
use Rattle.std.proofs.Common.{◌≡◌, ◌-◌, true, false}
use Rattle.put.specs.Inner.Page.{added}
use Rattle.lines.specs.Line.{row_numbers, spaced, spaced_or_dash}
use Rattle.lines.proofs.row_list.Given as goal

abbrev pub invariant-loop-row : goal.invariant-loop-row
invariant-loop-row l = record {
  putting : added l.page (spaced (row_numbers (l.rows - l.row) l.row l.set))
      ≡ added l.initial.page (spaced (row_numbers l.rows 0 l.set));
  none : l.none ≡ true → row_numbers (l.rows - l.row) l.row l.set ≡ row_numbers l.rows 0 l.set;
  some : l.none ≡ false
      → spaced_or_dash (row_numbers l.rows 0 l.set) ≡ spaced (row_numbers l.rows 0 l.set);
}
