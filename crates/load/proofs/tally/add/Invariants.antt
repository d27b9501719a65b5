-- The invariant of `load::tally::add`: the totals below i have this tick more, and the others are as
-- they were.
use Prim.Native.Nat.{ℕ, ◌≤◌, ◌<◌}
use mathlib.Core.Path.{◌≡◌}
use lib.ListN.{length, get_or}
use Rattle.load.specs.Load.{no_totals}
use Rattle.load.specs.Inner.Tally.{ticked_at}
use Rattle.load.proofs.tally.add.Given as goal

abbrev pub invariant-loop-i : goal.invariant-loop-i
invariant-loop-i l = record {
  long : length l.totals ≡ length l.fn.totals;
  done : (j : ℕ) → j < l.i → get_or l.totals j no_totals ≡ ticked_at l.fn.totals l.events l.watch j;
  left : (j : ℕ) → l.i ≤ j → get_or l.totals j no_totals ≡ get_or l.fn.totals j no_totals;
}
