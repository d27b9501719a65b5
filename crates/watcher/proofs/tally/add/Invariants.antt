-- The invariant of `watcher::tally::add`: the counts below i have this tick's events more, and the
-- others are as they were.
use Prim.Native.Nat.{ℕ, ◌≤◌, ◌<◌}
use mathlib.Core.Path.{◌≡◌}
use lib.ListN.{length, get_or}
use Rattle.watcher.specs.Counts.{no_counts}
use Rattle.watcher.proofs.Counting.{added_at}
use Rattle.watcher.proofs.tally.add.Given as goal

abbrev pub invariant-loop-i : goal.invariant-loop-i
invariant-loop-i l = record {
  long : length l.counts ≡ length l.fn.counts;
  done : (j : ℕ) → j < l.i → get_or l.counts j no_counts ≡ added_at l.fn.counts l.events j;
  left : (j : ℕ) → l.i ≤ j → get_or l.counts j no_counts ≡ get_or l.fn.counts j no_counts;
}
