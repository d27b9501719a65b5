-- `conditions::too_deep` meets its contract. The invariant: neither counter is over the number of
-- bytes that are passed, and the answer is that of the counters as they are on the bytes from there
-- on.
use Prim.Native.Nat.{◌≤◌}
use mathlib.Core.Path.{◌≡◌}
use lib.ListN.{drop}
use Rattle.conditions.specs.Inner.Judge.{deep}
use Rattle.conditions.proofs.too_deep.Given as goal

abbrev pub invariant-loop-b : goal.invariant-loop-b
invariant-loop-b l =
    (l.closed ≤ l.b-index) × (l.opened ≤ l.b-index)
    × (deep 0 0 l.s ≡ deep l.opened l.closed (drop l.b-index l.s))
