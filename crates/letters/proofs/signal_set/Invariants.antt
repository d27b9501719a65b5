-- `letters::signal_set` meets its contract. The invariant: the set has the letters below l at which
-- the signal is on. Assumes nothing.
use mathlib.Core.Path.{◌≡◌}
use Rattle.letters.specs.Letter.{signal_on, set_of}
use Rattle.letters.proofs.signal_set.Given as goal

abbrev pub invariant-loop-l : goal.invariant-loop-l
invariant-loop-l l = l.set ≡ set_of l.l (λ i. signal_on i l.k)
