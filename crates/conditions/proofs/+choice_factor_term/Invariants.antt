-- `conditions::choice`, `term` and `factor`, which call each other, a choice and a term through the
-- closures that read their parts. The measure: five for each byte left, and more the further from a
-- factor, so that each calls the next at the same place; every other call is past a byte.
use Prim.Native.Nat.{◌+◌, ◌-◌, ◌*◌}
use lib.ListN.{length}
use Rattle.conditions.proofs.+choice_factor_term.Given as goal

abbrev pub decreases-choice : goal.decreases-choice
decreases-choice l = 5 * (length l.s.now - l.at) + 4

abbrev pub decreases-choice-joined+arg5 : goal.decreases-choice-joined+arg5
decreases-choice-joined+arg5 l = 5 * (length l.s.now - l.i) + 3

abbrev pub decreases-term : goal.decreases-term
decreases-term l = 5 * (length l.s.now - l.at) + 2

abbrev pub decreases-term-joined+arg5 : goal.decreases-term-joined+arg5
decreases-term-joined+arg5 l = 5 * (length l.s.now - l.i) + 1

abbrev pub decreases-factor : goal.decreases-factor
decreases-factor l = 5 * (length l.s.now - l.at)
