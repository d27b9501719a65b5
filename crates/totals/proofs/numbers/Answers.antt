-- Four numbers take few bytes. Assumes nothing.
use Rattle.std.proofs.Common.{◌≡◌, [], ◌∷◌, length, rules, arith}
use Rattle.put.proofs.Pages.{at_le}
use Rattle.totals.proofs.numbers.Goals as goal

pub returns-clause-upper_bound : goal.returns-clause-upper_bound
returns-clause-upper_bound c =
    let four : length c.args.numbers ≡ 4 = search rules in
    omega (arith, c.loop-n.invariant.near, at_le c.loop-n.page (10 ∷ []) c.byte.ensures)
