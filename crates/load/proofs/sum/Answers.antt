-- `load::sum` meets its contract. Assumes nothing.
use Rattle.std.proofs.Common.{rules, ◌≡◌}
use Rattle.std.proofs.lemmas.Iterator.{YieldsList-from_slice, YieldsList-from_take}
use Rattle.std.proofs.lemmas.Iterator.Consumers.{YieldsList-turn}
use Rattle.std.proofs.lemmas.List.{length_push}
use Rattle.load.proofs.Summing.{no_sums, summing_none, summing_next}
use Rattle.load.proofs.sum.Goals as goal

pub loop-row-init : goal.loop-row-init
loop-row-init c =
    let none : c.default-sums.result ≡ no_sums = search rules in
    rw none (summing_none _)

pub loop-row-preserved : goal.loop-row-preserved
loop-row-preserved c =
    let turn = YieldsList-turn
    (YieldsList-from_take c.args.rows (YieldsList-from_slice c.args.totals (cc)) (cc))
    c.loop-row.yielded _ c.loop-row.yielded_by _ _ c.in-Some.row c.in-Some.is c.next.ensures.steps in
    summing_next c.loop-row.invariant turn.0 turn.1 c.with_row-sums.ensures.value
    c.with_row-sums.ensures.grown (length_push c.loop-row.yielded c.in-Some.row)
