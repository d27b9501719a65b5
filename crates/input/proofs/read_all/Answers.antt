-- `read_all` meets its contract: the invariant goes on by the piece that came.
use Rattle.std.proofs.Common.{arith, le_antisymm}
use Rattle.std.proofs.lemmas.Result.{err_from_is_err_and}
use Rattle.input.specs.Input.{full, ended, failed, more}
use Rattle.input.proofs.Pieces.{takes_more}
use Rattle.input.proofs.read_all.Goals as goal

pub loop-done-preserved : goal.loop-done-preserved
loop-done-preserved g c =
    let piece = c.in_ok-n.ensures.brought in
    let going = c.loop-done.invariant in
    record {
      within = omega (arith, piece.place, piece.long);
      goes_on = λ r last reads. going.goes_on r last (more (omega arith) piece reads);
      taken = takes_more _ _ _ _ _ _ _ piece.front going.taken c.in_ok-n.ensures.taken.0;
    }

pub returns-in_err-n-clause-pieces : goal.returns-in_err-n-clause-pieces
returns-in_err-n-clause-pieces g c =
    let came = err_from_is_err_and c.from_residual.result c.from_residual.ensures.1 in
    rw (came.1, came.2) (c.loop-done.invariant.goes_on _ _ (failed c.in_err-n.ensures.brought))

pub returns-then-n-eq0-clause-pieces : goal.returns-then-n-eq0-clause-pieces
returns-then-n-eq0-clause-pieces g c =
    c.loop-done.invariant.goes_on _ _ (ended (rw c.if-n-eq0.true at c.in_ok-n.ensures.brought))

pub returns-clause-pieces : goal.returns-clause-pieces
returns-clause-pieces g c =
    let going = c.loop-done.invariant in
    going.goes_on _ _ (full (le_antisymm c.loop-done-test.false going.within))
