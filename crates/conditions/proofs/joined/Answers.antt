-- `conditions::joined` meets its contract. Assumes nothing.
use native.Mathlib.Omega.{arith}
use mathlib.Core.Path.{sym}
use Rattle.conditions.proofs.Bytes.{is_at_lt}
use Rattle.conditions.proofs.Steps.{joins_nothing, joins_first, more_nothing, more_part}
use Rattle.conditions.proofs.joined.Goals as goal

pub returns-in_err-all : goal.returns-in_err-all
returns-in_err-all g c = λ k part f names n joins same parts.
    rw c.from_residual.ensures
    (joins_nothing joins (rw c.in_err-all.was at (parts _ _ c.part.ensures)))

pub loop-part-init : goal.loop-part-init
loop-part-init g c = record {
  starts = rw c.in_ok-all.was at (c.requires.past _ _ c.part.ensures);
  begun = λ k part f names n joins same parts.
      joins_first joins (rw c.in_ok-all.was at (parts _ _ c.part.ensures));
}

pub overflow_add-all : goal.overflow_add-all
overflow_add-all g c =
    let inside = is_at_lt _ _ _ (sym c.loop-part-test.ensures) in
    omega arith

pub returns-in_err-more : goal.returns-in_err-more
returns-in_err-more g c = λ k part f names n joins same parts.
    rw c.from_residual-in_err-more.ensures
    (more_nothing joins (c.loop-part.invariant.begun k part f names n joins same parts)
    (sym c.loop-part-test.ensures)
    (rw c.in_err-more.was at (parts _ _ c.part-in-loop-part.ensures)))

pub loop-part-smaller : goal.loop-part-smaller
loop-part-smaller g c =
    let inside = is_at_lt _ _ _ (sym c.loop-part-test.ensures) in
    let past = rw c.in_ok-more.was at (c.requires.past _ _ c.part-in-loop-part.ensures) in
    omega arith

pub loop-part-preserved : goal.loop-part-preserved
loop-part-preserved g c =
    let here = sym c.loop-part-test.ensures in
    let past = rw c.in_ok-more.was at (c.requires.past _ _ c.part-in-loop-part.ensures) in
    record {
      starts = omega (arith, c.loop-part.invariant.starts);
      begun = λ k part f names n joins same parts.
          rw (same _ _ _ c.join.ensures)
          (more_part joins (c.loop-part.invariant.begun k part f names n joins same parts) here
          (rw c.in_ok-more.was at (parts _ _ c.part-in-loop-part.ensures)));
    }

pub returns : goal.returns
returns g c = λ k part f names n joins same parts.
    (c.loop-part.invariant.begun k part f names n joins same parts).stop
    (sym c.loop-part-test.ensures)
