-- `rows::read_values` meets its contract. Assumes nothing.
use native.Mathlib.Nat.{add_assoc}
use native.Mathlib.Omega.{arith}
use mathlib.Core.Path.{sym, ◌∙◌}
use Rattle.std.proofs.lemmas.Result.{err_from_is_err_and}
use Rattle.text.proofs.Parts.{rest_whole}
use Rattle.rows.proofs.RowLaws.{here_front, gathered_next, gathered_fault, gathered_all}
use Rattle.rows.proofs.read_values.Goals as goal

-- Where a turn stands, what it reads there, and where it finds the comma.
pub returns-in_err-value : goal.returns-in_err-value
returns-in_err-value c =
    let here = c.loop-k.invariant.here c.loop-k-test.true in
    let read = sym (rw rest_whole at c.read_field.ensures) in
    let given = err_from_is_err_and c.from_residual.result c.from_residual.ensures.1 in
    rw (given.1, given.2)
    (sym (gathered_fault _ _ _ _ _ here (read ∙ c.in_err-value.was) _ c.loop-k.invariant))

pub overflow_add-at : goal.overflow_add-at
overflow_add-at c =
    let here = c.loop-k.invariant.here c.loop-k-test.true in
    let found = rw rest_whole at c.find-end.ensures in
    omega (arith, found, here_front _ _ _ _ _ here)

pub overflow_add-at-in-loop-k : goal.overflow_add-at-in-loop-k
overflow_add-at-in-loop-k c =
    let here = c.loop-k.invariant.here c.loop-k-test.true in
    let found = rw rest_whole at c.find-end.ensures in
    omega (arith, found, here_front _ _ _ _ _ here)

pub loop-k-preserved : goal.loop-k-preserved
loop-k-preserved c =
    let here = c.loop-k.invariant.here c.loop-k-test.true in
    let found = rw rest_whole at c.find-end.ensures in
    let read = sym (rw rest_whole at c.read_field.ensures) in
    rw (found, ← add_assoc)
    (gathered_next _ _ _ _ _ here (read ∙ c.in_ok-value.was) _ c.loop-k-test.true
    c.loop-k.invariant)

pub returns : goal.returns
returns c =
    sym (gathered_all _ _ _ _ _ _ c.requires.1 c.loop-k-test.false c.loop-k.invariant)
