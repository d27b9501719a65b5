-- `rows::read_row` meets its contract, by the tests on the way to each return and by what the
-- functions below ensure. Assumes nothing.
use borrow.Author.Tests.{eqb-true}
use mathlib.Core.Path.{sym, ◌∙◌}
use lib.Dec.{eqb}
use lib.ListN.{take}
use Rattle.std.proofs.lemmas.Result.{err_from_is_err_and}
use Rattle.letters.specs.Lists.{same_bytes}
use Rattle.letters.proofs.Lists.{and_left, and_right}
use Rattle.text.specs.Lines.{count, comma}
use Rattle.text.specs.Words.{rule_word}
use Rattle.rows.specs.Inner.Row.{row_fields, row_answer}
use Rattle.rows.proofs.RowLaws.{rule_length, rule_commas, bounds_fit}
use Rattle.rows.proofs.read_row.Goals as goal

pub returns-then-not-is_rule : goal.returns-then-not-is_rule
unfolding row_answer
returns-then-not-is_rule c = rw (sym c.if-not-is_rule.ensures)

pub read_values-requires : goal.read_values-requires
read_values-requires c =
    let line = c.args.line.now in
    let starts = same_bytes (take 5 line) rule_word in
    let rule = and_left starts (eqb (count comma line) 11) (sym c.if-not-is_rule.ensures) in
    let commas = and_right starts (eqb (count comma line) 11) (sym c.if-not-is_rule.ensures) in
    (rule_length line rule, rule_commas line rule ∙ eqb-true (count comma line) 11 commas)

pub returns-in_err-read_values : goal.returns-in_err-read_values
unfolding row_answer row_fields
returns-in_err-read_values c =
    let given = err_from_is_err_and c.from_residual.result c.from_residual.ensures.1 in
    rw (given.1, given.2, ← c.if-not-is_rule.ensures, ← c.read_values.ensures, c.in_err-read_values.was)

pub judge_row-requires : goal.judge_row-requires
judge_row-requires c =
    bounds_fit _ _ _ _ (sym c.read_values.ensures ∙ c.in_ok-read_values.was)

pub returns : goal.returns
unfolding row_answer row_fields
returns c =
    rw (← c.if-not-is_rule.ensures, ← c.read_values.ensures, c.in_ok-read_values.was) c.judge_row.ensures
