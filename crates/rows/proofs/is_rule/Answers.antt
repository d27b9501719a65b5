-- `rows::is_rule` meets its contract. Assumes nothing.
use Rattle.std.proofs.Common.{◌≡◌, true, false}
use Rattle.text.specs.Words.{rule_word}
use Rattle.text.specs.Inner.Cut.{starts_with}
use Rattle.text.proofs.Parts.{starts_with_word}
use Rattle.rows.proofs.is_rule.Goals as goal

pub returns-then-starts_with : goal.returns-then-starts_with
returns-then-starts_with c =
    let word : starts_with rule_word c.args.line.now ≡ true =
    rw (c.starts_with.ensures.value, starts_with_word rule_word c.args.line.now) at
    c.if-starts_with.true in
    rw (word, c.count_of.ensures)

pub returns-else-starts_with : goal.returns-else-starts_with
returns-else-starts_with c =
    let other : starts_with rule_word c.args.line.now ≡ false =
    rw (c.starts_with.ensures.value, starts_with_word rule_word c.args.line.now) at
    c.if-starts_with.false in
    rw (c.if-starts_with.false, other)
