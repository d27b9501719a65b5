-- A row's line takes few bytes. Assumes nothing.
use Rattle.std.proofs.Common.{rules, arith}
use Rattle.text.proofs.Decimals.{decimal_length}
use Rattle.put.proofs.Pages.{at_le}
use Rattle.totals.proofs.row_line.Goals as goal

pub returns-clause-upper_bound : goal.returns-clause-upper_bound
returns-clause-upper_bound c =
    omega (
      arith,
      at_le _ _ c.word.ensures,
      at_le _ _ c.decimal.ensures,
      decimal_length 9 c.args.row (search rules),
      c.numbers.ensures.upper_bound,
    )
