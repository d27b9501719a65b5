-- `run` meets its contract: the lines of the rows and their sums, one after the other.
-- Assumes nothing.
use Rattle.std.proofs.Common.{rules, arith}
use Rattle.text.specs.Bytes.{bytes}
use Rattle.text.specs.Lines.{ended}
use Rattle.put.proofs.Pages.{bytes_then, last_line, lines_then, at_le}
use Rattle.lines.proofs.Lengths.{refused_length}
use Rattle.totals.specs.Totals.{totals_lines, run_lines}
use Rattle.totals.proofs.run.Goals as goal

pub returns-in-Err-clause-puts : goal.returns-in-Err-clause-puts
unfolding run_lines
returns-in-Err-clause-puts c = rw c.in-Err.is (last_line _ _ c.refused.ensures)

pub returns-in-Err-clause-upper_bound : goal.returns-in-Err-clause-upper_bound
unfolding ended
returns-in-Err-clause-upper_bound c =
    let refusal = c.in-Err.refusal in
    let short = refused_length refusal.number refusal.line (search rules) (search rules) in
    omega (arith, at_le _ _ c.refused.ensures, short)

pub returns-in-Ok-clause-puts : goal.returns-in-Ok-clause-puts
unfolding run_lines
returns-in-Ok-clause-puts c =
    rw (c.in-Ok.is, ← c.sum-sums.ensures)
    (lines_then _ (totals_lines 1 _) _ c.row_lines.ensures.puts
    (last_line _ _ (bytes_then _ (bytes "total") _ c.word.ensures c.numbers.ensures.puts)))

pub returns-in-Ok-clause-upper_bound : goal.returns-in-Ok-clause-upper_bound
returns-in-Ok-clause-upper_bound c =
    omega (
      arith,
      c.row_lines.ensures.upper_bound,
      at_le _ _ c.word.ensures,
      c.numbers.ensures.upper_bound,
    )
