-- `report` meets its contract: the lines of what is found, one after the other. Assumes nothing.
use Rattle.std.proofs.Common.{◌≡◌, Ok, ap, ◌∙◌}
use Rattle.verdict.specs.declared.Finding.{Finding}
use Rattle.verdict.specs.declared.Finding.TheVariants.{Sound, Trapped}
use Rattle.put.proofs.Pages.{last_line, line_then, lines_then}
use Rattle.report.specs.Report.{heading, size_lines, sound_line, trapped_line, report_lines}
use Rattle.report.proofs.report.Goals as goal

pub returns-in-Err : goal.returns-in-Err
unfolding report_lines
returns-in-Err c =
    rw c.in-Err.is (line_then _ heading _ c.word.ensures (last_line _ _ c.refused.ensures))

pub returns-in-Ok-Sound : goal.returns-in-Ok-Sound
unfolding report_lines
returns-in-Ok-Sound c =
    let is : c.args.found ≡ Ok (Sound c.in-Ok-Sound.summary) =
    c.in-Ok-Sound.is ∙ ap (λ (n : Finding). Ok n) (rw c.in-Ok-Sound.is at c.in-Ok-Sound.field-0-is) in
    rw is
    (line_then _ heading _ c.word.ensures (lines_then _ (size_lines _ _) _ c.sized.ensures
    (line_then _ sound_line _ c.word-in-Ok-Sound.ensures c.listed.ensures)))

pub returns-in-Ok-Trapped : goal.returns-in-Ok-Trapped
unfolding report_lines
returns-in-Ok-Trapped c =
    let is : c.args.found ≡ Ok (Trapped c.in-Ok-Trapped.summary c.in-Ok-Trapped.trap) =
    c.in-Ok-Trapped.is
    ∙ ap (λ (n : Finding). Ok n) (rw c.in-Ok-Trapped.is at c.in-Ok-Trapped.field-0-is) in
    rw is
    (lines_then _ _ _ (line_then _ heading _ c.word.ensures
    (lines_then _ (size_lines _ _) _ c.sized-in-Ok-Trapped.ensures
    (line_then _ trapped_line _ c.word-in-Ok-Trapped.ensures c.trapped.ensures)))
    c.listed-in-Ok-Trapped.ensures)
