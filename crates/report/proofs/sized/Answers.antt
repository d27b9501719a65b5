-- `sized` meets its contract: its two lines, one after the other. Assumes nothing.
use Rattle.put.proofs.Pages.{page_lines}
use Rattle.report.proofs.sized.Goals as goal

pub returns : goal.returns
returns c = simp page_lines cc
