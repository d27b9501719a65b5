-- `put_file` meets its contract: its lines, one after the other. Assumes nothing.
use Rattle.put.proofs.Pages.{line_then}
use Rattle.writer.specs.File.{file_text}
use Rattle.writer.proofs.put_file.Goals as goal

pub returns : goal.returns
unfolding file_text
returns c = line_then _ _ _ c.word.ensures (line_then _ _ _ c.put_signals.ensures c.put_rows.ensures)
