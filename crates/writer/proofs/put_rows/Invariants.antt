-- The lines from a row on, put now, make the whole.
use Rattle.std.proofs.Common.{◌≡◌, map, drop}
use Rattle.text.specs.Lines.{ended}
use Rattle.put.specs.Inner.Page.{added}
use Rattle.writer.specs.Inner.Writing.{names_of}
use Rattle.writer.specs.File.{row_text}
use Rattle.writer.proofs.put_rows.Given as goal

abbrev pub invariant-loop-row : goal.invariant-loop-row
invariant-loop-row l =
    let text = row_text (names_of l.signals) l.signals.count in
    added l.page (ended (map text (drop l.row-index l.row-items)))
    ≡ added l.initial.page (ended (map text l.row-items))
