-- `put_row` meets its contract: the word, the texts of the fields, and the line's end.
-- Assumes nothing.
use Rattle.std.proofs.Common.{◌≡◌, ◌∷◌, [], map, arith}
use Rattle.text.specs.Lines.{LF, comma, joined}
use Rattle.text.specs.Words.{rule_word}
use Rattle.put.specs.Inner.Page.{added}
use Rattle.put.proofs.Pages.{bytes_then}
use Rattle.writer.specs.Inner.Writing.{names_of, field_text}
use Rattle.writer.specs.File.{field_texts, row_text}
use Rattle.writer.proofs.Turns.{field_turns}
use Rattle.writer.proofs.put_row.Goals as goal

pub returns : goal.returns
unfolding added
returns c =
    let names = names_of c.args.signals.now in
    let s = c.args.signals.now.count in
    let texts : c.loop-k.page
    ≡ added c.word.new.self (joined comma (map (field_text names s) c.fields_of.result)) =
    grind (arith, field_turns) in
    bytes_then _ (row_text names s c.args.row.now) (LF ∷ [])
    (bytes_then _ rule_word (joined comma (field_texts names s c.args.row.now)) c.word.ensures
    (rw c.fields_of.ensures at texts)) c.byte.ensures
