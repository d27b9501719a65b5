-- The texts from field k on, put now, make the whole.
use Rattle.std.proofs.Common.{◌≡◌, map, ltb, drop}
use Rattle.text.specs.Lines.{joined, comma}
use Rattle.put.specs.Inner.Page.{added}
use Rattle.writer.specs.Inner.Writing.{names_of, field_text}
use Rattle.writer.proofs.Turns.{left}
use Rattle.writer.proofs.put_row.Given as goal

abbrev pub invariant-loop-k : goal.invariant-loop-k
invariant-loop-k l =
    let text = field_text (names_of l.signals) l.signals.count in
    added l.page (left comma (ltb 0 l.k) (map text (drop l.k l.field-items)))
    ≡ added l.initial.page (joined comma (map text l.field-items))
