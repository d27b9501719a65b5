-- `reader::read_body` meets its contract, line by line. Assumes nothing.
use Prim.Native.Nat.{ℕ}
use borrow.Author.Tests.{eqb-false}
use mathlib.Core.List.{List}
use mathlib.Core.Path.{sym, ap, ◌∙◌}
use Rattle.std.proofs.lemmas.Result.{err_from_is_err_and}
use Rattle.text.specs.Inner.Cut.{split, lines}
use Rattle.text.specs.Lines.{LF, space}
use Rattle.text.proofs.Parts.{part_front}
use Rattle.header.specs.Inner.Header.{signals_answer}
use Rattle.reader.specs.Inner.File.{rows_answer}
use Rattle.reader.proofs.Lines.{body_read, after_part, on_line_ok, on_line_err}
use Rattle.reader.proofs.read_body.Goals as goal

-- What line 2 is read as.
pub returns-in_err-signals : goal.returns-in_err-signals
returns-in_err-signals c =
    let rest = c.args.rest.now in
    let read = c.read_signals.ensures
    ∙ ap (λ (l : List ℕ). signals_answer (split space l)) (part_front LF rest c.find-end.ensures) in
    let lost = on_line_err 2 c.read_signals.result c.on_line.ensures c.in_err-signals.was in
    let given = err_from_is_err_and c.from_residual.result c.from_residual.ensures.1 in
    rw (given.1, given.2, lost.1)
    (sym (body_read rest c.args.version (eqb-false _ 0 (sym c.if-is_empty.ensures)) _ (sym lost.0 ∙ read)))

pub returns : goal.returns
returns c =
    let rest = c.args.rest.now in
    let signals = c.in_ok-signals.signals in
    let read = c.read_signals.ensures
    ∙ ap (λ (l : List ℕ). signals_answer (split space l)) (part_front LF rest c.find-end.ensures) in
    let got = on_line_ok 2 c.read_signals.result c.on_line.ensures c.in_ok-signals.was in
    c.read_rows.ensures
    ∙ ap (λ (l : List ℕ). rows_answer signals.names signals.count c.args.version (lines l))
    (after_part rest c.find-end.result c.past.result c.find-end.ensures c.past.ensures)
    ∙ sym (body_read rest c.args.version (eqb-false _ 0 (sym c.if-is_empty.ensures)) _ (sym got ∙ read))
