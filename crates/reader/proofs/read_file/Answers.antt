-- `reader::read_file` meets its contract, number by number. Assumes nothing.
use Prim.Native.Nat.{ℕ, ◌-◌, ◌≤◌}
use borrow.Author.Tests.{eqb-false}
use native.Mathlib.Omega.{arith}
use mathlib.Core.List.{List}
use mathlib.Core.Path.{◌≡◌, sym, ap, ◌∙◌}
use lib.ListN.{length, get_or}
use Rattle.std.proofs.lemmas.Result.{err_from_is_err_and}
use Rattle.text.specs.Inner.Cut.{lines}
use Rattle.text.specs.Lines.{LF}
use Rattle.text.proofs.Parts.{part_front}
use Rattle.header.specs.Inner.Header.{version_answer}
use Rattle.reader.specs.Inner.File.{body_answer}
use Rattle.reader.proofs.Lines.{file_read, after_part}
use Rattle.reader.proofs.Lines.{on_line_ok, on_line_err}
use Rattle.reader.proofs.read_file.Goals as goal

-- What line 1 is read as.
pub returns-in_err-version : goal.returns-in_err-version
returns-in_err-version c =
    let bytes = c.args.bytes.now in
    let short : length bytes ≤ 4096 = omega arith in
    let ended : get_or bytes (length bytes - 1) 0 ≡ LF = omega arith in
    let read = c.read_version.ensures ∙ ap version_answer (part_front LF bytes c.find-end.ensures) in
    let lost = on_line_err 1 c.read_version.result c.on_line.ensures c.in_err-version.was in
    let given = err_from_is_err_and c.from_residual.result c.from_residual.ensures.1 in
    rw (given.1, given.2, lost.1)
    (sym (file_read bytes (eqb-false _ 0 (sym c.if-is_empty.ensures)) short ended _
    (sym lost.0 ∙ read)))

pub returns : goal.returns
returns c =
    let bytes = c.args.bytes.now in
    let short : length bytes ≤ 4096 = omega arith in
    let ended : get_or bytes (length bytes - 1) 0 ≡ LF = omega arith in
    let read = c.read_version.ensures ∙ ap version_answer (part_front LF bytes c.find-end.ensures) in
    let got = on_line_ok 1 c.read_version.result c.on_line.ensures c.in_ok-version.was in
    c.read_body.ensures
    ∙ ap (λ (l : List ℕ). body_answer c.in_ok-version.version (lines l))
    (after_part bytes c.find-end.result c.past.result c.find-end.ensures c.past.ensures)
    ∙ sym (file_read bytes (eqb-false _ 0 (sym c.if-is_empty.ensures)) short ended _ (sym got ∙ read))
