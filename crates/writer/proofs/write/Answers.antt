-- `write` meets its contract: the file put into no buffer gives its length, by which the answer is
-- found; then it is put into the lent one. Assumes nothing.
use Rattle.std.proofs.Common.{◌≡◌, ℕ, List, sym, ◌∙◌, arith}
use Rattle.put.proofs.Pages.{page_counted, whole_page}
use Rattle.writer.specs.declared.Written.{Written}
use Rattle.writer.specs.Inner.Writing.{not_written}
use Rattle.writer.specs.File.{WriteCall, unwritten}
use Rattle.writer.proofs.Answers.{is17, is24, is_written, case_answer}
use Rattle.writer.proofs.write.Goals as goal

-- A call that answers a number.
refused_call : {r : Written} {number : ℕ} {buffer : List ℕ} {answer : WriteCall}
    → r ≡ not_written number → answer ≡ unwritten number buffer
    → ◌≡◌ {A = WriteCall} (record {
      outcome = r.outcome;
      length = r.length;
      buffer = buffer;
    }) answer
refused_call e a = rw (e, a)

pub returns-then-not-valid : goal.returns-then-not-valid
returns-then-not-valid c =
    refused_call c.refused.ensures
    (case_answer _ _ (is17 (sym c.valid.ensures ∙ c.if-not-valid.true)))

pub returns-then-out-counted : goal.returns-then-out-counted
returns-then-out-counted c =
    let counted = page_counted _ _ c.new-counted.ensures c.put_file.ensures (omega arith) in
    refused_call c.refused-then-out-counted.ensures
    (case_answer _ _ (is24 (sym c.valid.ensures ∙ c.if-not-valid.false)
    (omega arith) (omega (arith, c.if-out-counted.true))))

pub returns : goal.returns
returns c =
    let counted = page_counted _ _ c.new-counted.ensures c.put_file.ensures (omega arith) in
    let passes = sym c.valid.ensures ∙ c.if-not-valid.false in
    rw (case_answer c.args.table c.args.out.now (is_written passes (omega arith)
    (omega (arith, c.if-out-counted.false)))) (grind (arith, whole_page))
