-- The report of a file, described without computing, both ways; what the program can print; and
-- that it reads no more of a file than its first bytes. Assumes nothing.
use Prim.Native.Nat.{ℕ, suc}
use native.Mathlib.Nat.{lt_irrefl, lt_of_lt_of_le}
use mathlib.Core.Bool.{true≢false}
use mathlib.Core.List.{List, [], ◌∷◌, append_assoc}
use mathlib.Core.Path.{◌≡◌, sym, subst, ◌∙◌}
use lib.ListN.{take}
use Rattle.table.specs.Limits.{most_bytes}
use Rattle.table.specs.declared.Table.{Table}
use Rattle.reader.specs.Grammar.{IsFile}
use Rattle.reader.specs.Right.{RightReading}
use Rattle.reader.specs.Inner.File.{read_answer}
use Rattle.reader.proofs.Accepted.{Decided, taken, turned, read_decided, file_accepted}
use Rattle.reader.proofs.Valid.{file_valid}
use Rattle.reader.proofs.Found.{read_answered}
use Rattle.reader.proofs.Only.{read_only, read_first_bytes}
use Rattle.verdict.proofs.Buffer.{written_front}
use Rattle.search.specs.Lent.{Lent, Searched}
use Rattle.lines.specs.Line.{tick_lines}
use Rattle.report.specs.Report.{lost_line, list_lines, report_lines, report_bytes}
use Rattle.checker.specs.FileReport.{FileReport, program_lent}
use Rattle.checker.specs.Inner.Computed.{check_answer}
use Rattle.demands.specs.Reporting.{RightReport}
use Rattle.demands.specs.Further.Program.{ProgramPrints}
use Rattle.demands.specs.Reporting.RightReport.{refused, searched}
use Rattle.demands.specs.Further.Program.ProgramPrints.{refused as refusal, many, sound}
use Rattle.demands.specs.Further.Program.ProgramPrints.{trapped}
use Rattle.demands.specs.Inner.Answers.{lists_in, ComputedAnswer}
use Rattle.demands.specs.Inner.Answers.ComputedAnswer.{is17, is20, is21, is_sound, is_trapped}
use Rattle.demands.proofs.Answers.{one_of_five, answer_is}
use Rattle.demands.proofs.Described.{described, computed}
use Rattle.demands.proofs.ReportLaws.{program_shows}

module _ (bytes : List ℕ) (lent : Lent) where
  by_reading : Decided bytes (read_answer bytes) → RightReport bytes lent (check_answer bytes lent)
  unfolding check_answer report_lines
  by_reading (taken table file e) =
      rw e (searched file (described table lent (one_of_five table lent)))
  by_reading (turned number line one small low e) =
      rw e (refused (subst (RightReading bytes) e (read_answered bytes)))

  pub report_answered : RightReport bytes lent (check_answer bytes lent)
  report_answered = by_reading (read_decided bytes)

  pub report_only : (f : FileReport) → RightReport bytes lent f → check_answer bytes lent ≡ f
  unfolding check_answer report_lines
  report_only f (refused right) = rw (read_only bytes _ right)
  report_only f (searched {table = table} file right) =
      rw (file_accepted bytes table file, answer_is table lent (computed table lent right))

-- What the program can print: never 17, 18, 19 or 21, nor an answer that is none.
module _ (bytes : List ℕ) where
  by_answer : (table : Table) → IsFile bytes table → {a : Searched}
      → ComputedAnswer table program_lent a
      → ProgramPrints (report_bytes table.count table.signals a.lent.trace a.found)
  unfolding report_lines
  by_answer table file (is17 p) = absurd (true≢false (sym (file_valid bytes table file) ∙ p))
  by_answer table file (is20 p m) = many
  by_answer table file (is21 {k = k} {w = w} f t l) =
      absurd (lt_irrefl _ (lt_of_lt_of_le l (program_shows table _ f w k t)))
  by_answer table file (is_sound f s) = sound _ _ _
  by_answer table file (is_trapped {k = k} {w = w} f t l) =
      rw (
        written_front w program_lent.trace l,
        append_assoc (tick_lines table.signals 1 w) (lost_line k ∷ [])
            (list_lines table.count (lists_in table program_lent)),
      ) (trapped _ _ _ w _ _)

  by_file : Decided bytes (read_answer bytes)
      → ProgramPrints (check_answer bytes program_lent).report
  unfolding check_answer report_lines
  by_file (taken table file e) = rw e (by_answer table file (one_of_five table program_lent))
  by_file (turned number line one small low e) = rw e (refusal number line one small)

  pub program_prints : ProgramPrints (check_answer bytes program_lent).report
  program_prints = by_file (read_decided bytes)

-- No more of a file is read than its first 4,097 bytes.
pub first_bytes : (bytes : List ℕ) (lent : Lent)
    → check_answer (take (suc most_bytes) bytes) lent ≡ check_answer bytes lent
unfolding check_answer
first_bytes bytes lent = rw (read_first_bytes bytes)
