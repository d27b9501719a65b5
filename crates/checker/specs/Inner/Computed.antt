-- The report of a file, its totals, and its table written again, computed: `RightReport`,
-- `RightLoad` and `RightWriting` describe them.
use Rattle.std.specs.Prelude.{ℕ, cond, List, ltb, length}
use Rattle.table.specs.Limits.{most_bytes}
use Rattle.table.specs.Refusal.{Outcome}
use Rattle.std.specs.Prelude.{Ok, Err}
use Rattle.table.specs.declared.Table.{Table}
use Rattle.reader.specs.Inner.File.{read_answer}
use Rattle.search.specs.Lent.{Lent}
use Rattle.search.specs.Inner.Computed.{search_answer}
use Rattle.load.specs.Load.{not_run, run_answer}
use Rattle.lines.specs.Line.{refused_text}
use Rattle.report.specs.Report.{report_bytes}
use Rattle.totals.specs.Totals.{run_bytes}
use Rattle.writer.specs.File.{file_text}
use Rattle.checker.specs.FileLoad.{load_start, load_ticks}
use Rattle.checker.specs.FileReport.{FileReport, Call, call_of}

-- A refused file is not searched, and lent memory is unchanged then.
abbrev pub after_reading : Outcome → Table → Lent → FileReport
after_reading (Err refusal) table lent =
    record { report = report_bytes 0 0 lent.trace (Err refusal); lent = lent }
after_reading (Ok _) table lent =
    let searched = search_answer table lent in
    record {
      report =
          report_bytes table.count table.signals searched.lent.trace searched.found;
      lent = searched.lent;
    }

-- "`checktable` reads a table from standard input and prints a report."
unfoldable pub check_answer : List ℕ → Lent → FileReport
check_answer bytes lent =
    let reading = read_answer bytes in after_reading reading.outcome reading.table lent

abbrev pub check_call : List ℕ → Lent → List ℕ → Call
check_call bytes lent out = call_of (check_answer bytes lent) out

-- "`loadtable` reads a table, takes 1,000 ticks from 1 and prints".
abbrev pub after_loading : Outcome → Table → List ℕ
after_loading (Err refusal) table = run_bytes 0 (not_run (Err refusal))
after_loading (Ok _) table = run_bytes table.count (run_answer table load_start load_ticks)

unfoldable pub load_answer : List ℕ → List ℕ
load_answer bytes =
    let reading = read_answer bytes in after_loading reading.outcome reading.table

-- `writetable` "reads a table .. and prints the written file. A refused one prints its refused line
-- alone".
abbrev pub after_writing : Outcome → Table → List ℕ
after_writing (Err refusal) table = refused_text refusal.number refusal.line
after_writing (Ok _) table =
    cond (ltb most_bytes (length (file_text table))) (refused_text 23 0) (file_text table)

unfoldable pub writing_answer : List ℕ → List ℕ
writing_answer bytes =
    let reading = read_answer bytes in after_writing reading.outcome reading.table
