-- What the promises about the report speak of: from the bytes of a file to its report.
use Rattle.std.specs.Prelude.{ℕ, List, [], ◌∷◌}
use Rattle.table.specs.declared.Table.{Table}
use Rattle.text.specs.Lines.{ended}
use Rattle.reader.specs.Grammar.{IsFile}
use Rattle.reader.specs.Reading.{refused_file}
use Rattle.reader.specs.Right.{RightReading}
use Rattle.search.specs.Lent.{Lent, Searched}
use Rattle.lines.specs.Line.{refused_line}
use Rattle.report.specs.Report.{heading, report_bytes}
use Rattle.checker.specs.FileReport.{FileReport}
use Rattle.demands.specs.Searching.{RightAnswer}

-- "`checktable` reads a table .. and prints a report": of a file that the reader refuses, or of
-- what the search says of its table. What is left in lent memory goes with it.
pub data RightReport (bytes : List ℕ) (lent : Lent) : FileReport → Type 0 where
  refused : {number line : ℕ} → RightReading bytes (refused_file number line)
      → RightReport bytes lent
      (record { report = ended (heading ∷ refused_line number line ∷ []); lent = lent })
  searched : {table : Table} {a : Searched} → IsFile bytes table → RightAnswer table lent a
      → RightReport bytes lent (record {
        report = report_bytes table.count table.signals a.lent.trace a.found;
        lent = a.lent;
      })
