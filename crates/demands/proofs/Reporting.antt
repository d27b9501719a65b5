-- What is promised of the report and the program, each with its proof. Assumes nothing.
use Prim.Native.Nat.{ℕ, suc, ◌≤◌}
use mathlib.Core.List.{List, [], ◌∷◌, ◌++◌}
use mathlib.Core.Path.{◌≡◌}
use lib.ListN.{length, take, length-replicate}
use Rattle.lists.specs.Room.{most_room}
use Rattle.table.specs.Valid.{rows_of}
use Rattle.table.specs.declared.Table.{Table}
use Rattle.traces.specs.Count.{ReachedMany}
use Rattle.traces.specs.Inner.Verdicts.{Trapped}
use Rattle.text.specs.Lines.{ended}
use Rattle.reader.specs.Reading.{refused_file}
use Rattle.reader.specs.Inner.File.{read_answer}
use Rattle.reader.specs.Grammar.{IsFile}
use Rattle.verdict.specs.Found.{Found}
use Rattle.verdict.specs.declared.RowLists.{RowLists}
use Rattle.verdict.specs.Found.{Verdict, values_of}
use Rattle.search.specs.Lent.{Lent, room_of, system_of}
use Rattle.search.specs.Inner.Computed.{search_answer}
use Rattle.lines.specs.Line.{refused_line, tick_lines}
use Rattle.report.specs.Report.{heading, size_lines, sound_line, trapped_line}
use Rattle.report.specs.Report.{lost_line, list_lines, report_bytes}
use Rattle.report.specs.Further.Trace.{TraceInBuffer}
use Rattle.report.specs.Further.Lists.{ListedRows}
use Rattle.report.proofs.Injective.{SameReported, bytes_injective}
use Rattle.checker.specs.FileReport.{program_lent, most_report}
use Rattle.checker.specs.Inner.Computed.{check_answer}
use Rattle.checker.proofs.ReportLength as ReportLength
use Rattle.demands.specs.Searching.{EarliestDead, CanGoOn, Fit, RightLists}
use Rattle.demands.specs.Further.Program.{ProgramPrints}
use Rattle.demands.proofs.ReportLaws as Laws
use Rattle.demands.proofs.Reported as Reported
use Rattle.demands.proofs.Searching.{trapped_means, sound_means}

-- The report. Different findings give different reports: where the bytes are the same, so are what
-- is found, its trace and, under a verdict, the number of rows, for one number of signals. What the
-- search finds has its trace in the buffer, and lists rows of the table alone.
pub searched_in_buffer : (table : Table) (lent : Lent)
    → TraceInBuffer table.signals (search_answer table lent).lent.trace
    (search_answer table lent).found
searched_in_buffer = Laws.searched_in_buffer

pub searched_listed : (table : Table) (lent : Lent)
    → ListedRows table.count (search_answer table lent).found
searched_listed = Laws.searched_listed

module _ (signals rows rows' : ℕ) (one other : Found) (b c : List ℕ)
    (in_one : TraceInBuffer signals b one) (in-other : TraceInBuffer signals c other)
    (listed-one : ListedRows rows one) (listed-other : ListedRows rows' other)
    (same : report_bytes rows signals b one ≡ report_bytes rows' signals c other) where
  reported : SameReported rows rows' one other b c
  reported =
      bytes_injective signals rows rows' one other b c in_one in-other listed-one listed-other same

  pub same_finding : one ≡ other
  same_finding = reported.found

  pub same_trace : take (values_of one).length b ≡ take (values_of other).length c
  same_trace = reported.trace

  pub same_rows : ((values_of one).verdict ≡ Verdict.no_verdict → ⊥) → rows ≡ rows'
  same_rows = reported.size

-- From the bytes of any file to the bytes of its report, in any lent memory. "A refused one prints
-- the first line and `refused 13 line 3`, with its own number and line"; lent memory is unchanged.
module _ (bytes : List ℕ) (lent : Lent) where
  pub refused_report : (number line : ℕ) → read_answer bytes ≡ refused_file number line
      → check_answer bytes lent
      ≡ record { report = ended (heading ∷ refused_line number line ∷ []); lent = lent }
  refused_report = Laws.refused_report bytes lent

  -- An accepted file's table is searched: there are more reached states than room, or the table is
  -- sound, or it is trapped.
  module _ (table : Table) (file : IsFile bytes table) where
    pub searched_lent : (check_answer bytes lent).lent ≡ (search_answer table lent).lent
    searched_lent = Laws.searched_lent bytes lent table file

    pub many_report : ReachedMany (system_of table) (suc (room_of lent))
        → (check_answer bytes lent).report ≡ ended (heading ∷ refused_line 20 0 ∷ [])
    many_report = Laws.many_report bytes lent table file

    -- "The report of a sound or trapped table gets a last line `never`": of a sound one it stands
    -- after `verdict sound`.
    module _ (n : ℕ) (fit : Fit table lent n) (lists : RowLists)
        (right : RightLists table.signals (rows_of table) lists) where
      pub sound_report : CanGoOn (system_of table)
          → (check_answer bytes lent).report
          ≡ ended (heading ∷ size_lines table.count n
          ++ sound_line ∷ list_lines table.count lists)
      sound_report on = Laws.sound_report bytes lent table file n fit lists right
          ((sound_means (system_of table)).1 on)

      -- A trapped one has its trace and its lost number before it.
      pub trapped_report : (w : List ℕ) (k : ℕ) → EarliestDead (system_of table) w k
          → length w ≤ length lent.trace
          → (check_answer bytes lent).report
          ≡ ended (heading ∷ size_lines table.count n ++ trapped_line
          ∷ tick_lines table.signals 1 w ++ lost_line k ∷ list_lines table.count lists)
      trapped_report w k shown = Laws.trapped_report bytes lent table file n fit lists right w k
          ((trapped_means (system_of table) w k).1 shown)

-- "The program lends room 4,096 and a trace buffer of as many bytes": it always shows the trace,
-- never refused with 21, and its own buffer holds every report.
pub program_room : room_of program_lent ≡ most_room
program_room = Laws.program_room

pub program_trace : length program_lent.trace ≡ 4096
program_trace = length-replicate {A = ℕ} 4096 0

pub program_shows : (table : Table) (n : ℕ) → Fit table program_lent n → (w : List ℕ) (k : ℕ)
    → Trapped (system_of table) w k → length w ≤ length program_lent.trace
program_shows = Laws.program_shows

-- It prints one of 1 to 16 with its line, 20, or a verdict: never 17, 18, 19 or 21, nor an answer
-- that is none.
pub program_prints : (bytes : List ℕ) → ProgramPrints (check_answer bytes program_lent).report
program_prints = Reported.program_prints

pub program_short : (bytes : List ℕ)
    → length (check_answer bytes program_lent).report ≤ most_report
program_short = ReportLength.program_short
