-- What is reported of each file, by what is so of its table. Assumes nothing.
use Prim.Native.Nat.{ℕ, suc, ◌<◌, ◌≤◌, ◌^◌}
use native.Mathlib.Nat.{lt_of_lt_of_le}
use native.Mathlib.Omega.{arith}
use mathlib.Core.List.{List, [], ◌∷◌, ◌++◌, append_assoc}
use mathlib.Core.Path.{◌≡◌, refl}
use lib.ListN.{length, length-replicate, length-take}
use lib.Pow.{pow_pos, pow_mono}
use Rattle.letters.specs.Lists.{every}
use Rattle.table.specs.Valid.{rows_of}
use Rattle.table.specs.declared.Table.{Table}
use Rattle.traces.specs.Count.{ReachedMany}
use Rattle.traces.specs.Inner.Verdicts.{Trapped, Sound}
use Rattle.text.specs.Lines.{ended}
use Rattle.reader.specs.Inner.File.{read_answer}
use Rattle.reader.specs.Reading.{refused_file}
use Rattle.reader.specs.Grammar.{IsFile}
use Rattle.reader.proofs.Accepted.{file_accepted}
use Rattle.reader.proofs.Valid.{file_valid}
use Rattle.lists.specs.Room.{most_room}
use Rattle.verdict.specs.Found.{Found}
use Rattle.verdict.specs.declared.RowLists.{RowLists}
use Rattle.verdict.specs.Found.{values_of, refused_found}
use Rattle.verdict.proofs.Buffer.{written_front, written_length}
use Rattle.search.specs.Lent.{Lent, Searched, room_of, system_of}
use Rattle.search.specs.Inner.Computed.{search_answer}
use Rattle.lines.specs.Line.{refused_line, tick_lines}
use Rattle.report.specs.Report.{heading, size_lines, sound_line, trapped_line}
use Rattle.report.specs.Report.{lost_line, list_lines, report_lines}
use Rattle.report.specs.Further.Trace.{TraceInBuffer}
use Rattle.report.specs.Further.Lists.{ListedRows}
use Rattle.checker.specs.FileReport.{program_lent}
use Rattle.checker.specs.Inner.Computed.{check_answer}
use Rattle.demands.specs.Searching.{Fit, RightLists}
use Rattle.demands.specs.Inner.Answers.{lists_in, ComputedAnswer}
use Rattle.demands.specs.Inner.Answers.ComputedAnswer.{is17, is20, is21, is_sound, is_trapped}
use Rattle.demands.proofs.Answers.{one_of_five, answer_is}
use Rattle.demands.proofs.Described.{lists_right, lists_are}
use Rattle.demands.proofs.NeverFires.{lists_low}
use Rattle.demands.proofs.Searching.{trace_low}
use Rattle.demands.proofs.WatchCalls.{letters_valid}

module _ (bytes : List ℕ) (lent : Lent) where
  pub refused_report : (number line : ℕ) → read_answer bytes ≡ refused_file number line
      → check_answer bytes lent
      ≡ record { report = ended (heading ∷ refused_line number line ∷ []); lent = lent }
  unfolding check_answer report_lines
  refused_report number line e = rw e

  module _ (table : Table) (file : IsFile bytes table) where
    pub searched_lent : (check_answer bytes lent).lent ≡ (search_answer table lent).lent
    unfolding check_answer
    searched_lent = rw (file_accepted bytes table file)

    pub many_report : ReachedMany (system_of table) (suc (room_of lent))
        → (check_answer bytes lent).report ≡ ended (heading ∷ refused_line 20 0 ∷ [])
    unfolding check_answer report_lines
    many_report many =
        let answer = answer_is table lent (is20 (file_valid bytes table file) many) in
        rw (file_accepted bytes table file, answer)

    module _ (n : ℕ) (fit : Fit table lent n) (lists : RowLists)
        (right : RightLists table.signals (rows_of table) lists) where
      pub sound_report : Sound (system_of table)
          → (check_answer bytes lent).report
          ≡ ended (heading ∷ size_lines table.count n
          ++ sound_line ∷ list_lines table.count lists)
      unfolding check_answer report_lines
      sound_report sound =
          rw (
            file_accepted bytes table file,
            answer_is table lent (is_sound fit sound),
            lists_are table lent n lists fit right,
          )

      pub trapped_report : (w : List ℕ) (k : ℕ) → Trapped (system_of table) w k
          → length w ≤ length lent.trace
          → (check_answer bytes lent).report
          ≡ ended (heading ∷ size_lines table.count n ++ trapped_line
          ∷ tick_lines table.signals 1 w ++ lost_line k ∷ list_lines table.count lists)
      unfolding check_answer report_lines
      trapped_report w k trapped short =
          rw (
            file_accepted bytes table file,
            answer_is table lent (is_trapped fit trapped short),
            written_front w lent.trace short,
            lists_are table lent n lists fit right,
            append_assoc (tick_lines table.signals 1 w) (lost_line k ∷ [])
                (list_lines table.count (lists_in table lent)),
          )

-- What is found without a trace is in every buffer.
no_trace : (s : ℕ) (buffer : List ℕ) (found : Found) → (values_of found).length ≡ 0
    → TraceInBuffer s buffer found
unfolding every
no_trace s buffer found e = record { whole = rw e (omega arith); letters = rw e }

pub searched_in_buffer : (table : Table) (lent : Lent)
    → TraceInBuffer table.signals (search_answer table lent).lent.trace
    (search_answer table lent).found
searched_in_buffer table lent = go (one_of_five table lent)
  where
    go : {a : Searched} → ComputedAnswer table lent a
        → TraceInBuffer table.signals a.lent.trace a.found
    go (is17 p) = no_trace _ _ _ refl
    go (is20 p m) = no_trace _ _ _ refl
    go (is21 f t long) = no_trace _ _ _ refl
    go (is_sound f s) = no_trace _ _ _ refl
    go (is_trapped {w = w} f t short) = record {
      whole = rw (written_length w lent.trace short) short;
      letters = rw (written_front w lent.trace short) (letters_valid _ w t.fine.letters);
    }

-- What the search lists are rows of the table.
pub searched_listed : (table : Table) (lent : Lent)
    → ListedRows table.count (search_answer table lent).found
searched_listed table lent = go (one_of_five table lent)
  where
    none : (number : ℕ) → ListedRows table.count (refused_found number)
    none number = record { never = pow_pos table.count }

    some : (n : ℕ) → Fit table lent n → (lists_in table lent).never < 2 ^ table.count
    some n fit =
        let few : length (rows_of table) ≤ table.count = rw length-take (omega arith) in
        lt_of_lt_of_le (lists_low table.signals (rows_of table) (lists_in table lent)
        (lists_right table lent n fit)) (pow_mono few)

    go : {a : Searched} → ComputedAnswer table lent a → ListedRows table.count a.found
    go (is17 p) = none 17
    go (is20 p m) = none 20
    go (is21 f t long) = none 21
    go (is_sound {n = n} f s) = record { never = some n f }
    go (is_trapped {n = n} f t short) = record { never = some n f }

-- What the program lends.
pub program_room : room_of program_lent ≡ most_room
unfolding room_of
program_room = let long = length-replicate {A = ℕ} most_room 0 in omega arith

program_long : {m : ℕ} → m < room_of program_lent → m ≤ length program_lent.trace
program_long low = rw length-replicate (omega (arith, rw program_room at low))

pub program_shows : (table : Table) (n : ℕ) → Fit table program_lent n → (w : List ℕ) (k : ℕ)
    → Trapped (system_of table) w k → length w ≤ length program_lent.trace
program_shows table n fit w k trapped =
    program_long (lt_of_lt_of_le (trace_low table program_lent n fit w k trapped) fit.room)
