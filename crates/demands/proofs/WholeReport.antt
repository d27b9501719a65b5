-- The texts of document 01, by computation over the definitions: the rows of "First boards" are
-- those that the reader makes of their texts, and "A whole report" is the report of its input.
-- Assumes nothing.
use Prim.Native.Nat.{◌≤◌}
use mathlib.Core.List.{[], ◌∷◌}
use mathlib.Core.Path.{◌≡◌, refl}
use lib.Dec.{lit≤}
use lib.ListN.{length}
use Rattle.letters.specs.Letter.{bit_at, set_of, members}
use Rattle.letters.specs.Lists.{every, some, same_bytes}
use Rattle.table.specs.Name.{name_run, all_distinct}
use Rattle.traces.specs.Inner.Explore.{has, enter, visit, explore}
use Rattle.traces.specs.Inner.Passing.{some_below, some_passes}
use Rattle.traces.specs.Inner.Least.{pass_below, breaks_in, lost_within}
use Rattle.traces.specs.Inner.Judgement.{verdict_from, judge as judged}
use Rattle.traces.specs.Inner.Judgement.Judgement.{sound}
use Rattle.step.specs.Phase.{is_broken}
use Rattle.step.specs.Step.{action_check, delay_check, trigger_check, start_check, step_row}
use Rattle.step.specs.Tick.{tick, table_system}
use Rattle.step.specs.Events.{action_events, delay_events, trigger_events, start_events, row_events}
use Rattle.step.specs.Events.{tick_events}
use Rattle.step.specs.Inner.Firing.{fires_at}
use Rattle.search.specs.Inner.Same.{kind_of, elapsed, same_phase, same_phases}
use Rattle.search.specs.Inner.Computed.{never_within}
use Rattle.text.specs.Bounds.{digits, decimal}
use Rattle.text.specs.Inner.Bounds.{bound_of}
use Rattle.text.specs.Inner.Cut.{lines, split}
use Rattle.text.specs.Lines.{ended, count}
use Rattle.conditions.specs.Condition.{name_of, place}
use Rattle.conditions.specs.Inner.Judge.{deep, judge}
use Rattle.conditions.specs.Inner.Reading.{is_at, name_at, digit_at, reads, condition_of}
use Rattle.header.specs.Inner.Header.{version_answer, name_shaped, names_read, signals_answer}
use Rattle.rows.specs.Inner.Row.{field_of, fields_of, all_values, row_fields, row_answer}
use Rattle.reader.specs.Reading.{refused_file}
use Rattle.reader.specs.Inner.File.{rows_from, rows_answer, body_answer, file_answer, read_answer}
use Rattle.reader.proofs.Accepted.{accepted_file}
use Rattle.reader.proofs.Valid.{file_valid}
use Rattle.verdict.proofs.Buffer.{written_front}
use Rattle.search.specs.Lent.{Lent, room_of}
use Rattle.lines.specs.Line.{signal_values, tick_lines, spaced, spaced_or_dash}
use Rattle.report.specs.Report.{report_lines}
use Rattle.totals.specs.Totals.{run_lines}
use Rattle.checker.specs.Inner.Computed.{check_answer, load_answer, writing_answer}
use Rattle.demands.specs.Searching.{RightLists}
use Rattle.demands.specs.Examples.Cases.{P, Q, S, report, delayed, around, three}
use Rattle.demands.specs.Examples.Texts.{text_p, text_not_c, text_q, text_s, text_delayed, file_of}
use Rattle.demands.specs.Examples.Texts.{text_nothing, text_late, text_unknown}
use Rattle.demands.specs.Examples.Texts.{table_of, ReadAs}
use Rattle.demands.specs.Examples.Texts.{whole_output, sound_output, unknown_line, refused_output}
use Rattle.demands.proofs.ReportLaws as Laws
use Rattle.demands.proofs.Starred.{computed_right, report_trapped, sound_is}

pub boards_read : ReadAs (text_p ∷ []) (P ∷ []) × ReadAs (text_q ∷ []) (Q ∷ [])
    × ReadAs (text_s ∷ []) (S ∷ []) × ReadAs (text_delayed ∷ []) delayed
    × ReadAs (text_p ∷ text_not_c ∷ []) report
unfolding read_answer ended lines file_answer version_answer body_answer split signals_answer
    names_read name_shaped name_of all_distinct rows_answer rows_from row_answer count fields_of field_of
    all_values row_fields bound_of judge deep condition_of reads digit_at name_at is_at name_run place
    same_bytes bit_at set_of every some
boards_read = (
  record { accepted_is = refl; signals = refl; count = refl; rows_are = refl },
  record { accepted_is = refl; signals = refl; count = refl; rows_are = refl },
  record { accepted_is = refl; signals = refl; count = refl; rows_are = refl },
  record { accepted_is = refl; signals = refl; count = refl; rows_are = refl },
  record { accepted_is = refl; signals = refl; count = refl; rows_are = refl },
)

-- Three files more: a sound table in which two rows never fire, a table whose sums differ, and an
-- unknown name.
pub more_read : ReadAs (text_nothing ∷ text_p ∷ text_nothing ∷ []) around
    × ReadAs (text_p ∷ text_not_c ∷ text_late ∷ []) three
    × (read_answer (file_of (text_unknown ∷ [])) ≡ refused_file 13 3)
unfolding read_answer ended lines file_answer version_answer body_answer split signals_answer
    names_read name_shaped name_of all_distinct rows_answer rows_from row_answer count fields_of field_of
    all_values row_fields bound_of judge deep condition_of reads digit_at name_at is_at name_run place
    same_bytes bit_at set_of every some
more_read = (
  record { accepted_is = refl; signals = refl; count = refl; rows_are = refl },
  record { accepted_is = refl; signals = refl; count = refl; rows_are = refl },
  refl,
)

pub whole_report : (lent : Lent) → 2 ≤ room_of lent → 1 ≤ length lent.trace
    → (check_answer (file_of (text_p ∷ text_not_c ∷ [])) lent).report ≡ whole_output
unfolding check_answer report_lines tick_lines signal_values decimal digits bit_at members
    spaced_or_dash
whole_report lent room short =
    let file = boards_read.4 in
    let table = table_of (text_p ∷ text_not_c ∷ []) in
    let fits = file_valid _ table (accepted_file _ table file.accepted_is) in
    let searched = report_trapped table lent fits file.signals short file.rows_are room in
    rw (
      file.accepted_is,
      searched,
      written_front (1 ∷ []) lent.trace short,
      file.signals,
      file.count,
    )

around_answers : judged (table_system 2 around) same_phases 8 ≡ sound 2
unfolding judged verdict_from lost_within breaks_in pass_below explore visit enter has same_phases
    same_phase kind_of elapsed tick step_row start_check trigger_check delay_check action_check bit_at set_of
    some is_broken
around_answers = refl

around_right : RightLists 2 around (record { never = 5 })
unfolding explore visit enter has same_phases same_phase kind_of elapsed tick step_row start_check
    trigger_check delay_check action_check bit_at set_of some is_broken never_within some_passes some_below
    fires_at tick_events row_events start_events trigger_events delay_events action_events
around_right = computed_right around 8 5 (lit≤ tt) refl

pub sound_report : (lent : Lent) → 2 ≤ room_of lent
    → (check_answer (file_of (text_nothing ∷ text_p ∷ text_nothing ∷ [])) lent).report ≡ sound_output
unfolding check_answer report_lines decimal digits bit_at members spaced spaced_or_dash
sound_report lent room =
    let file = more_read.0 in
    let table = table_of (text_nothing ∷ text_p ∷ text_nothing ∷ []) in
    let fits = file_valid _ table (accepted_file _ table file.accepted_is) in
    rw (
      file.accepted_is,
      sound_is around 2 5 around_answers around_right table lent fits file.signals
          file.rows_are room,
      file.count,
    )

-- A file with an unknown name.
pub refused_report : (lent : Lent)
    → check_answer (file_of (text_unknown ∷ [])) lent ≡ record { report = refused_output; lent = lent }
unfolding decimal digits
refused_report lent = Laws.refused_report (file_of (text_unknown ∷ [])) lent 13 3 more_read.2

pub refused_texts : (load_answer (file_of (text_unknown ∷ [])) ≡ ended (unknown_line ∷ []))
    × (writing_answer (file_of (text_unknown ∷ [])) ≡ ended (unknown_line ∷ []))
unfolding load_answer writing_answer run_lines decimal digits
refused_texts = (rw more_read.2, rw more_read.2)
