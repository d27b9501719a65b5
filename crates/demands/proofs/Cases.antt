-- The worked cases of the paper, and its whole report. Assumes nothing.
use Prim.Native.Nat.{ℕ, ◌<◌, ◌≤◌}
use mathlib.Core.Bool.{true}
use mathlib.Core.List.{[], ◌∷◌}
use mathlib.Core.Path.{◌≡◌}
use lib.ListN.{length, get_or}
use Rattle.letters.specs.Lists.{every}
use Rattle.table.specs.Valid.{table_valid, rows_of}
use Rattle.table.specs.declared.Table.{Table}
use Rattle.text.specs.Lines.{All, ended}
use Rattle.pass.specs.Watch.{start_watch}
use Rattle.watcher.specs.Inner.Tables.{table_play}
use Rattle.reader.specs.Reading.{empty_table}
use Rattle.verdict.specs.Found.{refused_found, sound_found}
use Rattle.search.specs.Lent.{Lent, room_of, cleared}
use Rattle.search.specs.Inner.Computed.{search_answer}
use Rattle.checker.specs.Inner.Computed.{check_answer, load_answer, writing_answer}
use Rattle.demands.specs.Examples.Cases.{P as row_p, Q as rowQ, S as rowS, report, delayed}
use Rattle.demands.specs.Examples.Cases.{is_right, no_rows}
use Rattle.demands.specs.Examples.Cases.{ListCaseMeans, list_cases, pressed_case}
use Rattle.demands.specs.Examples.Cases.{starred, CaseMeans, EventCaseMeans, event_cases}
use Rattle.demands.specs.Examples.Cases.{played_rows, played_trace, played_counts}
use Rattle.demands.specs.Examples.Loads.{FirstNumbers, LoadCaseMeans, load_cases}
use Rattle.demands.specs.Examples.Loads.{whole_totals, three_totals}
use Rattle.demands.specs.Examples.Texts.{text_p, text_not_c, text_q, text_s, text_delayed}
use Rattle.demands.specs.Examples.Texts.{file_of, ReadAs}
use Rattle.demands.specs.Examples.Texts.{text_nothing, text_late, text_unknown, whole_output}
use Rattle.demands.specs.Examples.Texts.{sound_output, unknown_line, refused_output}
use Rattle.demands.specs.Examples.Written.{TextCaseMeans, text_cases, one_row, row_sent}
use Rattle.demands.specs.Examples.Written.{row_written, whole_written}
use Rattle.demands.specs.Examples.Cases.Case.{after}
use Rattle.demands.specs.Searching.{Entered}
use Rattle.demands.proofs.Starred as Starred
use Rattle.demands.proofs.Instances as Instances
use Rattle.demands.proofs.WholeReport as WholeReport
use Rattle.demands.proofs.LoadCases as LoadCases
use Rattle.demands.proofs.WriteCases as WriteCases

-- "The starred cases, gathered in a table that one proposition covers, over the definitions."
pub starred_right : every is_right starred ≡ true
starred_right = Starred.starred_right

pub starred_means : (i : ℕ) → i < length starred → CaseMeans (get_or starred i (after row_p [] 0))
starred_means = Starred.starred_means

-- The cases of document 02, asks 1 and 4, and tables with their rows that never fire (ask 2).
pub events_worked : All EventCaseMeans event_cases
events_worked = Starred.events_worked

pub lists_worked : All ListCaseMeans list_cases
lists_worked = Starred.lists_worked

-- A trace that is played on a table of two rows: how often each event happened to each.
pub counts_worked : (table : Table) → table_valid table ≡ true → table.signals ≡ 2
    → rows_of table ≡ played_rows → (table_play table start_watch played_trace).counts ≡ played_counts
counts_worked = Starred.counts_worked

-- A table that is trapped since a trigger may begin again as it aborts (ask 4).
pub pressed_means : CaseMeans pressed_case
pressed_means = Starred.pressed_means

-- Their rows are those that the reader makes of the texts; and "A whole report" is, to the byte,
-- what is reported of its input, in all lent memory that holds two states and a letter.
pub boards_read : ReadAs (text_p ∷ []) (row_p ∷ []) × ReadAs (text_q ∷ []) (rowQ ∷ [])
    × ReadAs (text_s ∷ []) (rowS ∷ []) × ReadAs (text_delayed ∷ []) delayed
    × ReadAs (text_p ∷ text_not_c ∷ []) report
boards_read = WholeReport.boards_read

pub whole_report : (lent : Lent) → 2 ≤ room_of lent → 1 ≤ length lent.trace
    → (check_answer (file_of (text_p ∷ text_not_c ∷ [])) lent).report ≡ whole_output
whole_report = WholeReport.whole_report

-- So are the report of a sound table in which two rows never fire, and what the programs print of a
-- file with an unknown name.
pub sound_report : (lent : Lent) → 2 ≤ room_of lent
    → (check_answer (file_of (text_nothing ∷ text_p ∷ text_nothing ∷ [])) lent).report ≡ sound_output
sound_report = WholeReport.sound_report

pub refused_report : (lent : Lent)
    → check_answer (file_of (text_unknown ∷ [])) lent ≡ record { report = refused_output; lent = lent }
refused_report = WholeReport.refused_report

pub refused_texts : (load_answer (file_of (text_unknown ∷ [])) ≡ ended (unknown_line ∷ []))
    × (writing_answer (file_of (text_unknown ∷ [])) ≡ ended (unknown_line ∷ []))
refused_texts = WholeReport.refused_texts

-- The load of document 02, ask 5: its first numbers and letters, what rows did in it, and what is
-- printed of the same input, to the byte, and of a table whose four sums differ.
pub numbers_worked : FirstNumbers
numbers_worked = LoadCases.numbers_worked

pub loads_worked : All LoadCaseMeans load_cases
loads_worked = LoadCases.loads_worked

pub whole_load : load_answer (file_of (text_p ∷ text_not_c ∷ [])) ≡ whole_totals
whole_load = LoadCases.whole_load

pub three_load : load_answer (file_of (text_p ∷ text_not_c ∷ text_late ∷ [])) ≡ three_totals
three_load = LoadCases.three_load

-- The writer of document 02, ask 6: the texts of conditions and of a row, and what is printed of
-- the same input, to the byte.
pub texts_worked : All TextCaseMeans text_cases
texts_worked = WriteCases.texts_worked

pub row_written_lem : writing_answer (one_row row_sent) ≡ one_row row_written
row_written_lem = WriteCases.row_written_lem

pub whole_written_lem : (writing_answer (file_of (text_p ∷ text_not_c ∷ [])) ≡ whole_written)
    × (length whole_written ≡ 169)
whole_written_lem = WriteCases.whole_written_lem

-- No promise is empty: each other answer of the search has an instance too. "P alone: sound, two
-- states; room 1 is refused with 20"; the report's table is 21 with no buffer, and the empty table
-- is 17.
module _ (lent : Lent) where
  pub alone_sound : 2 ≤ room_of lent
      → (held : Lent) × Entered Instances.alone 2 lent held
      × (search_answer Instances.alone lent ≡ record { found = sound_found 2 no_rows; lent = held })
  alone_sound = Instances.alone_sound lent

  pub alone_many : room_of lent ≡ 1
      → search_answer Instances.alone lent ≡ record { found = refused_found 20; lent = cleared lent }
  alone_many = Instances.alone_many lent

  pub both_refused : 2 ≤ room_of lent → length lent.trace ≡ 0
      → (held : Lent) × Entered Instances.both 2 lent held
      × (search_answer Instances.both lent ≡ record { found = refused_found 21; lent = held })
  both_refused = Instances.both_refused lent

  pub empty_refused : search_answer empty_table lent
      ≡ record { found = refused_found 17; lent = lent }
  empty_refused = Instances.empty_refused lent
