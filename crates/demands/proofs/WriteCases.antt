-- The worked cases of the writer, by computing over the definitions. Assumes nothing.
use mathlib.Core.List.{[], ◌∷◌}
use mathlib.Core.Path.{◌≡◌, refl}
use lib.ListN.{length}
use Rattle.letters.specs.Letter.{bit_at, set_of, members}
use Rattle.letters.specs.Lists.{every, some, same_bytes}
use Rattle.table.specs.Name.{name_run, all_distinct}
use Rattle.text.specs.Bounds.{digits, decimal}
use Rattle.text.specs.Inner.Bounds.{bound_of}
use Rattle.text.specs.Inner.Cut.{lines, split}
use Rattle.text.specs.Lines.{All, ended, joined, count}
use Rattle.text.specs.Lines.All.{none, and}
use Rattle.conditions.specs.Condition.{name_of, place}
use Rattle.conditions.specs.Inner.Judge.{deep, judge}
use Rattle.conditions.specs.Inner.Reading.{is_at, name_at, digit_at, reads, condition_of}
use Rattle.header.specs.Inner.Header.{version_answer, name_shaped, names_read, signals_answer}
use Rattle.rows.specs.Inner.Row.{field_of, fields_of, all_values, row_fields, row_answer}
use Rattle.reader.specs.Inner.File.{rows_from, rows_answer, body_answer, file_answer, read_answer}
use Rattle.writer.specs.File.{literals, condition_text, file_text}
use Rattle.checker.specs.Inner.Computed.{writing_answer}
use Rattle.demands.specs.Examples.Texts.{text_p, text_not_c, file_of}
use Rattle.demands.specs.Examples.Written.{TextCaseMeans, text_cases, one_row, row_sent}
use Rattle.demands.specs.Examples.Written.{row_written, whole_written}

pub texts_worked : All TextCaseMeans text_cases
unfolding text_cases judge deep condition_of reads digit_at name_at is_at name_run name_of place same_bytes
    bit_at set_of every some members condition_text literals joined
texts_worked =
    and (record { set = 10; reads = refl; writes = refl })
    (and (record { set = 12; reads = refl; writes = refl })
    (and (record { set = 6; reads = refl; writes = refl })
    (and (record { set = 1; reads = refl; writes = refl })
    (and (record { set = 10; reads = refl; writes = refl })
    (and (record { set = 10; reads = refl; writes = refl }) none)))))

-- What `writetable` prints, to the byte.
pub row_written_lem : writing_answer (one_row row_sent) ≡ one_row row_written
unfolding writing_answer read_answer ended lines file_answer version_answer body_answer split
    signals_answer names_read name_shaped name_of all_distinct rows_answer rows_from row_answer count
    fields_of field_of all_values row_fields bound_of judge deep condition_of reads digit_at name_at is_at
    name_run place same_bytes bit_at set_of every some file_text condition_text members literals joined
    decimal digits
row_written_lem = refl

pub whole_written_lem : (writing_answer (file_of (text_p ∷ text_not_c ∷ [])) ≡ whole_written)
    × (length whole_written ≡ 169)
unfolding writing_answer read_answer ended lines file_answer version_answer body_answer split
    signals_answer names_read name_shaped name_of all_distinct rows_answer rows_from row_answer count
    fields_of field_of all_values row_fields bound_of judge deep condition_of reads digit_at name_at is_at
    name_run place same_bytes bit_at set_of every some file_text condition_text members literals joined
    decimal digits
whole_written_lem = (refl, refl)
