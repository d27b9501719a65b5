-- Texts of document 01: the rows of "First boards", and "A whole report", its input and its output.
use Rattle.std.specs.Prelude.{ℕ, List, [], ◌∷◌, ◌≡◌, length}
use Rattle.table.specs.Valid.{rows_of}
use Rattle.table.specs.declared.Row.{Row}
use Rattle.table.specs.declared.Table.{Table}
use Rattle.text.specs.Bytes.{bytes}
use Rattle.text.specs.Lines.{ended}
use Rattle.reader.specs.Inner.File.{read_answer}
use Rattle.reader.specs.Reading.{accepted}

-- "Row P is the first rule above. Q is `a,a,c,2,3,0,0,0,0,0,0,0`. S is
-- `a,a,a,0,0,0,0,1,c,a,1,2`."
abbrev pub text_p : List ℕ
text_p = bytes "rule a,a,a,0,0,1,1,c,c,c,0,0"

abbrev pub text_q : List ℕ
text_q = bytes "rule a,a,c,2,3,0,0,0,0,0,0,0"

abbrev pub text_s : List ℕ
text_s = bytes "rule a,a,a,0,0,0,0,1,c,a,1,2"

-- "The report's table" has P and a second rule; "One row `a,a,a,0,0,0,3,0,0,0,0,0`."
abbrev pub text_not_c : List ℕ
text_not_c = bytes "rule a,a,a,0,0,1,1,!c,!c,!c,0,0"

abbrev pub text_delayed : List ℕ
text_delayed = bytes "rule a,a,a,0,0,0,3,0,0,0,0,0"

-- A row that never fires, one that is never broken, and one with an unknown name.
abbrev pub text_nothing : List ℕ
text_nothing = bytes "rule 0,0,0,0,0,0,0,0,0,0,0,0"

abbrev pub text_late : List ℕ
text_late = bytes "rule a,a,a,0,0,1,1,1,1,1,0,0"

abbrev pub text_unknown : List ℕ
text_unknown = bytes "rule b,a,a,0,0,1,1,c,c,c,0,0"

-- The file of some rows, with the signals `a c`.
abbrev pub file_of : List (List ℕ) → List ℕ
file_of rules = ended (bytes "PNP 0001" ∷ bytes "signals a c" ∷ rules)

-- The reader accepts the file, and these are its rows.
abbrev pub table_of : List (List ℕ) → Table
table_of rules = (read_answer (file_of rules)).table

pub record ReadAs (rules : List (List ℕ)) (rows : List Row) : Type 0 where
  pub accepted_is : read_answer (file_of rules) ≡ accepted (table_of rules)
  pub signals : (table_of rules).signals ≡ 2
  pub count : (table_of rules).count ≡ length rows
  pub rows_are : rows_of (table_of rules) ≡ rows

-- "Output": what `checktable` prints of the file of `text_p` and `text_not_c`. The last line is that
-- of document 02, ask 2.
abbrev pub whole_output : List ℕ
whole_output = ended (
    bytes "PNP report"
    ∷ bytes "rules 2"
    ∷ bytes "configurations 2"
    ∷ bytes "verdict trapped"
    ∷ bytes "tick 1 10"
    ∷ bytes "lost 1"
    ∷ bytes "never -"
    ∷ [])

-- The report of a sound table in which two rows never fire, that of `text_nothing`, `text_p` and
-- `text_nothing`: "A sound table ends after `verdict sound`", and with the line of ask 2.
abbrev pub sound_output : List ℕ
sound_output = ended (
    bytes "PNP report"
    ∷ bytes "rules 3"
    ∷ bytes "configurations 2"
    ∷ bytes "verdict sound"
    ∷ bytes "never 1 3"
    ∷ [])

-- "A refused one prints the first line and `refused 13 line 3`": that of `text_unknown`. The other
-- programs print its second line alone.
abbrev pub unknown_line : List ℕ
unknown_line = bytes "refused 13 line 3"

abbrev pub refused_output : List ℕ
refused_output = ended (bytes "PNP report" ∷ unknown_line ∷ [])
