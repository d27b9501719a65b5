-- Which number and line each file gets, and which table, computed.
use Rattle.std.specs.Prelude.{ℕ, ◌+◌, ◌-◌, cond, List, [], ◌∷◌, Result, Ok, Err, ltb, eqb, length, get_or, take}
use Rattle.letters.specs.Letter.{width}
use Rattle.table.specs.Limits.{most_bytes, most_rows}
use Rattle.table.specs.Valid.{table_from}
use Rattle.table.specs.declared.Name.{Name}
use Rattle.table.specs.declared.Refusal.{Refusal}
use Rattle.table.specs.declared.Row.{Row}
use Rattle.table.specs.declared.Signals.{Signals}
use Rattle.table.specs.declared.Table.{Table}
use Rattle.text.specs.Lines.{LF, space}
use Rattle.text.specs.declared.Version.{Version}
use Rattle.text.specs.Inner.Cut.{split, lines}
use Rattle.header.specs.Inner.Header.{version_answer, signals_answer}
use Rattle.rows.specs.Inner.Row.{row_from, row_answer}
use Rattle.rows.specs.declared.RowRead.{RowRead}
use Rattle.reader.specs.Reading.{accepted, refused_file}
use Rattle.reader.specs.declared.Reading.{Reading}

-- What is answered, of a table or the refusal of a file.
abbrev pub reading : Result Table Refusal → Reading
reading (Ok table) = accepted table
reading (Err refusal) = refused_file refusal.number refusal.line

-- What a line is read as, its number with the line's.
abbrev pub on_line : {A : Type 0} → ℕ → Result A ℕ → Result A Refusal
on_line line (Ok x) = Ok x
on_line line (Err number) = Err (record { number = number; line = line })

-- The rows from row i on, or the first number among them with its line; any ninth row is 9.
pub data Rows : Type 0 where
  rows_read : List Row → Rows
  fault : ℕ → ℕ → Rows

abbrev pub after_row : Row → Rows → Rows
after_row row (rows_read rows) = rows_read (row ∷ rows)
after_row row (fault number line) = fault number line

abbrev pub row_of : RowRead → Row
row_of read = row_from read.sets read.bounds

abbrev pub after_line : ℕ → Result RowRead ℕ → Rows → Rows
after_line i (Ok read) rest = after_row (row_of read) rest
after_line i (Err number) rest = fault number (i + 3)

module _ (names : List Name) (signals : ℕ) (version : Version) where
  unfoldable pub rows_from : ℕ → List (List ℕ) → Rows
  rows_from i [] = rows_read []
  rows_from i (line ∷ more) =
      let read = row_answer (take signals names) (width signals) version line in
      cond (ltb i most_rows) (after_line i read (rows_from (i + 1) more)) (fault 9 (i + 3))

  abbrev pub rows_reading : Rows → Reading
  rows_reading (rows_read rows) = accepted (table_from signals names rows)
  rows_reading (fault number line) = refused_file number line

  -- 16 where there is no row.
  unfoldable pub rows_answer : List (List ℕ) → Reading
  rows_answer [] = refused_file 16 3
  rows_answer (line ∷ more) = rows_reading (rows_from 0 (line ∷ more))

-- From line 2 on.
module _ (version : Version) where
  abbrev pub after_signals : Result Signals ℕ → List (List ℕ) → Reading
  after_signals (Ok signals) more = rows_answer signals.names signals.count version more
  after_signals (Err number) more = refused_file number 2

  unfoldable pub body_answer : List (List ℕ) → Reading
  body_answer [] = refused_file 6 2
  body_answer (line ∷ more) = after_signals (signals_answer (split space line)) more

-- From line 1 on.
abbrev pub after_version : Result Version ℕ → List (List ℕ) → Reading
after_version (Ok version) more = body_answer version more
after_version (Err number) more = refused_file number 1

unfoldable pub file_answer : List (List ℕ) → Reading
file_answer [] = refused_file 4 1
file_answer (line ∷ more) = after_version (version_answer line) more

-- 1, 2, 3, then the lines from the top.
unfoldable pub read_answer : List ℕ → Reading
read_answer bytes =
    cond (eqb (length bytes) 0) (refused_file 1 0)
    (cond (ltb most_bytes (length bytes)) (refused_file 2 0)
    (cond (eqb (get_or bytes (length bytes - 1) 0) LF) (file_answer (lines bytes)) (refused_file 3 0)))
