-- An answer that is right is the computed one; and the first bytes of a file that is too long are
-- enough. Assumes nothing.
use Prim.Native.Nat.{ℕ, suc, ◌+◌, ◌-◌, ◌<◌, ◌≤◌}
use borrow.Author.Tests.{lt-ltb}
use native.Mathlib.Decide.{dec_le}
use native.Mathlib.Omega.{arith}
use mathlib.Core.List.{List, [], ◌∷◌, ◌++◌, map, append-nil}
use mathlib.Core.Path.{◌≡◌, refl, sym, ap, ◌∙◌}
use lib.ListN.{length, get_or, take, length-append, length-map}
use lib.Seq.{length-take-le, take_all, take_at, get_or-append_seam}
use Rattle.letters.specs.Letter.{width}
use Rattle.table.specs.Limits.{most_bytes, most_rows}
use Rattle.table.specs.Valid.{table_from}
use Rattle.table.specs.declared.Row.{Row}
use Rattle.table.specs.declared.Table.{Table}
use Rattle.text.specs.Lines.{LF, space, ended}
use Rattle.text.specs.Words.{version_digits}
use Rattle.text.specs.declared.Version.{Version}
use Rattle.text.specs.Inner.Cut.{split, lines}
use Rattle.text.proofs.Joins.{lines_ended, ended_last}
use Rattle.conditions.specs.Condition.{name_of}
use Rattle.header.specs.Header.{version_line, names_from}
use Rattle.header.specs.Inner.Header.{signals_answer}
use Rattle.std.specs.Prelude.{Result, Ok}
use Rattle.table.specs.declared.Signals.{Signals}
use Rattle.header.proofs.Shapes.{header_known, header_other, header_none, header_right}
use Rattle.header.proofs.Shapes.{signals_many, signals_twice, signals_read_lem, signals_none}
use Rattle.rows.specs.Inner.Row.{row_answer}
use Rattle.rows.specs.declared.RowRead.{RowRead}
use Rattle.rows.proofs.Rules.{row_read, fault_read}
use Rattle.reader.specs.Reading.{accepted, refused_file}
use Rattle.reader.specs.Grammar.{AreLines, FileLines, HasHeader, Each, none, and, AreRows}
use Rattle.reader.specs.Grammar.{Fault, HasRows, of_lines}
use Rattle.reader.specs.Right.{RightReading, is1, is2, is3, is4, is5, is6missing, is6, is7}
use Rattle.reader.specs.Right.{is8, is9, is_fault, is16, is_table}
use Rattle.reader.specs.Inner.File.{Rows, rows_read, fault, after_row, row_of, rows_from}
use Rattle.reader.specs.Inner.File.{rows_reading, rows_answer, after_signals, body_answer}
use Rattle.reader.specs.Inner.File.{file_answer, read_answer}
use Rattle.reader.specs.declared.Reading.{Reading}
use Rattle.reader.proofs.Lines.{read_empty, read_long, read_open, read_lines}
use Rattle.reader.proofs.Gathering.{after_rows}

pub each_length : {A B : Type 0} {R : A → B → Type 0} {l : List A} {m : List B} → Each R l m
    → length m ≡ length l
each_length none = refl
each_length (and h more) = ap suc (each_length more)

-- The names that a table value keeps, without the unused ones.
pub names_taken : (names : List (List ℕ))
    → take (length names) (names_from names) ≡ map name_of names
names_taken names = take_at (map name_of names) _ (length names) (length-map names name_of)

after_none : (rows : Rows) → rows ≡ after_rows [] rows
after_none (rows_read rows) = refl
after_none (fault number line) = refl

after_more : (row : Row) (rows : List Row) (rest : Rows)
    → after_row row (after_rows rows rest) ≡ after_rows (row ∷ rows) rest
after_more row rows (rows_read more) = refl
after_more row rows (fault number line) = refl

-- The rows, in a file of these lines.
module _ (file : FileLines) where
  abbrev version : Version
  version = file.version

  abbrev names : List (List ℕ)
  names = file.names

  abbrev rows_at : ℕ → List (List ℕ) → Rows
  rows_at = rows_from (names_from names) (length names) version

  abbrev reading_of : Rows → Reading
  reading_of = rows_reading (names_from names) (length names) version

  abbrev answer_to : List (List ℕ) → Reading
  answer_to = rows_answer (names_from names) (length names) version

  module _ (i : ℕ) (h : i < most_rows) (line : List ℕ) (more : List (List ℕ)) where
    rows_next : (read : RowRead)
        → row_answer (map name_of names) (width (length names)) version line ≡ Ok read
        → rows_at i (line ∷ more) ≡ after_row (row_of read) (rows_at (i + 1) more)
    unfolding rows_from
    rows_next read e = rw (lt-ltb i most_rows h, names_taken names, e)

    rows_stop : (number : ℕ)
        → Fault file line number → rows_at i (line ∷ more) ≡ fault number (i + 3)
    unfolding rows_from
    rows_stop number f =
        let found = fault_read (map name_of names) (width (length names)) version line number f in
        rw (lt-ltb i most_rows h, names_taken names, found)

  rows_ninth : (line : List ℕ) (more : List (List ℕ))
      → rows_at most_rows (line ∷ more) ≡ fault 9 (most_rows + 3)
  unfolding rows_from
  rows_ninth line more = refl

  rows_after : (i : ℕ) (rules : List (List ℕ)) (rows : List Row)
      → AreRows file rules rows
      → i + length rules ≤ most_rows → (rest : List (List ℕ))
      → rows_at i (rules ++ rest) ≡ after_rows rows (rows_at (i + length rules) rest)
  rows_after i rules rows none h rest =
      let same : i ≡ i + 0 = omega arith in
      ap (λ (k : ℕ). rows_at k rest) same ∙ after_none (rows_at (i + 0) rest)
  rows_after i rules rows (and {a} {b} {l} {m} r more) h rest =
      let same : i + 1 + length l ≡ i + suc (length l) = omega arith in
      rows_next i (omega arith) a (l ++ rest) _
      (row_read (map name_of names) (width (length names)) version a b r)
      ∙ ap (after_row b) (rows_after (i + 1) l m more (omega arith) rest
      ∙ ap (λ (k : ℕ). after_rows m (rows_at k rest)) same)
      ∙ after_more b m (rows_at (i + suc (length l)) rest)

-- The lines from the top.
module _ (bytes : List ℕ) where
  lines_read : (line : List ℕ) (rest : List (List ℕ)) → AreLines bytes (line ∷ rest)
      → read_answer bytes ≡ file_answer (line ∷ rest)
  unfolding ended
  lines_read line rest l =
      let some : length bytes ≡ 0 → ⊥ = λ e. absurd (let z = ap length l.bytes_are in
      omega (arith, length-append line (LF ∷ ended rest))) in
      read_lines bytes some l.few
      (ap (λ (xs : List ℕ). get_or xs (length xs - 1) 0) l.bytes_are ∙ ended_last line rest)
      ∙ ap file_answer (ap lines l.bytes_are ∙ lines_ended (line ∷ rest) l.apart)

  body_read : (version : Version) (body : List (List ℕ))
      → AreLines bytes (version_line version ∷ body)
      → read_answer bytes ≡ body_answer version body
  unfolding file_answer
  body_read version body l =
      lines_read (version_line version) body l
      ∙ rw (header_known (version_line version) (version_digits version) (header_right version)
      version refl)

  signals_next : (version : Version) (line : List ℕ) (rest : List (List ℕ))
      → AreLines bytes (version_line version ∷ line ∷ rest)
      → read_answer bytes ≡ after_signals version (signals_answer (split space line)) rest
  unfolding body_answer
  signals_next version line rest l = body_read version (line ∷ rest) l

  rules_next : (file : FileLines) → HasHeader bytes file
      → read_answer bytes ≡ answer_to file file.rules
  rules_next file b =
      let n = b.has_names in
      signals_next file.version n.line2 file.rules n.lines
      ∙ ap (λ (r : Result Signals ℕ). after_signals file.version r file.rules)
      (signals_read_lem n.line2 file.names n.signals b.few b.differ)

  -- The rows of a line that is no row, or the ninth, and of those before it.
  rows_fault : (file : FileLines) (before : List (List ℕ)) (rows : List Row) (line : List ℕ)
      (rest : List (List ℕ)) → file.rules ≡ before ++ line ∷ rest → AreRows file before rows
      → length before ≤ most_rows → (number place : ℕ)
      → rows_at file (length before) (line ∷ rest) ≡ fault number place
      → HasHeader bytes file → read_answer bytes ≡ refused_file number place
  unfolding rows_answer
  rows_fault file before rows line rest same are few number place e b =
      rules_next file b
      ∙ ap (answer_to file) same
      ∙ some before
      ∙ ap (reading_of file)
      (rows_after file 0 before rows are (omega arith) (line ∷ rest)
      ∙ ap (after_rows rows) (ap (λ (k : ℕ). rows_at file k (line ∷ rest)) zero_add ∙ e))
    where
      zero_add : 0 + length before ≡ length before
      zero_add = omega arith

      some : (rules : List (List ℕ))
          → answer_to file (rules ++ line ∷ rest)
          ≡ reading_of file (rows_at file 0 (rules ++ line ∷ rest))
      some [] = refl
      some (rule ∷ rules) = refl

  table_read : (table : Table) → HasRows bytes table → read_answer bytes ≡ accepted table
  unfolding rows_answer rows_from
  table_read table f =
      rules_next f.file f.header
      ∙ go f.file.rules (each_length f.rows_are)
      (sym (ap (rows_at f.file 0) (append-nil f.file.rules))
      ∙ rows_after f.file 0 f.file.rules f.rows f.rows_are
      (omega (arith, f.rows_few, each_length f.rows_are)) []
      ∙ ap rows_read (append-nil f.rows))
      ∙ ap accepted (sym f.table_is)
    where
      go : (rules : List (List ℕ)) → length f.rows ≡ length rules
          → rows_at f.file 0 rules ≡ rows_read f.rows
          → answer_to f.file rules
          ≡ accepted (table_from (length f.file.names) (names_from f.file.names) f.rows)
      go [] e h = absurd (omega (arith, f.rows_some))
      go (line ∷ more) e h = ap (reading_of f.file) h

  pub read_only : (r : Reading) → RightReading bytes r → read_answer bytes ≡ r
  unfolding file_answer body_answer rows_answer
  read_only r (is1 e) = read_empty bytes (ap length e)
  read_only r (is2 h) = read_long bytes (λ e. omega arith) h
  read_only r (is3 before last e other few) =
      let long = ap length e ∙ length-append before (last ∷ []) in
      let end : length bytes - 1 ≡ length before = omega arith in
      read_open bytes (λ z. omega arith) few (λ z. other (sym (ap (λ (xs : List ℕ). get_or xs
      (length before) 0) e ∙ get_or-append_seam before last [] 0) ∙ rw end at z))
  read_only r (is4 {line} {rest} l h) = lines_read line rest l ∙ rw (header_none line h)
  read_only r (is5 {line} {digits} {rest} l h other) =
      lines_read line rest l ∙ rw (header_other line digits h other)
  read_only r (is6missing version l) = body_read version [] l
  read_only r (is6 version {line} {rest} l h) =
      signals_next version line rest l
      ∙ ap (λ (r : Result Signals ℕ). after_signals version r rest) (signals_none line h)
  read_only r (is7 {file} n many) =
      signals_next file.version n.line2 file.rules n.lines
      ∙ ap (λ (r : Result Signals ℕ). after_signals file.version r file.rules)
      (signals_many n.line2 file.names n.signals many)
  read_only r (is8 {file} n few twice) =
      signals_next file.version n.line2 file.rules n.lines
      ∙ ap (λ (r : Result Signals ℕ). after_signals file.version r file.rules)
      (signals_twice n.line2 file.names n.signals few twice)
  read_only r (is9 {file} {before} {rows} line rest b same are e) =
      rows_fault file before rows line rest same are (omega arith) 9 (most_rows + 3)
      (ap (λ (k : ℕ). rows_at file k (line ∷ rest)) e ∙ rows_ninth file line rest) b
  read_only r (is_fault {file} {before} {rows} {number} line rest b same are low f) =
      rows_fault file before rows line rest same are (omega arith) number (length before + 3)
      (rows_stop file (length before) low line rest number f) b
  read_only r (is16 {file} b empty) = rules_next file b ∙ ap (answer_to file) empty
  read_only r (is_table {table} (of_lines f)) = table_read table f

-- The first bytes of a file that is too long say so.
pub read_first_bytes : (bytes : List ℕ)
    → read_answer (take (suc most_bytes) bytes) ≡ read_answer bytes
read_first_bytes bytes = go (dec_le (length bytes) (suc most_bytes))
  where
    go : Dec (length bytes ≤ suc most_bytes)
        → read_answer (take (suc most_bytes) bytes) ≡ read_answer bytes
    go (yes h) = ap read_answer (take_all (suc most_bytes) bytes h)
    go (no h) =
        let long : most_bytes < length bytes = omega arith in
        let front = length-take-le (suc most_bytes) bytes (omega arith) in
        read_only (take (suc most_bytes) bytes) _ (is2 (omega (arith, front)))
        ∙ sym (read_only bytes _ (is2 long))
