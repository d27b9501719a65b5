-- The accepted files, written out from their parts.
use Rattle.std.specs.Prelude.{ℕ, ◌≤◌, true, List, [], ◌∷◌, map, ◌≡◌, length}
use Rattle.letters.specs.Letter.{width}
use Rattle.table.specs.Limits.{most_bytes, most_signals, most_rows}
use Rattle.table.specs.Name.{all_distinct}
use Rattle.table.specs.Valid.{table_from}
use Rattle.table.specs.declared.Row.{Row}
use Rattle.table.specs.declared.Table.{Table}
use Rattle.text.specs.Lines.{LF, ended, Free}
use Rattle.text.specs.declared.Version.{Version}
use Rattle.conditions.specs.Condition.{name_of}
use Rattle.header.specs.Header.{version_line, IsSignals, names_from}
use Rattle.rows.specs.Row.{IsRow, RowFault}

-- "Lines end with LF (byte 10)." The bytes are these lines, which is to say that numbers 1, 2 and 3
-- let them by.
pub record AreLines (bytes : List ℕ) (lines : List (List ℕ)) : Type 0 where
  pub bytes_are : bytes ≡ ended lines
  pub apart : Free LF lines
  pub some : 1 ≤ length lines
  pub few : length bytes ≤ most_bytes

-- The lines of a file: line 1 of its version, line 2 of its names, and those of its rows.
pub record FileLines : Type 0 where
  pub version : Version
  pub names : List (List ℕ)
  pub rules : List (List ℕ)

-- The bytes are put together from such lines, where line 2 has its shape.
pub record HasNames (bytes : List ℕ) (file : FileLines) : Type 0 where
  pub line2 : List ℕ
  pub lines : AreLines bytes (version_line file.version ∷ line2 ∷ file.rules)
  pub signals : IsSignals line2 file.names

-- Line 2 is right too: "1 to 6 signals", and no name twice.
pub record HasHeader (bytes : List ℕ) (file : FileLines) : Type 0 where
  pub has_names : HasNames bytes file
  pub few : length file.names ≤ most_signals
  pub differ : all_distinct (map name_of file.names) ≡ true

-- Two lists of one length, each place of one to the same place of the other.
pub data Each {A B : Type 0} (R : A → B → Type 0) : List A → List B → Type 0 where
  none : Each R [] []
  and : {a : A} {b : B} {l : List A} {m : List B} → R a b → Each R l m → Each R (a ∷ l) (b ∷ m)

-- Some lines are these rows, in a file of this version with these names; and what is wrong with
-- another line of it.
module _ (file : FileLines) where
  abbrev pub AreRows : List (List ℕ) → List Row → Type 0
  AreRows = Each (IsRow (map name_of file.names) (width (length file.names)) file.version)

  abbrev pub Fault : List ℕ → ℕ → Type 0
  Fault = RowFault (map name_of file.names) (width (length file.names)) file.version

-- The bytes are the lines of a file, of these rows, and this is its table.
pub record HasRows (bytes : List ℕ) (table : Table) : Type 0 where
  pub file : FileLines
  pub rows : List Row
  pub header : HasHeader bytes file
  pub rows_are : AreRows file file.rules rows
  pub rows_some : 1 ≤ length rows
  pub rows_few : length rows ≤ most_rows
  pub table_is : table ≡ table_from (length file.names) (names_from file.names) rows

-- The bytes are a file, and this is its table.
pub data IsFile (bytes : List ℕ) (table : Table) : Type 0 where
  of_lines : HasRows bytes table → IsFile bytes table
