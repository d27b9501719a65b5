-- The other half of number 17: a table value that it lets by has its signal count, its names, its
-- row count and its bounds in an accepted file, one with `0` for each condition. In the logic a
-- list has any length: that a table value has six names of eight places and eight rows, as each
-- value of the machine has, is a hypothesis (`Sized`). Assumes nothing.
use Prim.Native.Nat.{ℕ, ◌≤◌}
use native.Mathlib.Omega.{arith}
use mathlib.Core.Bool.{true}
use mathlib.Core.List.{List, ◌∷◌, map}
use mathlib.Core.Path.{◌≡◌, refl, ◌∙◌}
use lib.ListN.{length, length-append, length-map}
use lib.Seq.{take_at}
use Rattle.letters.specs.Letter.{width}
use Rattle.table.specs.Limits.{most_bytes}
use Rattle.table.specs.Valid.{rows_of, table_valid, table_from}
use Rattle.table.specs.declared.Row.{Row}
use Rattle.table.specs.declared.Table.{Table}
use Rattle.table.proofs.Laws.{table_valid_count, table_valid_signals}
use Rattle.text.specs.Lines.{ended, space, All, none as All-none, and as all-and}
use Rattle.text.specs.Words.{signals_word}
use Rattle.text.specs.declared.Version.TheVariants.{First}
use Rattle.text.proofs.Joins.{joined_length}
use Rattle.conditions.specs.Condition.{name_of, IsName}
use Rattle.header.specs.Header.{version_line, names_from}
use Rattle.reader.specs.Grammar.{AreRows}
use Rattle.reader.specs.Sized.{Sized}
use Rattle.reader.specs.Further.Witness.{Witnessed}
use Rattle.reader.proofs.Files as Files
use Rattle.reader.proofs.PlainRows.{bare, line_of, lines_rows, lines_length, bare_bounds}

words_short : (words : List (List ℕ)) → All IsName words → All (λ piece. length piece ≤ 8) words
words_short words All-none = All-none
words_short words (all-and {more} h rest) = all-and h.few (words_short more rest)

module _ (table : Table) (sized : Sized table) (fits : table_valid table ≡ true) where
  abbrev s : ℕ
  s = table.signals

  abbrev words : List (List ℕ)
  words = Files.words table sized fits

  abbrev rows : List Row
  rows = map bare (rows_of table)

  abbrev bytes_of : List ℕ
  bytes_of =
      ended (version_line First ∷ Files.line2 table sized fits ∷ map line_of (rows_of table))

  rows_length : length rows ≡ table.count
  rows_length = length-map (rows_of table) bare ∙ Files.rows_counted table sized fits

  bytes_few : length bytes_of ≤ most_bytes
  unfolding ended
  bytes_few =
      let short : All (λ piece. length piece ≤ 8) (signals_word ∷ words) =
      all-and {a = signals_word} (omega arith)
      (words_short words (Files.words_are table sized fits)) in
      let second = joined_length space 8 (signals_word ∷ words) short in
      let rest = lines_length s (rows_of table) (Files.rows_valid_lem table sized fits) in
      simp length-append (omega (
        arith,
        Files.words_length table sized fits,
        Files.rows_counted table sized fits,
        table_valid_signals table fits,
        table_valid_count table fits,
      ))

  abbrev rules : List (List ℕ)
  rules = map line_of (rows_of table)

  rows_are : AreRows (Files.lines_of table sized fits rules) rules rows
  rows_are =
      lines_rows s (map name_of words) (width (length words)) First (rows_of table)
      (Files.rows_valid_lem table sized fits)

  pub valid_witnessed : Witnessed table
  valid_witnessed = record {
    bytes = bytes_of;
    other = table_from (length words) (names_from words) rows;
    file = Files.file_is table sized fits rows_are rows_length bytes_few;
    signals = Files.words_length table sized fits;
    names = Files.names_same table sized fits;
    count = rows_length;
    bounds = rw (take_at rows _ (length rows) refl) (bare_bounds (rows_of table));
  }
