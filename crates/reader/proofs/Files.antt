-- The file of a table value that number 17 lets by: its names and any lines that are rows, as many
-- as its row count, in at most 4,096 bytes; and with its own rows that file's table is the value
-- itself. Assumes nothing.
use Prim.Native.Nat.{ℕ, suc, ◌+◌, ◌-◌, ◌<◌, ◌≤◌}
use borrow.Author.Tests.{eqb-true}
use native.Mathlib.Omega.{arith}
use mathlib.Core.Bool.{true, ◌&&◌}
use mathlib.Core.List.{List, [], ◌∷◌, ◌++◌, map}
use mathlib.Core.Path.{◌≡◌, refl, sym, ap, ap₂, ◌∙◌}
use lib.ListN.{length, get_or, take, drop, replicate, take-append-drop, length-take, length-drop}
use lib.ListN.{length-map}
use lib.Seq.{length-take-le, get_or-take, get_or-drop}
use Rattle.letters.specs.Letter.{width}
use Rattle.letters.specs.Lists.{every}
use Rattle.letters.proofs.Lists.{and_left, and_right, and_four}
use Rattle.table.specs.Limits.{most_bytes, most_signals, most_rows, conditions}
use Rattle.table.specs.Name.{name_valid, name_unused, all_distinct}
use Rattle.table.specs.Row.{is_zero, no_row, row_valid, row_unused, zero_row}
use Rattle.table.specs.Valid.{names_valid, rows_of, table_valid, table_from}
use Rattle.table.specs.declared.Name.{Name}
use Rattle.table.specs.declared.Row.{Row}
use Rattle.table.specs.declared.Table.{Table}
use Rattle.table.proofs.Laws.{rows_valid_rows, table_valid_rows, table_valid_names, table_valid_count}
use Rattle.table.proofs.Laws.{table_valid_signals, table_valid_unused}
use Rattle.text.specs.Lines.{ended, joined, count, LF, space, Free, All, none as All-none}
use Rattle.text.specs.Lines.{and as all-and}
use Rattle.text.specs.Words.{signals_word}
use Rattle.text.specs.declared.Version.TheVariants.{First}
use Rattle.conditions.specs.Condition.{name_of, IsName}
use Rattle.header.specs.Header.{version_line, no_name, names_from, IsSignals}
use Rattle.header.proofs.Shapes.{signals_free}
use Rattle.rows.proofs.Rules.{row_free}
use Rattle.reader.specs.Grammar.{none, and, AreLines, FileLines, AreRows, IsFile}
use Rattle.reader.specs.Grammar.{of_lines}
use Rattle.reader.specs.Sized.{Sized}
use Rattle.reader.proofs.PlainNames.{word_of, Eight, words_right, words_names, names_unused}
use Rattle.reader.proofs.PlainNames.{zeros_after}

-- Unused rows of six sets.
row_unused_lem : (row : Row) → length row.sets ≡ conditions → row_unused row ≡ true → zero_row ≡ row
unfolding row_unused
row_unused_lem row six h =
    let tmin = is_zero row.tmin in
    let tmax = is_zero row.tmax in
    let lmin = is_zero row.lmin in
    let lmax = is_zero row.lmax in
    let late = and_four (tmin && tmax && lmin && lmax) (is_zero row.amin) (is_zero row.amax)
    (every is_zero row.sets) h in
    let early = and_four tmin tmax lmin lmax late.0 in
    let sets = zeros_after row.sets 0 late.3 ∙ ap (λ (k : ℕ). replicate k 0) six in
    sym (λ i. record {
      sets = sets i;
      tmin = eqb-true row.tmin 0 early.0 i;
      tmax = eqb-true row.tmax 0 early.1 i;
      lmin = eqb-true row.lmin 0 early.2 i;
      lmax = eqb-true row.lmax 0 early.3 i;
      amin = eqb-true row.amin 0 late.1 i;
      amax = eqb-true row.amax 0 late.2 i;
    })

-- Rows in a list, of six sets each.
abbrev pub Six : List Row → Type 0
Six rows = (i : ℕ) → i < length rows → length (get_or rows i no_row).sets ≡ conditions

rows_unused : (rows : List Row) → Six rows → every row_unused rows ≡ true
    → replicate (length rows) zero_row ≡ rows
unfolding every
rows_unused [] six h = refl
rows_unused (row ∷ rows) six h =
    ap₂ ◌∷◌ (row_unused_lem row (six 0 (omega arith)) (and_left (row_unused row) _ h))
    (rows_unused rows (λ i g. six (suc i) (omega arith)) (and_right (row_unused row) _ h))

-- Rows have no LF.
rows_apart : (file : FileLines) {rules : List (List ℕ)} {rows : List Row}
    → AreRows file rules rows → Free LF rules
rows_apart file none = All-none
rows_apart file (and {a} {b} h more) =
    all-and
    (row_free (map name_of file.names) (width (length file.names)) file.version a b h)
    (rows_apart file more)

-- A file has at most so many bytes.
pub file_few : {bytes : List ℕ} {table : Table} → IsFile bytes table → length bytes ≤ most_bytes
file_few (of_lines f) = f.header.has_names.lines.few

module _ (table : Table) (sized : Sized table) (fits : table_valid table ≡ true) where
  abbrev s : ℕ
  s = table.signals

  abbrev used : List Name
  used = take s table.names

  abbrev pub words : List (List ℕ)
  words = map word_of used

  names_parts : (every name_valid used ≡ true) × (all_distinct used ≡ true)
      × (every name_unused (drop s table.names) ≡ true)
  unfolding names_valid
  names_parts =
      let named = table_valid_names table fits in
      let both = and_left (every name_valid used && all_distinct used) _ named in (
        and_left (every name_valid used) (all_distinct used) both,
        and_right (every name_valid used) (all_distinct used) both,
        and_right (every name_valid used && all_distinct used) _ named,
      )

  pub names_apart : all_distinct used ≡ true
  names_apart = names_parts.1

  pub rows_valid_lem : every (row_valid s) (rows_of table) ≡ true
  rows_valid_lem = rows_valid_rows s (rows_of table) (table_valid_rows table fits)

  pub words_length : length words ≡ s
  words_length =
      length-map used word_of
      ∙ length-take-le s table.names (omega (arith, sized.names, table_valid_signals table fits))

  pub rows_counted : length (rows_of table) ≡ table.count
  rows_counted =
      length-take-le table.count table.rows
      (omega (arith, sized.rows, table_valid_count table fits))

  used_eight : Eight used
  used_eight i h =
      let long = length-take s table.names in
      rw (get_or-take s table.names i no_name (omega arith))
      (sized.chars i (omega (arith, sized.names)))

  rest_eight : Eight (drop s table.names)
  rest_eight i h =
      let long = length-drop s table.names in
      rw get_or-drop (sized.chars (s + i) (omega (arith, sized.names)))

  pub rows_six : Six (rows_of table)
  rows_six i h =
      let long = length-take table.count table.rows in
      rw (get_or-take table.count table.rows i no_row (omega arith))
      (sized.sets i (omega (arith, sized.rows)))

  rest_six : Six (drop table.count table.rows)
  rest_six i h =
      let long = length-drop table.count table.rows in
      rw get_or-drop (sized.sets (table.count + i) (omega (arith, sized.rows)))

  pub words_are : All IsName words
  words_are = words_right used used_eight names_parts.0

  pub words_known : map name_of words ≡ used
  words_known = words_names used used_eight names_parts.0

  pub names_same : names_from words ≡ table.names
  names_same =
      let free : most_signals - length words ≡ length (drop s table.names) =
      omega (arith, words_length, length-drop s table.names, sized.names) in
      ap₂ ◌++◌ words_known
      (ap (λ (k : ℕ). replicate k no_name) free
      ∙ names_unused (drop s table.names) rest_eight names_parts.2)
      ∙ take-append-drop s table.names

  -- The table of its own names and rows.
  pub table_same : table_from (length words) (names_from words) (rows_of table) ≡ table
  table_same =
      let free : most_rows - length (rows_of table) ≡ length (drop table.count table.rows) =
      omega (arith, rows_counted, length-drop table.count table.rows, sized.rows) in
      let rows : rows_of table ++ replicate (most_rows - length (rows_of table)) zero_row
      ≡ table.rows =
      ap (◌++◌ (rows_of table))
      (ap (λ (k : ℕ). replicate k zero_row) free
      ∙ rows_unused (drop table.count table.rows) rest_six (table_valid_unused table fits))
      ∙ take-append-drop table.count table.rows in
      λ i. record {
        signals = words_length i;
        names = names_same i;
        count = rows_counted i;
        rows = rows i;
      }

  -- Its names, and lines that are rows.
  abbrev pub line2 : List ℕ
  line2 = joined space (signals_word ∷ words)

  signals_are : IsSignals line2 words
  signals_are = record {
    line_is = refl;
    some = omega (arith, words_length, table_valid_signals table fits);
    named = words_are;
  }

  abbrev pub lines_of : List (List ℕ) → FileLines
  lines_of rules = record { version = First; names = words; rules = rules }

  module _ {rules : List (List ℕ)} {rows : List Row} (are : AreRows (lines_of rules) rules rows)
      (many : length rows ≡ table.count) where
    abbrev bytes_of : List ℕ
    bytes_of = ended (version_line First ∷ line2 ∷ rules)

    lines_are : length bytes_of ≤ most_bytes → AreLines bytes_of (version_line First ∷ line2 ∷ rules)
    unfolding count
    lines_are few = record {
      bytes_are = refl;
      apart = all-and refl
          (all-and (signals_free line2 words signals_are) (rows_apart (lines_of rules) are));
      some = omega arith;
      few = few;
    }

    pub file_is : length bytes_of ≤ most_bytes
        → IsFile bytes_of (table_from (length words) (names_from words) rows)
    file_is few = of_lines (record {
      file = lines_of rules;
      rows = rows;
      header = record {
        has_names = record { line2 = line2; lines = lines_are few; signals = signals_are };
        few = omega (arith, words_length, table_valid_signals table fits);
        differ = rw words_known names_apart;
      };
      rows_are = are;
      rows_some = omega (arith, table_valid_count table fits);
      rows_few = omega (arith, table_valid_count table fits);
      table_is = refl;
    })
