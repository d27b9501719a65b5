-- The file of a table value: each line is the row that it was written from, so the file's table is
-- the value, where the file is not too long. Assumes nothing.
use Prim.Native.Nat.{ℕ, suc, ◌≤◌}
use native.Mathlib.Omega.{arith}
use mathlib.Core.Bool.{true}
use mathlib.Core.List.{List, [], ◌∷◌, ◌++◌, map}
use mathlib.Core.Logic.{◌↔◌}
use mathlib.Core.Path.{◌≡◌, sym, ap, ap₂, subst, ◌∙◌}
use lib.ListN.{length, take, drop, length-map}
use Rattle.letters.specs.Letter.{letters, width, set_valid}
use Rattle.letters.specs.Lists.{every}
use Rattle.letters.proofs.Bits.{width_letters}
use Rattle.letters.proofs.Lists.{and_left, and_right}
use Rattle.table.specs.Limits.{most_bytes, conditions}
use Rattle.table.specs.Row.{row_valid}
use Rattle.table.specs.Valid.{rows_of, table_from}
use Rattle.table.specs.declared.Name.{Name}
use Rattle.table.specs.declared.Row.{Row}
use Rattle.table.specs.declared.Table.{Table}
use Rattle.table.proofs.Laws.{row_valid_bounds, row_valid_sets, table_valid_signals}
use Rattle.text.specs.Lines.{joined, comma, All, none as All-none, and as all-and}
use Rattle.text.specs.Words.{rule_word}
use Rattle.text.specs.declared.Version.TheVariants.{First}
use Rattle.conditions.specs.Judge.{IsCondition}
use Rattle.header.specs.Header.{names_from}
use Rattle.rows.specs.Row.{field_kinds, IsRow}
use Rattle.rows.proofs.Rules.{six_places}
use Rattle.reader.specs.Grammar.{Each, none, and, AreRows, IsFile}
use Rattle.reader.proofs.Files as Files
use Rattle.reader.proofs.Files.{Six}
use Rattle.reader.proofs.RowLines.{texts_of, row_line, line_row}
use Rattle.writer.specs.File.{name_text, condition_text, row_text, used_names, file_text}
use Rattle.demands.specs.Writing.{Writable, SameTable}
use Rattle.demands.proofs.ConditionTrees.{condition_right}

-- A row's line is the one that the reader's laws speak of.
line_same : (names : List Name) (s : ℕ) (row : Row) → length row.sets ≡ conditions
    → row_line (condition_text names s) row ≡ row_text names s row
unfolding texts_of
line_same names s row six =
    ap (λ (sets : List ℕ). rule_word ++ joined comma (texts_of (condition_text names s) field_kinds
    (take 3 sets ++ (row.tmin ∷ row.tmax ∷ row.lmin ∷ row.lmax ∷ [])
    ++ drop 3 sets ++ (row.amin ∷ row.amax ∷ []))))
    (six_places row.sets six)

module _ (table : Table) (w : Writable table) where
  abbrev s : ℕ
  s = table.signals

  abbrev used : List Name
  used = used_names table

  used_length : length used ≡ s
  used_length =
      sym (length-map used name_text) ∙ Files.words_length table w.sized w.passes

  pub written_condition : (set : ℕ) → set_valid s set ≡ true
      → IsCondition used (width s) (condition_text used s set) set
  written_condition set fits =
      let counts = table_valid_signals table w.passes in
      rw (width_letters s counts.1)
      (subst (λ (k : ℕ). IsCondition used (letters k) (condition_text used k set) set) used_length
      (condition_right used (Files.words_are table w.sized w.passes)
      (Files.words_known table w.sized w.passes)
      (Files.names_apart table w.sized w.passes)
      (omega (arith, used_length, counts.0)) set (rw used_length fits)))

  sets_mean : (sets : List ℕ) → every (set_valid s) sets ≡ true
      → All (λ set. IsCondition used (width s) (condition_text used s set) set) sets
  unfolding every
  sets_mean [] h = All-none
  sets_mean (set ∷ sets) h =
      all-and (written_condition set (and_left (set_valid s set) (every (set_valid s) sets) h))
      (sets_mean sets (and_right (set_valid s set) (every (set_valid s) sets) h))

  written_row : (row : Row) → length row.sets ≡ conditions → row_valid s row ≡ true
      → IsRow used (width s) First (row_text used s row) row
  written_row row six h =
      subst (λ (line : List ℕ). IsRow used (width s) First line row) (line_same used s row six)
      (line_row (condition_text used s) used (width s) First row six
      (sets_mean row.sets (row_valid_sets s row h)) (row_valid_bounds s row h))

  written_rows : (rows : List Row) → Six rows → every (row_valid s) rows ≡ true
      → Each (IsRow used (width s) First) (map (row_text used s) rows) rows
  unfolding every
  written_rows [] six h = none
  written_rows (row ∷ rows) six h =
      and (written_row row (six 0 (omega arith))
      (and_left (row_valid s row) (every (row_valid s) rows) h))
      (written_rows rows (λ i low. six (suc i) (omega arith))
      (and_right (row_valid s row) (every (row_valid s) rows) h))

  abbrev rules : List (List ℕ)
  rules = map (row_text used s) (rows_of table)

  rows_are : AreRows (Files.lines_of table w.sized w.passes rules) rules (rows_of table)
  rows_are =
      rw (
        Files.words_known table w.sized w.passes,
        Files.words_length table w.sized w.passes,
      )
      (written_rows (rows_of table) (Files.rows_six table w.sized w.passes)
      (Files.rows_valid_lem table w.sized w.passes))

  pub written_file : IsFile (file_text table) table ↔ (length (file_text table) ≤ most_bytes)
  unfolding file_text
  written_file = (
    Files.file_few,
    λ few. subst (IsFile (file_text table)) (Files.table_same table w.sized w.passes)
        (Files.file_is table w.sized w.passes rows_are
        (Files.rows_counted table w.sized w.passes) few),
  )

-- A table value has no other parts than its names and rows.
pub same_parts : {one other : Table} → Writable one → Writable other → SameTable one other
    → one ≡ other
same_parts {one} {other} w v same =
    sym (Files.table_same one w.sized w.passes)
    ∙ ap₂ (λ (names : List Name) (rows : List Row). let words = map name_text names in
    table_from (length words) (names_from words) rows) same.names same.rows
    ∙ Files.table_same other v.sized v.passes

pub parts_same : {one other : Table} → one ≡ other → SameTable one other
parts_same e = record {
  signals = ap (λ (t : Table). t.signals) e;
  names = ap used_names e;
  count = ap (λ (t : Table). t.count) e;
  rows = ap rows_of e;
}
