-- The table of a file has the sizes that each table value of the machine has. Assumes nothing.
use Prim.Native.Nat.{ℕ, zero, suc, ◌+◌, ◌-◌, ◌<◌}
use native.Mathlib.Decide.{dec_lt}
use native.Mathlib.Omega.{arith}
use mathlib.Core.List.{List, [], ◌++◌}
use mathlib.Core.Path.{◌≡◌, sym, ap, ◌∙◌}
use lib.ListN.{length, get_or, replicate, length-append, length-replicate}
use lib.ListN.{get_or-append, get_or-replicate}
use lib.Seq.{length-take-le, get_or-append-add}
use Rattle.letters.proofs.Padding.{padded_length, padded_at, padded_beyond}
use Rattle.table.specs.Limits.{most_signals, most_rows, name_length, conditions}
use Rattle.table.specs.Row.{no_row, zero_row}
use Rattle.table.specs.declared.Name.{Name}
use Rattle.table.specs.declared.Row.{Row}
use Rattle.table.specs.declared.Table.{Table}
use Rattle.text.specs.declared.Version.{Version}
use Rattle.conditions.specs.Condition.{name_of}
use Rattle.header.specs.Header.{no_name, names_from}
use Rattle.rows.specs.Row.{IsRow}
use Rattle.rows.proofs.Rules.{row_same}
use Rattle.reader.specs.Grammar.{Each, none, and, HasRows, IsFile, of_lines}
use Rattle.reader.specs.Sized.{Sized}
use Rattle.reader.proofs.Files.{Six}

name_places : (w : List ℕ) → length (name_of w).chars ≡ name_length
unfolding name_of
name_places w =
    length-take-le name_length (w ++ replicate name_length 0)
    (rw length-append (omega (arith, length-replicate {A = ℕ} name_length 0)))

rows_six : {names : List Name} {n : ℕ} {version : Version} {rules : List (List ℕ)}
    {rows : List Row}
    → Each (IsRow names n version) rules rows → Six rows
rows_six none i low = absurd (omega arith)
rows_six {names} {n} (and {a} {b} h more) zero low =
    sym (ap (λ (r : Row). length r.sets) (row_same names n a b h.has))
rows_six (and h more) (suc i) low = rows_six more i (omega arith)

module _ (bytes : List ℕ) (t : Table) (f : HasRows bytes t) where
  abbrev names : List (List ℕ)
  names = f.file.names

  abbrev rows : List Row
  rows = f.rows

  abbrev free : List Row
  free = replicate (most_rows - length rows) zero_row

  chars_eight : (i : ℕ) → length (get_or (names_from names) i no_name).chars ≡ name_length
  chars_eight i = go (dec_lt i (length names))
    where
      go : Dec (i < length names) → length (get_or (names_from names) i no_name).chars ≡ name_length
      go (yes low) =
          rw (padded_at name_of no_name most_signals names [] i low) (name_places (get_or names i []))
      go (no high) = rw (padded_beyond name_of no_name most_signals names i (omega arith))

  sets_six : (i : ℕ) → i < most_rows → length (get_or (rows ++ free) i no_row).sets ≡ conditions
  sets_six i few = go (dec_lt i (length rows))
    where
      go : Dec (i < length rows) → length (get_or (rows ++ free) i no_row).sets ≡ conditions
      go (yes low) = rw (get_or-append rows free no_row i low) (rows_six f.rows_are i low)
      go (no high) =
          let k = i - length rows in
          let e : i ≡ length rows + k = omega arith in
          ap (λ (j : ℕ). length (get_or (rows ++ free) j no_row).sets) e
          ∙ rw (
            get_or-append-add rows free k no_row,
            get_or-replicate (most_rows - length rows) k zero_row no_row (omega arith),
          )

  lines_sized : Sized t
  lines_sized = record {
    names = ap (λ (t : Table). length t.names) f.table_is
        ∙ padded_length name_of no_name most_signals names f.header.few;
    chars = λ i low. ap (λ (t : Table). length (get_or t.names i no_name).chars) f.table_is
        ∙ chars_eight i;
    rows = ap (λ (t : Table). length t.rows) f.table_is
        ∙ rw length-append (omega (
          arith,
          f.rows_few,
          length-replicate {A = Row} (most_rows - length rows) zero_row,
        ));
    sets = λ i low. ap (λ (t : Table). length (get_or t.rows i no_row).sets) f.table_is
        ∙ sets_six i low;
  }

pub file_sized : (bytes : List ℕ) (t : Table) → IsFile bytes t → Sized t
file_sized bytes t (of_lines f) = lines_sized bytes t f
