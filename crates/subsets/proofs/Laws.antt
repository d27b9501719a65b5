-- The table of some rows of a table: which rows it has, and when number 17 lets it by. Assumes
-- nothing.
use Prim.Native.Nat.{ℕ, ◌<◌}
use native.Mathlib.Omega.{arith}
use mathlib.Core.Bool.{true}
use mathlib.Core.Path.{◌≡◌}
use lib.ListN.{length}
use Rattle.letters.specs.Letter.{bit_at}
use Rattle.letters.specs.Sets.{picked}
use Rattle.letters.proofs.Picked.{picked_every, picked_le, picked_some}
use Rattle.table.specs.Row.{row_valid, no_row}
use Rattle.table.specs.Valid.{rows_valid, rows_of, table_valid}
use Rattle.table.specs.declared.Table.{Table}
use Rattle.table.proofs.Laws.{counts_right, rows_valid_signals, rows_valid_count, rows_valid_rows}
use Rattle.table.proofs.Laws.{table_valid_rows, table_valid_names, table_from_rows, table_from_valid}
use Rattle.subsets.specs.Subtable.{subtable}

module _ (set : ℕ) (table : Table) where
  pub subtable_rows : rows_of (subtable set table) ≡ picked set (rows_of table)
  subtable_rows = table_from_rows table.signals table.names (picked set (rows_of table))

  -- It is accepted if the table is and one of its rows is in the set.
  module _ (fits : table_valid table ≡ true) (i : ℕ) (low : i < length (rows_of table))
      (some : bit_at set i ≡ true) where
    subrows_valid : rows_valid table.signals (picked set (rows_of table)) ≡ true
    unfolding rows_valid
    subrows_valid =
        let s = table.signals in
        let all = rows_of table in
        let rows = table_valid_rows table fits in
        let known = rows_valid_signals s all rows in
        let many = rows_valid_count s all rows in
        rw (counts_right s (length (picked set all)) known.0 known.1
        (picked_some set no_row all i low some) (omega (arith, picked_le set all, many.1)))
        (picked_every set (row_valid s) all (rows_valid_rows s all rows))

    pub subtable_valid : table_valid (subtable set table) ≡ true
    subtable_valid =
        table_from_valid table.signals table.names (picked set (rows_of table)) subrows_valid
        (table_valid_names table fits)
