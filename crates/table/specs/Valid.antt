-- Number 17.
use Rattle.std.specs.Prelude.{ℕ, ◌-◌, Bool, ◌&&◌, List, ◌++◌, length, take, drop, replicate}
use Rattle.letters.specs.Lists.{within, every}
use Rattle.table.specs.Limits.{most_signals, most_rows}
use Rattle.table.specs.Row.{row_valid, row_unused, zero_row}
use Rattle.table.specs.Name.{name_valid, name_unused, all_distinct}
use Rattle.table.specs.declared.Row.{Row}
use Rattle.table.specs.declared.Name.{Name}
use Rattle.table.specs.declared.Table.{Table}

-- "1 to 6 signals, 1 to 8 rows": a signal count and a row count that a file can have together.
unfoldable pub counts_allowed : ℕ → ℕ → Bool
counts_allowed s count = within 1 most_signals s && within 1 most_rows count

-- The part of it for a signal count and rows alone: both counts, and rows that a file can have.
unfoldable pub rows_valid : ℕ → List Row → Bool
rows_valid s rows = counts_allowed s (length rows) && every (row_valid s) rows

-- The part of it for names: one for each signal, none twice, and the unused ones 0.
unfoldable pub names_valid : ℕ → List Name → Bool
names_valid s names =
    every name_valid (take s names) && all_distinct (take s names) && every name_unused (drop s names)

-- The rows of a table value, in file order.
abbrev pub rows_of : Table → List Row
rows_of table = take table.count table.rows

-- The table value of some signals, with their names, and of some rows.
abbrev pub table_from : ℕ → List Name → List Row → Table
table_from signals names rows = record {
  signals = signals;
  names = names;
  count = length rows;
  rows = rows ++ replicate (most_rows - length rows) zero_row;
}

-- "A table value with a signal count, names, row count or bounds that no accepted file has, an
-- unused place that is not 0, or a set with a letter from 2^s on" is turned down; any other is let
-- by.
unfoldable pub table_valid : Table → Bool
table_valid table =
    counts_allowed table.signals table.count && rows_valid table.signals (rows_of table)
    && names_valid table.signals table.names
    && every row_unused (drop table.count table.rows)
