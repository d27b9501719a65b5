-- Which rows a list of rows has, in any order and any number of times. Document 02, asks 8, 12 and
-- 13, speak of some rows of a table; ask 14 of tables "that differ only in the order of their rows,
-- or in a repeated row".
use mathlib.Core.List.{List, Memᴰ}
use Rattle.table.specs.declared.Row.{Row}

-- Each row of the one list is a row of the other.
pub record RowsAmong (few all : List Row) : Type 0 where
  pub among : (row : Row) → Memᴰ row few → Memᴰ row all

-- Both ways.
pub record SameRows (one other : List Row) : Type 0 where
  pub there : RowsAmong one other
  pub back : RowsAmong other one
