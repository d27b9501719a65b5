-- Number 17, clause by clause: it turns down "a table value with a signal count, names, row count
-- or bounds that no accepted file has, an unused place that is not 0, or a set with a letter from
-- 2^s on". What every other table value is.
use Rattle.std.specs.Prelude.{ℕ, ◌≤◌, ◌<◌, true, List, [], ◌≡◌, length, get_or}
use Rattle.letters.specs.Letter.{letters}
use Rattle.table.specs.Limits.{most_signals, most_rows, most_ticks}
use Rattle.table.specs.Row.{holds}
use Rattle.table.specs.Valid.{table_from}
use Rattle.table.specs.declared.Row.{Row}
use Rattle.table.specs.declared.Table.{Table}
use Rattle.text.specs.Lines.{All}
use Rattle.conditions.specs.Condition.{IsName}
use Rattle.header.specs.Header.{names_from}

-- "A bound is 0 to 60 ..; least is not above most."
pub record AreBounds (least most : ℕ) : Type 0 where
  pub ordered : least ≤ most
  pub small : most ≤ most_ticks

-- A row of a table with s signals: no condition has "a letter from 2^s on".
pub record IsAllowedRow (s : ℕ) (row : Row) : Type 0 where
  pub trigger : AreBounds row.tmin row.tmax
  pub delay : AreBounds row.lmin row.lmax
  pub action : AreBounds row.amin row.amax
  pub sets : (condition letter : ℕ) → holds row condition letter ≡ true → letter < letters s

-- "1 to 6 signals, 1 to 8 rows", names that are names, of which none stands twice, and such rows.
-- The value is made of these alone: "Unused names, name letters and rows of a table value are 0."
pub record IsAllowed (table : Table) : Type 0 where
  pub names : List (List ℕ)
  pub rows : List Row
  pub signals_some : 1 ≤ length names
  pub signals_few : length names ≤ most_signals
  pub rows_some : 1 ≤ length rows
  pub rows_few : length rows ≤ most_rows
  pub named : All IsName names
  pub differ : (i j : ℕ) → i < j → j < length names → get_or names i [] ≡ get_or names j [] → ⊥
  pub each : All (IsAllowedRow (length names)) rows
  pub value : table ≡ table_from (length names) (names_from names) rows
