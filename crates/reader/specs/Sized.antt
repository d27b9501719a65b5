-- Table values of the machine, whose lists have the lengths of its arrays.
use Rattle.std.specs.Prelude.{ℕ, ◌<◌, ◌≡◌, length, get_or}
use Rattle.table.specs.Limits.{most_signals, most_rows, name_length, conditions}
use Rattle.table.specs.Row.{no_row}
use Rattle.table.specs.declared.Table.{Table}
use Rattle.header.specs.Header.{no_name}

-- A table value of the machine: six names of eight places each, and eight rows of six sets each. In
-- the logic a list has any length.
pub record Sized (table : Table) : Type 0 where
  pub names : length table.names ≡ most_signals
  pub chars : (i : ℕ) → i < most_signals → length (get_or table.names i no_name).chars ≡ name_length
  pub rows : length table.rows ≡ most_rows
  pub sets : (i : ℕ) → i < most_rows → length (get_or table.rows i no_row).sets ≡ conditions
