-- Document 02, ask 8: a set's "states are the phases of its rows alone"; ask 12: two rows are taken
-- "as a table with all signals".
use Rattle.std.specs.Prelude.{ℕ}
use Rattle.letters.specs.Sets.{picked}
use Rattle.table.specs.Valid.{rows_of, table_from}
use Rattle.table.specs.declared.Table.{Table}

-- The rows of a set, in file order, with all signals: bit i of the set is row i + 1.
abbrev pub subtable : ℕ → Table → Table
subtable set table = table_from table.signals table.names (picked set (rows_of table))
