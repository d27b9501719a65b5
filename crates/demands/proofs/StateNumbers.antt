-- A reached state and its number. Assumes nothing.
use Prim.Native.Nat.{◌^◌, ◌<◌}
use mathlib.Core.Bool.{true}
use mathlib.Core.List.{List}
use mathlib.Core.Path.{◌≡◌}
use Rattle.letters.specs.Lists.{every}
use Rattle.table.specs.Row.{row_valid}
use Rattle.table.specs.Valid.{table_valid, rows_valid, rows_of}
use Rattle.table.specs.declared.Table.{Table}
use Rattle.table.proofs.Laws.{table_valid_rows, rows_valid_rows, rows_valid_count}
use Rattle.traces.specs.Trace.{Reached}
use Rattle.step.specs.declared.Phase.{Phase}
use Rattle.successors.specs.State.{packed}
use Rattle.successors.specs.Further.Unpacked.{unpacked}
use Rattle.search.specs.Lent.{system_of}
use Rattle.search.proofs.Bound.{reached_valid, reached_length}
use Rattle.successors.proofs.Packing.{packed_back, packed_fits}

module _ (table : Table) (passes : table_valid table ≡ true) (phases : List Phase)
    (reached : Reached (system_of table) phases) where
  rules : rows_valid table.signals (rows_of table) ≡ true
  rules = table_valid_rows table passes

  rows_valid_lem : every (row_valid table.signals) (rows_of table) ≡ true
  rows_valid_lem = rows_valid_rows table.signals (rows_of table) rules

  pub number_fits : packed phases < 2 ^ 64
  number_fits = packed_fits table.signals (rows_of table) phases rows_valid_lem
      (reached_valid table.signals (rows_of table) phases reached)
      (reached_length table.signals (rows_of table) phases reached)
      (rows_valid_count table.signals (rows_of table) rules).1

  pub number_state : unpacked (rows_of table) (packed phases) ≡ phases
  number_state = packed_back table.signals (rows_of table) phases rows_valid_lem
      (reached_valid table.signals (rows_of table) phases reached)
      (reached_length table.signals (rows_of table) phases reached)
