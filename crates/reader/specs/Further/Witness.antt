-- Number 17 turns down "a signal count, names, row count or bounds that no accepted file has". What
-- it lets by is in some accepted file: what that means.
use Rattle.std.specs.Prelude.{ℕ, List, ◌≡◌}
use Rattle.table.specs.Valid.{rows_of}
use Rattle.table.specs.declared.Row.{Row}
use Rattle.table.specs.declared.Table.{Table}
use Rattle.reader.specs.Grammar.{Each, IsFile}

-- Two rows with the same bounds, whatever their sets.
pub record SameBounds (one other : Row) : Type 0 where
  pub tmin : one.tmin ≡ other.tmin
  pub tmax : one.tmax ≡ other.tmax
  pub lmin : one.lmin ≡ other.lmin
  pub lmax : one.lmax ≡ other.lmax
  pub amin : one.amin ≡ other.amin
  pub amax : one.amax ≡ other.amax

-- An accepted file with the signal count, the names, the row count and the bounds of the table.
pub record Witnessed (table : Table) : Type 0 where
  pub bytes : List ℕ
  pub other : Table
  pub file : IsFile bytes other
  pub signals : other.signals ≡ table.signals
  pub names : other.names ≡ table.names
  pub count : other.count ≡ table.count
  pub bounds : Each SameBounds (rows_of other) (rows_of table)
