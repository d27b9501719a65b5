-- What the promises about the writer speak of: document 02, ask 6.
use Rattle.std.specs.Prelude.{ℕ, ◌<◌, ◌≤◌, true, List, [], ◌∷◌, ◌≡◌, length}
use Rattle.table.specs.Limits.{most_bytes}
use Rattle.table.specs.Valid.{rows_of, table_valid}
use Rattle.table.specs.declared.Table.{Table}
use Rattle.text.specs.Lines.{ended}
use Rattle.reader.specs.Grammar.{IsFile}
use Rattle.reader.specs.Reading.{refused_file}
use Rattle.reader.specs.Right.{RightReading}
use Rattle.reader.specs.Sized.{Sized}
use Rattle.lines.specs.Line.{refused_line}
use Rattle.writer.specs.File.{used_names, file_text}

-- "Any table value" of the machine, that number 17 lets by; and one of them that is written, where
-- the lent buffer is not shorter.
pub record Writable (table : Table) : Type 0 where
  pub sized : Sized table
  pub passes : table_valid table ≡ true

pub record IsWritten (table : Table) : Type 0 where
  pub writable : Writable table
  pub short : length (file_text table) ≤ most_bytes

-- "Their names, sets, bounds and row order are equal."
pub record SameTable (one other : Table) : Type 0 where
  pub signals : one.signals ≡ other.signals
  pub names : used_names one ≡ used_names other
  pub count : one.count ≡ other.count
  pub rows : rows_of one ≡ rows_of other

-- `writetable` prints the written file of a table; a refused one prints its refused line alone, and
-- so does one that "would exceed 4,096 bytes".
pub data RightWriting (bytes : List ℕ) : List ℕ → Type 0 where
  refused : {number line : ℕ} → RightReading bytes (refused_file number line)
      → RightWriting bytes (ended (refused_line number line ∷ []))
  too_long : {table : Table} → IsFile bytes table → most_bytes < length (file_text table)
      → RightWriting bytes (ended (refused_line 23 0 ∷ []))
  written : {table : Table} → IsFile bytes table → length (file_text table) ≤ most_bytes
      → RightWriting bytes (file_text table)
