-- What the reader answers: a table, or a refusal with an empty one.
use Rattle.std.specs.Prelude.{ℕ, []}
use Rattle.table.specs.Refusal.{refused_at}
use Rattle.table.specs.Valid.{table_from}
use Rattle.std.specs.Prelude.{Ok}
use Rattle.table.specs.declared.Table.{Table}
use Rattle.header.specs.Header.{names_from}
use Rattle.reader.specs.declared.Reading.{Reading}

abbrev pub accepted : Table → Reading
accepted table = record { outcome = Ok tt; table = table }

-- "A refusal gives number and line .. The reader's table is then empty."
abbrev pub empty_table : Table
empty_table = table_from 0 (names_from []) []

abbrev pub refused_file : ℕ → ℕ → Reading
refused_file number line = record { outcome = refused_at number line; table = empty_table }
