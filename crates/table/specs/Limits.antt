-- "Limits: 4,096 bytes, 1 to 6 signals, 1 to 8 rows. A bound is 0 to 60."
use Rattle.std.specs.Prelude.{ℕ}

abbrev pub most_bytes : ℕ
most_bytes = 4096

abbrev pub most_signals : ℕ
most_signals = 6

abbrev pub most_rows : ℕ
most_rows = 8

abbrev pub most_ticks : ℕ
most_ticks = 60

-- "A name has 1 to 8 letters a-z".
abbrev pub name_length : ℕ
name_length = 8

-- "A row's six conditions".
abbrev pub conditions : ℕ
conditions = 6
