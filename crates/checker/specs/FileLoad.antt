-- What `loadtable` takes, and how much it prints. Document 02, ask 5: "Program `loadtable` reads a
-- table, takes 1,000 ticks from 1".
use Rattle.std.specs.Prelude.{ℕ}

abbrev pub load_start : ℕ
load_start = 1

abbrev pub load_ticks : ℕ
load_ticks = 1000

-- No text of the program is longer.
abbrev pub most_totals : ℕ
most_totals = 1000
