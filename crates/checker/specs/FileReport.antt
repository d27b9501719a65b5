-- What is reported of a file, and what all lent memory holds then.
use Rattle.std.specs.Prelude.{ℕ, List, length, replicate}
use Rattle.lists.specs.Room.{most_room, most_index}
use Rattle.verdict.specs.Buffer.{written}
use Rattle.search.specs.Lent.{Lent, lent_lists}

-- The report of a file, and the lent memory after it.
pub record FileReport : Type 0 where
  pub report : List ℕ
  pub lent : Lent

-- What a call answers and leaves: the report's length, as much of the report as the buffer takes,
-- and the lent memory.
pub record Call : Type 0 where
  pub length : ℕ
  pub out : List ℕ
  pub lent : Lent

abbrev pub call_of : FileReport → List ℕ → Call
call_of file out =
    record { length = length file.report; out = written file.report out; lent = file.lent }

-- "The program lends room 4,096 and a trace buffer of as many bytes." Besides it lends the longest
-- index that is of use, on which no answer hangs.
abbrev pub program_lent : Lent
program_lent =
    let zeros : List ℕ = replicate most_room 0 in
    lent_lists zeros zeros (replicate most_index 0) zeros

-- No report of the program is longer.
abbrev pub most_report : ℕ
most_report = 70000
