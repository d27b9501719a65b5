-- Number and line of an outcome. What was accepted has neither: both are 0.
use Rattle.std.specs.Prelude.{ℕ, Ok, Err}
use Rattle.table.specs.Refusal.{Outcome}

abbrev pub number_of : Outcome → ℕ
number_of (Ok _) = 0
number_of (Err refusal) = refusal.number

abbrev pub line_of : Outcome → ℕ
line_of (Ok _) = 0
line_of (Err refusal) = refusal.line
