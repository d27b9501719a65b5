-- "A refusal gives number and line". What else an answer holds when it is refused stands with each
-- answer.
use Rattle.std.specs.Prelude.{ℕ, Result, Err}
use Rattle.table.specs.declared.Refusal.{Refusal}

-- Whether a file or a call was taken.
abbrev pub Outcome : Type 0
Outcome = Result Unit Refusal

abbrev pub refused_at : ℕ → ℕ → Outcome
refused_at number line = Err (record { number = number; line = line })
