-- The tick over rows of any number, and the table as a system of states and letters.
use Rattle.std.specs.Prelude.{ℕ, Bool, List, [], ◌∷◌, map}
use Rattle.letters.specs.Letter.{letters}
use Rattle.letters.specs.Lists.{some}
use Rattle.table.specs.declared.Row.{Row}
use Rattle.traces.specs.System.{System}
use Rattle.step.specs.declared.Phase.{Phase}
use Rattle.step.specs.declared.Phase.TheVariants.{Waiting}
use Rattle.step.specs.Phase.{is_broken}
use Rattle.step.specs.Step.{step_row}

-- Each row is moved on by the letter. A phase without a row stays.
unfoldable pub tick : List Row → ℕ → List Phase → List Phase
tick [] letter phases = phases
tick (row ∷ rows) letter [] = []
tick (row ∷ rows) letter (phase ∷ phases) = step_row row letter phase ∷ tick rows letter phases

-- "All start waiting."
abbrev pub start_phases : List Row → List Phase
start_phases rows = map (λ _. Waiting) rows

-- A trace "is broken if some row is broken after it".
abbrev pub some_broken : List Phase → Bool
some_broken phases = some is_broken phases

-- The rows of a table with s signals, as a system from some phases on: its states are the phases of
-- all rows.
abbrev pub system_from : ℕ → List Row → List Phase → System
system_from s rows start = record {
  State = List Phase;
  letters = letters s;
  start = start;
  step = λ phases letter. tick rows letter phases;
  broken = some_broken;
}

-- From the start.
abbrev pub table_system : ℕ → List Row → System
table_system s rows = system_from s rows (start_phases rows)

-- A row by itself, as a system: its states are its phases.
abbrev pub row_system : ℕ → Row → System
row_system s row = record {
  State = Phase;
  letters = letters s;
  start = Waiting;
  step = λ phase letter. step_row row letter phase;
  broken = is_broken;
}
