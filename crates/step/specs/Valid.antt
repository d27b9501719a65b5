-- Number 18: states that the step rules can be in.
use Rattle.std.specs.Prelude.{Bool, true, false, ◌&&◌, List, [], ◌∷◌}
use Rattle.letters.specs.Lists.{within, every}
use Rattle.table.specs.declared.Row.{Row}
use Rattle.step.specs.declared.Phase.{Phase}
use Rattle.step.specs.declared.Phase.TheVariants.{Waiting, Trigger, Delay, Action, Broken}

-- "A row's code is not 0, 255, nor trigger, delay or action with 1 to Tmax, Lmax or Amax ticks";
-- said of phases. Over codes it is in `further/Codes`.
unfoldable pub phase_valid : Row → Phase → Bool
phase_valid row Waiting = true
phase_valid row (Trigger t) = within 1 row.tmax t
phase_valid row (Delay d) = within 1 row.lmax d
phase_valid row (Action a) = within 1 row.amax a
phase_valid row Broken = true

unfoldable pub is_waiting : Phase → Bool
is_waiting Waiting = true
is_waiting (Trigger t) = false
is_waiting (Delay d) = false
is_waiting (Action a) = false
is_waiting Broken = false

-- Over rows of any number: each row has a phase that fits it, and "an unused row's code" is 0.
unfoldable pub phases_valid : List Row → List Phase → Bool
phases_valid [] phases = every is_waiting phases
phases_valid (row ∷ rows) [] = false
phases_valid (row ∷ rows) (phase ∷ phases) = phase_valid row phase && phases_valid rows phases
