-- Codes and the phases that they give; number 18 over codes.
use Rattle.std.specs.Prelude.{ℕ, ◌+◌, ◌-◌, Bool, false, ◌&&◌, ◌||◌, cond, List, [], ◌∷◌, leb, ltb, eqb}
use Rattle.letters.specs.Lists.{within, every}
use Rattle.table.specs.declared.Row.{Row}
use Rattle.step.specs.declared.Phase.{Phase}
use Rattle.step.specs.declared.Phase.TheVariants.{Waiting, Trigger, Delay, Action, Broken}
use Rattle.step.specs.Phase.{delay_codes, action_codes, broken_code}

-- The phase of a code. From 181 to 254 there is no phase of a row: the action there is longer than
-- any bound.
unfoldable pub phase_of : ℕ → Phase
phase_of c =
    cond (eqb c 0) Waiting
    (cond (leb c delay_codes) (Trigger c)
    (cond (leb c action_codes) (Delay (c - delay_codes))
    (cond (ltb c broken_code) (Action (c - action_codes)) Broken)))

-- "A row's code is not 0, 255, nor trigger, delay or action with 1 to Tmax, Lmax or Amax ticks; or
-- an unused row's code is not 0."
unfoldable pub code_valid : Row → ℕ → Bool
code_valid row c =
    eqb c 0 || eqb c broken_code || within 1 row.tmax c
    || within (delay_codes + 1) (delay_codes + row.lmax) c
    || within (action_codes + 1) (action_codes + row.amax) c

unfoldable pub codes_valid : List Row → List ℕ → Bool
codes_valid [] codes = every (λ c. eqb c 0) codes
codes_valid (row ∷ rows) [] = false
codes_valid (row ∷ rows) (c ∷ codes) = code_valid row c && codes_valid rows codes
