-- Phases and their codes.
use Rattle.std.specs.Prelude.{ℕ, ◌+◌, ◌*◌, Bool, true, false}
use Rattle.table.specs.Limits.{most_ticks}
use Rattle.step.specs.declared.Phase.{Phase}
use Rattle.step.specs.declared.Phase.TheVariants.{Waiting, Trigger, Delay, Action, Broken}

-- The codes of delay and of action count on from these, and a broken row has the last one.
abbrev pub delay_codes : ℕ
delay_codes = most_ticks

abbrev pub action_codes : ℕ
action_codes = 2 * most_ticks

abbrev pub broken_code : ℕ
broken_code = 255

-- "Phase codes: 0 waiting; 1-60 trigger elapsed; 60 + elapsed for delay; 120 + elapsed for action;
-- 255 broken."
unfoldable pub code_of : Phase → ℕ
code_of Waiting = 0
code_of (Trigger t) = t
code_of (Delay d) = delay_codes + d
code_of (Action a) = action_codes + a
code_of Broken = broken_code

unfoldable pub is_broken : Phase → Bool
is_broken Waiting = false
is_broken (Trigger t) = false
is_broken (Delay d) = false
is_broken (Action a) = false
is_broken Broken = true
