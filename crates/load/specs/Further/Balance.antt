-- What the totals of a row come to, and what is open.
use Rattle.std.specs.Prelude.{ℕ, ◌+◌, ◌≤◌, ◌≡◌}
use Rattle.step.specs.declared.Phase.{Phase}
use Rattle.step.specs.declared.Phase.TheVariants.{Delay, Action}
use Rattle.load.specs.Figures.{Sums}
use Rattle.load.specs.Figures.{Totals}

-- "For each row realised equals completed plus broken plus open"; and so of sums.
abbrev pub Balanced : Totals → Type 0
Balanced t = t.realised ≡ t.completed + t.breaks + t.pending

abbrev pub SumsBalanced : Sums → Type 0
SumsBalanced t = t.realised ≡ t.completed + t.breaks + t.pending

-- The sums with one row more.
pub record OneMore (sums : Sums) (t : Totals) (after : Sums) : Type 0 where
  pub realised : after.realised ≡ sums.realised + t.realised
  pub completed : after.completed ≡ sums.completed + t.completed
  pub breaks : after.breaks ≡ sums.breaks + t.breaks
  pub pending : after.pending ≡ sums.pending + t.pending

-- Totals of at most so many ticks: a row is open once or not.
pub record AtMost (n : ℕ) (totals : Totals) : Type 0 where
  pub realised : totals.realised ≤ n
  pub completed : totals.completed ≤ n
  pub breaks : totals.breaks ≤ n
  pub pending : totals.pending ≤ 1

-- "Open means in delay or action."
pub data Open : Phase → Type 0 where
  delay : (d : ℕ) → Open (Delay d)
  action : (a : ℕ) → Open (Action a)
