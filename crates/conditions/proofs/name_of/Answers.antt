-- `conditions::name_of` meets its contract. Assumes nothing.
use Prim.Native.Nat.{ℕ, min}
use mathlib.Core.Path.{ap, ◌∙◌}
use Rattle.conditions.proofs.Names.{name_of_front}
use Rattle.conditions.proofs.name_of.Goals as goal

pub returns : goal.returns
returns c =
    rw c.copy_from_slice.ensures.after
    (name_of_front _ _ (c.min-n.ensures ∙ ap (λ (k : ℕ). min k 8) c.min.ensures))
