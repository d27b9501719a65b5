-- "11, 12, 13 over the whole condition", in this order.
use Rattle.std.specs.Prelude.{ℕ, Bool, true, false, List, Result, Ok, Err}
use Rattle.table.specs.declared.Name.{Name}
use Rattle.conditions.specs.Condition.{ConditionMeans}
use Rattle.conditions.specs.Depth.{Shallow, TooDeep}

module _ (names : List Name) (n : ℕ) (xs : List ℕ) where
  -- A condition in the grammar, not too deep, with known names only; v is the set of the letters at
  -- which it holds, of the first n.
  pub record IsCondition (v : ℕ) : Type 0 where
    pub shallow : Shallow xs
    pub means : ConditionMeans names n xs v false

  -- What is to be said of the bytes xs.
  pub data RightCondition : Result ℕ ℕ → Type 0 where
    is11 : TooDeep xs → RightCondition (Err 11)
    is12 : Shallow xs → ((v : ℕ) (u : Bool) → ConditionMeans names n xs v u → ⊥)
        → RightCondition (Err 12)
    is13 : {v : ℕ} → Shallow xs → ConditionMeans names n xs v true → RightCondition (Err 13)
    is_set : {v : ℕ} → IsCondition v → RightCondition (Ok v)
