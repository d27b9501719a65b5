-- Number 14. "A bound is 0 to 60 without a leading zero": one of the 61 texts `0` to `60`.
use Prim.Native.Char.{code}
use Rattle.std.specs.Prelude.{ℕ, zero, suc, ◌+◌, ◌/◌, ◌%◌, ◌≤◌, cond, List, [], ◌∷◌, ◌++◌, ◌≡◌, ltb}
use Rattle.table.specs.Limits.{most_ticks}

-- A number in base ten, of at most k digits.
unfoldable pub digits : ℕ → ℕ → List ℕ
digits zero n = []
digits (suc k) n =
    cond (ltb n 10) ((code "0" + n) ∷ []) (digits k (n / 10) ++ ((code "0" + n % 10) ∷ []))

unfoldable pub decimal : ℕ → List ℕ
decimal n = digits (suc n) n

-- The bytes xs are the bound n.
pub record IsBound (xs : List ℕ) (n : ℕ) : Type 0 where
  pub small : n ≤ most_ticks
  pub bytes : decimal n ≡ xs
