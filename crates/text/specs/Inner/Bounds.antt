-- The bound that bytes are, found by their digits.
use Rattle.std.specs.Prelude.{ℕ, ◌+◌, ◌-◌, ◌*◌, ◌&&◌, cond, List, [], ◌∷◌, leb, Option, Some, None}
use Rattle.letters.specs.Lists.{within}
use Rattle.table.specs.Limits.{most_ticks}

abbrev pub one_digit : ℕ → Option ℕ
one_digit a = cond (within 48 57 a) (Some (a - 48)) None

abbrev pub two_digits : ℕ → ℕ → Option ℕ
two_digits a b =
    cond (within 49 57 a && within 48 57 b && leb (10 * (a - 48) + (b - 48)) most_ticks)
    (Some (10 * (a - 48) + (b - 48))) None

unfoldable pub bound_of : List ℕ → Option ℕ
bound_of [] = None
bound_of (a ∷ []) = one_digit a
bound_of (a ∷ b ∷ []) = two_digits a b
bound_of (a ∷ b ∷ c ∷ xs) = None
