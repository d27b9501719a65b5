-- Sets of numbers: bit i of the set is number i. Of the rows of a table, bit i is row i + 1.
use Rattle.std.specs.Prelude.{ℕ, suc, ◌<◌, true, cond, List, [], ◌∷◌, ◌↔◌, ◌≡◌}
use Rattle.letters.specs.Letter.{bit_at}

-- The set of those numbers below n of which P holds, and of no others.
abbrev pub IsSet : ℕ → (ℕ → Type 0) → ℕ → Type 0
IsSet n P set = (i : ℕ) → (bit_at set i ≡ true) ↔ ((i < n) × P i)

-- The elements of a list whose places are in a set, in their order; the first one's place is i.
unfoldable pub picked_from : {A : Type 0} → ℕ → ℕ → List A → List A
picked_from i set [] = []
picked_from i set (x ∷ xs) =
    let later = picked_from (suc i) set xs in cond (bit_at set i) (x ∷ later) later

abbrev pub picked : {A : Type 0} → ℕ → List A → List A
picked set xs = picked_from 0 set xs
