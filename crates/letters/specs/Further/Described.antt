-- The letters of a set, described: nothing is computed.
use Rattle.std.specs.Prelude.{ℕ, ◌<◌, true, ◌↔◌, ◌≡◌}
use mathlib.Core.List.{List, [], ◌∷◌, Memᴰ}
use Rattle.letters.specs.Letter.{letters, in_set}

-- "Each letter that satisfies it, smallest first."
pub data Rising : List ℕ → Type 0 where
  none : Rising []
  one : {l : ℕ} → Rising (l ∷ [])
  more : {l m : ℕ} {others : List ℕ} → l < m → Rising (m ∷ others) → Rising (l ∷ m ∷ others)

pub record LettersOf (s set : ℕ) (held : List ℕ) : Type 0 where
  pub rising : Rising held
  pub exactly : (l : ℕ) → Memᴰ l held ↔ ((l < letters s) × (in_set set l ≡ true))
