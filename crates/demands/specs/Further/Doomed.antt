-- Which entry of the scratch is shown.
use Rattle.std.specs.Prelude.{ℕ, ◌<◌, List, ◌≡◌, get_or}

-- "The earliest doomed entry's trace" w, with its lost number k.
pub record EarliestDoomed (n : ℕ) (trace : ℕ → List ℕ) (lost : List ℕ) (w : List ℕ) (k : ℕ)
    : Type 0 where
  pub entry : ℕ
  pub low : entry < n
  pub leads : trace entry ≡ w
  pub number : get_or lost entry 0 ≡ k
  pub first : (e : ℕ) → e < entry → get_or lost e 0 ≡ 0
