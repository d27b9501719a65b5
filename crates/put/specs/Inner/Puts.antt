-- Bytes put into a lent buffer, place by place.
use Rattle.std.specs.Prelude.{ℕ, ◌+◌, ◌≤◌, min, List, ◌≡◌, length}
use Rattle.std.proofs.lemmas.List.Edits.{sets}

-- The last place that is counted. No buffer has it.
abbrev pub last_place : ℕ
last_place = 18446744073709551615

-- What a function that puts bytes into it from a place on answers, the place after them as far as
-- places are counted, and leaves.
pub record Puts (at : ℕ) (bytes buffer : List ℕ) (next : ℕ) (exit : List ℕ) : Type 0 where
  pub short : length buffer ≤ last_place
  pub next_is : next ≡ min (at + length bytes) last_place
  pub bytes_are : exit ≡ sets buffer at bytes
