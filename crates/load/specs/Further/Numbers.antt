-- The load, described: its numbers as a sequence, and the letter of each tick.
use Rattle.std.specs.Prelude.{ℕ, suc, ◌+◌, ◌*◌, ◌/◌, ◌%◌, ◌^◌, ◌<◌, List, ◌≡◌, length, get_or}

-- "The load starts from a given 32-bit number; each tick it becomes its product with 1,664,525 plus
-- 1,013,904,223, modulo 2^32, and the letter is the number divided by 2^26, rounded down, modulo
-- the number of letters." Tick k, counted from 0, has the number after its change.
pub record IsLoad (s start ticks : ℕ) (w : List ℕ) : Type 0 where
  pub number : ℕ → ℕ
  pub starts : number 0 ≡ start
  pub changes : (k : ℕ) → number (suc k) ≡ (number k * 1664525 + 1013904223) % 2 ^ 32
  pub long : length w ≡ ticks
  pub letter : (k : ℕ) → k < ticks → get_or w k 0 ≡ number (suc k) / 2 ^ 26 % 2 ^ s
