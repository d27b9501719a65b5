-- Number 11. "At most 8 parentheses are open at one place." "Parentheses open are opening less
-- closing ones before any place, the end of the condition included."
use Rattle.std.specs.Prelude.{ℕ, ◌+◌, ◌≤◌, ◌<◌, List, take}
use Rattle.text.specs.Lines.{count}
use Rattle.text.specs.Words.{open_sign, close_sign}

abbrev pub most_open : ℕ
most_open = 8

-- Opening less closing ones are at most 8 before each place; or over 8 before some place.
pub record Shallow (xs : List ℕ) : Type 0 where
  pub upto : (i : ℕ) → count (open_sign) (take i xs) ≤ count (close_sign) (take i xs) + most_open

pub record TooDeep (xs : List ℕ) : Type 0 where
  pub place : ℕ
  pub over : count (close_sign) (take place xs) + most_open < count (open_sign) (take place xs)
