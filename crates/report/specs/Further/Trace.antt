-- The trace of what is found, in its buffer.
use Rattle.std.specs.Prelude.{ℕ, ◌≤◌, true, List, ◌≡◌, length, take}
use Rattle.letters.specs.Letter.{letter_valid}
use Rattle.letters.specs.Lists.{every}
use Rattle.verdict.specs.Found.{Found, values_of}

-- The trace of what is found is all in the buffer, with letters of the table.
pub record TraceInBuffer (signals : ℕ) (buffer : List ℕ) (found : Found) : Type 0 where
  pub whole : (values_of found).length ≤ length buffer
  pub letters : every (letter_valid signals) (take (values_of found).length buffer) ≡ true
