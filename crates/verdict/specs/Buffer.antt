-- A list in a lent buffer of any length.
use Rattle.std.specs.Prelude.{ℕ, List, ◌++◌, length, take, drop}

-- "The trace buffer holds it from the front, the rest unchanged": as much of the list as the buffer
-- takes, and then what the buffer held there.
abbrev pub written : List ℕ → List ℕ → List ℕ
written list buffer = take (length buffer) list ++ drop (length list) buffer
