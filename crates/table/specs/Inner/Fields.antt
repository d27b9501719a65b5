-- The fields of a row's line, as reader and writer go through them.
use Rattle.std.specs.Prelude.{ℕ, Bool, ◌&&◌, ◌||◌, leb}

-- Whether field k, counted from 0, is a bound.
abbrev pub bound_at : ℕ → Bool
bound_at k = leb 3 k && leb k 6 || leb 10 k
