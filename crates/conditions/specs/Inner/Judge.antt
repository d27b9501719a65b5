-- What the code says of a condition: `proofs/Judging.antt` shows that it is right, and the only
-- right one.
use Rattle.std.specs.Prelude.{ℕ, ◌+◌, Bool, false, ◌||◌, cond, List, [], ◌∷◌, Option, Some, None, Result, Ok, Err, eqb, ltb}
use Rattle.table.specs.declared.Name.{Name}
use Rattle.text.specs.Words.{open_sign, close_sign}
use Rattle.conditions.specs.Depth.{most_open}
use Rattle.conditions.specs.Inner.Reading.{condition_of}
use Rattle.conditions.specs.declared.Part.{Part}

-- Two counters that run along, of o opening and c closing ones: over 8 are open after some byte.
abbrev pub is_byte : ℕ → ℕ → ℕ
is_byte b x = cond (eqb b x) 1 0

unfoldable pub deep : ℕ → ℕ → List ℕ → Bool
deep o c [] = false
deep o c (b ∷ xs) =
    let opened = o + is_byte b open_sign in
    let closed = c + is_byte b close_sign in
    ltb (closed + most_open) opened || deep opened closed xs

abbrev pub verdict_of : Option Part → Result ℕ ℕ
verdict_of (Some part) = cond part.unknown (Err 13) (Ok part.set)
verdict_of None = Err 12

unfoldable pub judge : List Name → ℕ → List ℕ → Result ℕ ℕ
judge names n xs = cond (deep 0 0 xs) (Err 11) (verdict_of (condition_of names n xs))
