-- Inputs of document 01, computed. Assumes nothing.
use Prim.Native.Char.{code}
use Prim.Native.Nat.{ℕ}
use mathlib.Core.List.{List, [], ◌∷◌, ◌++◌}
use mathlib.Core.Path.{◌≡◌, refl}
use lib.ListN.{replicate}
use Rattle.letters.specs.Letter.{bit_at, set_of}
use Rattle.letters.specs.Lists.{same_bytes}
use Rattle.table.specs.Name.{name_run}
use Rattle.conditions.specs.Condition.{name_of, place}
use Rattle.conditions.specs.Inner.Judge.{deep, judge}
use Rattle.conditions.specs.Inner.Reading.{is_at, name_at, digit_at, reads, condition_of}
use Rattle.std.specs.Prelude.{Result, Ok, Err}

abbrev a : ℕ
a = 97

abbrev b : ℕ
b = 98

-- After `signals a`, and after `signals a b`.
abbrev one_signal : List ℕ → Result ℕ ℕ
one_signal xs = judge (name_of (a ∷ []) ∷ []) 2 xs

abbrev two_signals : List ℕ → Result ℕ ℕ
two_signals xs = judge (name_of (a ∷ []) ∷ name_of (b ∷ []) ∷ []) 4 xs

-- So many parentheses round `a`.
abbrev round : ℕ → List ℕ
round n = replicate n (code "(") ++ a ∷ replicate n (code ")")

-- In this order: names, known and unknown; `a|!b`; eight letters, an unknown name, and nine, no
-- name; a wrong shape, also before an unknown name; eight and nine parentheses round `a`; `)` and
-- nine `(`, of which eight are open, and `)` and ten `(`.
examples : (one_signal (a ∷ []) ≡ Ok 2) × (two_signals (b ∷ []) ≡ Ok 12)
    × (one_signal (b ∷ []) ≡ Err 13)
    × (two_signals (a ∷ code "|" ∷ code "!" ∷ b ∷ []) ≡ Ok 11)
    × (one_signal (replicate 8 a) ≡ Err 13)
    × (one_signal (replicate 9 a) ≡ Err 12)
    × (one_signal (a ∷ code "&" ∷ []) ≡ Err 12)
    × (one_signal (b ∷ code "&" ∷ []) ≡ Err 12)
    × (one_signal (round 8) ≡ Ok 2)
    × (one_signal (round 9) ≡ Err 11)
    × (one_signal (code ")" ∷ replicate 9 (code "(")) ≡ Err 12)
    × (one_signal (code ")" ∷ replicate 10 (code "(")) ≡ Err 11)
unfolding judge deep condition_of reads digit_at name_at is_at name_run name_of place same_bytes
    bit_at set_of
examples = (refl, refl, refl, refl, refl, refl, refl, refl, refl, refl, refl, refl)
