-- Letters and sets of letters.
use Rattle.std.specs.Prelude.{ℕ, zero, suc, ◌+◌, ◌*◌, ◌/◌, ◌%◌, ◌^◌, min, Bool, true, false, cond, List, [], ◌∷◌, eqb, ltb}

-- Whether bit k of the number x is 1.
unfoldable pub bit_at : ℕ → ℕ → Bool
bit_at x k = eqb (x / 2 ^ k % 2) 1

-- "A letter is one tick's signal values as a number: the first signal counts 1, the next 2, then 4
-- and so on." Signal k, counted from 0, is on at the letter.
abbrev pub signal_on : ℕ → ℕ → Bool
signal_on letter k = bit_at letter k

-- "With s signals the letters are 0 to 2^s - 1."
abbrev pub letters : ℕ → ℕ
letters s = 2 ^ s

abbrev pub letter_valid : ℕ → ℕ → Bool
letter_valid s letter = ltb letter (letters s)

-- "A row's six conditions are kept as six sets of letters": a condition holds at the letters of its
-- set.
abbrev pub in_set : ℕ → ℕ → Bool
in_set set letter = bit_at set letter

-- No letter from 2^s on is in the set.
abbrev pub set_valid : ℕ → ℕ → Bool
set_valid s set = ltb set (2 ^ letters s)

-- A set is kept as a number of so many bits.
abbrev pub set_bits : ℕ
set_bits = 64

-- How many letters it can hold: with up to six signals all of them.
abbrev pub width : ℕ → ℕ
width s = min set_bits (letters s)

-- The letters of a set, smallest first, of the n letters from l on.
unfoldable pub members : ℕ → ℕ → ℕ → List ℕ
members zero l set = []
members (suc n) l set = let later = members n (suc l) set in cond (in_set set l) (l ∷ later) later

-- The set of the letters below n at which a test holds.
abbrev pub bit : Bool → ℕ
bit true = 1
bit false = 0

unfoldable pub set_of : ℕ → (ℕ → Bool) → ℕ
set_of zero test = 0
set_of (suc n) test = bit (test 0) + 2 * set_of n (λ l. test (suc l))
