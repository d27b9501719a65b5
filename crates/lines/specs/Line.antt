-- The lines that reports share: of a refusal, of a tick, and with a list of rows.
use Prim.Native.Char.{code}
use Rattle.std.specs.Prelude.{ℕ, zero, suc, ◌+◌, List, [], ◌∷◌, ◌++◌, map}
use Rattle.letters.specs.Letter.{signal_on, bit, members}
use Rattle.text.specs.Bounds.{decimal}
use Rattle.text.specs.Bytes.{bytes}
use Rattle.text.specs.Lines.{ended}

-- "`refused 13 line 3`."
abbrev pub refused_line : ℕ → ℕ → List ℕ
refused_line number line = bytes "refused " ++ decimal number ++ bytes " line " ++ decimal line

-- Document 02, asks 5 and 6: "A refused table prints its refused line alone."
abbrev pub refused_text : ℕ → ℕ → List ℕ
refused_text number line = ended (refused_line number line ∷ [])

-- The values of n signals from signal k on, `0` or `1` each.
unfoldable pub signal_values : ℕ → ℕ → ℕ → List ℕ
signal_values zero k letter = []
signal_values (suc n) k letter = (code "0" + bit (signal_on letter k)) ∷ signal_values n (suc k) letter

-- "A tick line has the tick's number from 1 and each signal's value in file order."
abbrev pub tick_line : ℕ → ℕ → ℕ → List ℕ
tick_line signals tick letter =
    bytes "tick " ++ decimal tick ++ (bytes " " ++ signal_values signals 0 letter)

unfoldable pub tick_lines : ℕ → ℕ → List ℕ → List (List ℕ)
tick_lines signals tick [] = []
tick_lines signals tick (letter ∷ more) =
    tick_line signals tick letter ∷ tick_lines signals (suc tick) more

-- The numbers of the rows in a set, in file order, of n rows from bit r on: bit r is row r + 1.
abbrev pub row_numbers : ℕ → ℕ → ℕ → List ℕ
row_numbers n r set = map suc (members n r set)

-- Document 02, ask 2: "each row number after a space, or" a dash where there is none.
unfoldable pub spaced : List ℕ → List ℕ
spaced [] = []
spaced (number ∷ more) = bytes " " ++ decimal number ++ spaced more

unfoldable pub spaced_or_dash : List ℕ → List ℕ
spaced_or_dash [] = bytes " -"
spaced_or_dash (number ∷ more) = spaced (number ∷ more)
