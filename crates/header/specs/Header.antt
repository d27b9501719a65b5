-- Lines 1 and 2.
use Prim.Native.Char.{code}
use Rattle.std.specs.Prelude.{ℕ, ◌-◌, ◌≤◌, Bool, true, ◌&&◌, ◌||◌, List, ◌∷◌, ◌++◌, map, ◌≡◌, leb, length, replicate}
use Rattle.letters.specs.Lists.{every}
use Rattle.table.specs.Limits.{most_signals, name_length}
use Rattle.table.specs.declared.Name.{Name}
use Rattle.text.specs.Lines.{space, joined, All}
use Rattle.text.specs.Words.{PNP, version_digits, signals_word}
use Rattle.text.specs.declared.Version.{Version}
use Rattle.conditions.specs.Condition.{IsName, name_of}

-- "Line 1 is `PNP ` and the 16-bit version as four digits 0-9, A-F (base 16): `PNP 0001`."
abbrev pub is_digit16 : ℕ → Bool
is_digit16 b = leb (code "0") b && leb b (code "9") || leb (code "A") b && leb b (code "F")

pub record IsHeader (line version : List ℕ) : Type 0 where
  pub line_is : line ≡ PNP ++ version
  pub four : length version ≡ 4
  pub digits : every is_digit16 version ≡ true

-- Line 1 of a file of a version that is read.
abbrev pub version_line : Version → List ℕ
version_line version = PNP ++ version_digits version

-- "Line 2 is `signals`, then a space and a name for each signal."
pub record IsSignals (line : List ℕ) (names : List (List ℕ)) : Type 0 where
  pub line_is : line ≡ joined space (signals_word ∷ names)
  pub some : 1 ≤ length names
  pub named : All IsName names

-- The names as a table value keeps them: unused ones are 0.
abbrev pub no_name : Name
no_name = record { chars = replicate name_length 0 }

abbrev pub names_from : List (List ℕ) → List Name
names_from names = map name_of names ++ replicate (most_signals - length names) no_name
