-- A signal's name, kept as its letters and then zeros.
use Rattle.std.specs.Prelude.{ℕ, suc, Bool, true, ◌&&◌, not, cond, List, [], ◌∷◌, leb, drop}
use Rattle.letters.specs.Lists.{within, every, some, same_bytes}
use Rattle.table.specs.Row.{is_zero}
use Rattle.table.specs.declared.Name.{Name}

-- The letters a-z.
abbrev pub is_lowercase : ℕ → Bool
is_lowercase b = within 97 122 b

-- How many letters stand in front.
unfoldable pub name_run : List ℕ → ℕ
name_run [] = 0
name_run (b ∷ bs) = cond (is_lowercase b) (suc (name_run bs)) 0

-- "A name has 1 to 8 letters a-z"; unused name letters are 0. There are `name_length` places.
unfoldable pub name_valid : Name → Bool
name_valid name =
    leb 1 (name_run name.chars)
    && every is_zero (drop (name_run name.chars) name.chars)

-- "Unused names .. of a table value are 0."
unfoldable pub name_unused : Name → Bool
name_unused name = every is_zero name.chars

abbrev pub same_name : Name → Name → Bool
same_name a b = same_bytes a.chars b.chars

-- No name stands twice.
unfoldable pub all_distinct : List Name → Bool
all_distinct [] = true
all_distinct (name ∷ names) = not (some (same_name name) names) && all_distinct names
