-- A row's line computed: its number, and what it gives.
use Rattle.std.specs.Prelude.{ℕ, ◌+◌, ◌<◌, Bool, ◌&&◌, cond, List, [], ◌∷◌, Option, Some, None, Result, Ok, Err, leb, eqb, get_or, drop}
use Rattle.table.specs.Inner.Fields.{bound_at}
use Rattle.table.specs.declared.Name.{Name}
use Rattle.table.specs.declared.Row.{Row}
use Rattle.text.specs.Lines.{comma, count}
use Rattle.text.specs.Words.{rule_word}
use Rattle.text.specs.declared.Version.{Version}
use Rattle.text.specs.Inner.Cut.{starts_with, split}
use Rattle.text.specs.Inner.Bounds.{bound_of}
use Rattle.conditions.specs.Inner.Judge.{judge}
use Rattle.rows.specs.declared.RowRead.{RowRead}

-- What a field gives: 14 for a bound, 11, 12, 13 for a condition.
abbrev pub ticks_field : Option ℕ → Result ℕ ℕ
ticks_field (Some n) = Ok n
ticks_field None = Err 14

unfoldable pub field_of : List Name → ℕ → ℕ → List ℕ → Result ℕ ℕ
field_of names n k xs = cond (bound_at k) (ticks_field (bound_of xs)) (judge names n xs)

-- The fields from the left, the first of which has number k; and what they hold, or the first
-- number among them.
unfoldable pub fields_of : List Name → ℕ → ℕ → List (List ℕ) → List (Result ℕ ℕ)
fields_of names n k [] = []
fields_of names n k (xs ∷ more) = field_of names n k xs ∷ fields_of names n (k + 1) more

abbrev pub before : ℕ → Result (List ℕ) ℕ → Result (List ℕ) ℕ
before v (Ok values) = Ok (v ∷ values)
before v (Err m) = Err m

unfoldable pub all_values : List (Result ℕ ℕ) → Result (List ℕ) ℕ
all_values [] = Ok []
all_values (Ok v ∷ fields) = before v (all_values fields)
all_values (Err m ∷ fields) = Err m

-- A row of the values of its fields.
abbrev pub sets_from : List ℕ → List ℕ
sets_from v = get_or v 0 0 ∷ get_or v 1 0 ∷ get_or v 2 0 ∷ get_or v 7 0 ∷ get_or v 8 0 ∷ get_or v 9 0 ∷ []

abbrev pub bounds_from : List ℕ → List ℕ
bounds_from v = get_or v 3 0 ∷ get_or v 4 0 ∷ get_or v 5 0 ∷ get_or v 6 0 ∷ get_or v 10 0 ∷ get_or v 11 0 ∷ []

-- The bounds among the values fit in a byte.
abbrev pub BoundsFit : List ℕ → Type 0
BoundsFit v =
    (get_or v 3 0 < 256) × (get_or v 4 0 < 256) × (get_or v 5 0 < 256) × (get_or v 6 0 < 256)
    × (get_or v 10 0 < 256) × (get_or v 11 0 < 256)

abbrev pub row_from : List ℕ → List ℕ → Row
row_from sets bounds = record {
  sets = sets;
  tmin = get_or bounds 0 0;
  tmax = get_or bounds 1 0;
  lmin = get_or bounds 2 0;
  lmax = get_or bounds 3 0;
  amin = get_or bounds 4 0;
  amax = get_or bounds 5 0;
}

-- Least is not above most, for T, L, A.
abbrev pub bounds_ordered : List ℕ → Bool
bounds_ordered b =
    leb (get_or b 0 0) (get_or b 1 0) && leb (get_or b 2 0) (get_or b 3 0) && leb (get_or b 4 0) (get_or b 5 0)

-- What the values come to.
abbrev pub judged_row : List ℕ → Result RowRead ℕ
judged_row v =
    cond (bounds_ordered (bounds_from v)) (Ok (record { sets = sets_from v; bounds = bounds_from v }))
    (Err 15)

abbrev pub judged_values : Result (List ℕ) ℕ → Result RowRead ℕ
judged_values (Ok v) = judged_row v
judged_values (Err m) = Err m

-- 10, then the fields from the left, then 15, in a file of any version.
abbrev pub rule_shaped : List ℕ → Bool
rule_shaped line = starts_with rule_word line && eqb (count comma line) 11

unfoldable pub row_fields : List (Result ℕ ℕ) → Result RowRead ℕ
row_fields fields = judged_values (all_values fields)

abbrev pub line_fields : List Name → ℕ → List ℕ → List (Result ℕ ℕ)
line_fields names n line = fields_of names n 0 (split comma (drop 5 line))

unfoldable pub row_answer : List Name → ℕ → Version → List ℕ → Result RowRead ℕ
row_answer names n version line =
    cond (rule_shaped line) (row_fields (line_fields names n line)) (Err 10)
