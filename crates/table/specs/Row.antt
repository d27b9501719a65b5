-- A row: six conditions, kept as sets of letters, and six bounds.
use Rattle.std.specs.Prelude.{ℕ, Bool, ◌&&◌, List, [], eqb, get_or, replicate}
use Rattle.letters.specs.Letter.{in_set, set_valid}
use Rattle.letters.specs.Lists.{within, every}
use Rattle.table.specs.Limits.{most_ticks, conditions}
use Rattle.table.specs.declared.Row.{Row}

-- The places of the conditions, in the order of the fields "TSE, TC, TEE, .., ASE, AC, AEE".
abbrev pub tse : ℕ
tse = 0

abbrev pub tc : ℕ
tc = 1

abbrev pub tee : ℕ
tee = 2

abbrev pub ase : ℕ
ase = 3

abbrev pub ac : ℕ
ac = 4

abbrev pub aee : ℕ
aee = 5

-- A row's condition holds at a letter if the letter is in its set.
abbrev pub holds : Row → ℕ → ℕ → Bool
holds row condition letter = in_set (get_or row.sets condition 0) letter

-- "A bound is 0 to 60 ..; least is not above most."
abbrev pub bounds_valid : ℕ → ℕ → Bool
bounds_valid least most = within least most_ticks most

-- A row that a file with s signals can have.
unfoldable pub row_valid : ℕ → Row → Bool
row_valid s row =
    bounds_valid row.tmin row.tmax && bounds_valid row.lmin row.lmax
    && bounds_valid row.amin row.amax && every (set_valid s) row.sets

abbrev pub is_zero : ℕ → Bool
is_zero n = eqb n 0

-- "Unused .. rows of a table value are 0."
unfoldable pub row_unused : Row → Bool
row_unused row =
    is_zero row.tmin && is_zero row.tmax && is_zero row.lmin && is_zero row.lmax
    && is_zero row.amin && is_zero row.amax && every is_zero row.sets

-- Such a row: its six sets and its bounds are 0.
abbrev pub zero_row : Row
zero_row =
    let none : List ℕ = replicate conditions 0 in
    record { sets = none; tmin = 0; tmax = 0; lmin = 0; lmax = 0; amin = 0; amax = 0 }

-- What stands past the end of a list of rows.
abbrev pub no_row : Row
no_row = record { sets = []; tmin = 0; tmax = 0; lmin = 0; lmax = 0; amin = 0; amax = 0 }
