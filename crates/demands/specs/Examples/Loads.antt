-- Document 02, ask 5, worked: the first numbers and letters of a load, and what rows did in it.
use Rattle.std.specs.Prelude.{ℕ, List, [], ◌∷◌, ◌≡◌}
use Rattle.table.specs.declared.Row.{Row}
use Rattle.text.specs.Bytes.{bytes}
use Rattle.text.specs.Lines.{ended}
use Rattle.load.specs.Figures.{Totals}
use Rattle.load.specs.Load.{numbers_from, load_of, totals_of}
use Rattle.demands.specs.Examples.Cases.{timed, P, Q, S}

-- "Takes .. ticks from 1": the first numbers, and the first letters with so many signals.
pub record FirstNumbers : Type 0 where
  pub numbers :
      numbers_from 1 4 ≡ 1015568748 ∷ 1586005467 ∷ 2165703038 ∷ 3027450565 ∷ []
  pub six : load_of 6 1 5 ≡ 15 ∷ 23 ∷ 32 ∷ 45 ∷ 3 ∷ []
  pub two : load_of 2 1 5 ≡ 3 ∷ 3 ∷ 0 ∷ 1 ∷ 3 ∷ []
  pub one : load_of 1 1 5 ≡ 1 ∷ 1 ∷ 0 ∷ 1 ∷ 1 ∷ []
  pub none : load_of 0 1 5 ≡ 0 ∷ 0 ∷ 0 ∷ 0 ∷ 0 ∷ []

-- A row with so many signals, and its totals after so many ticks from 1: realised, completed,
-- breaks, open.
pub record LoadCase : Type 0 where
  pub signals : ℕ
  pub row : Row
  pub ticks : ℕ
  pub totals : Totals

abbrev after : ℕ → Row → ℕ → ℕ → ℕ → ℕ → ℕ → LoadCase
after signals row ticks realised completed breaks pending = record {
  signals = signals;
  row = row;
  ticks = ticks;
  totals = record {
    realised = realised;
    completed = completed;
    breaks = breaks;
    pending = pending;
  };
}

abbrev pub LoadCaseMeans : LoadCase → Type 0
LoadCaseMeans case =
    totals_of case.signals case.row (load_of case.signals 1 case.ticks) ≡ case.totals

-- The conditions of one signal as sets of its two letters: `a`, `!a` and `1`.
abbrev a : ℕ
a = 2

abbrev not_a : ℕ
not_a = 1

abbrev always : ℕ
always = 3

-- `a,a,!a,1,2,0,0,1,1,1,0,0`, whose trigger begins again as it aborts; and three rows of one table,
-- of which the first breaks early: `a,a,a,0,0,0,0,!a,!a,!a,0,0`, `1,1,1,0,0,0,0,1,1,1,0,0` and
-- `a,a,a,0,0,1,1,1,1,1,0,0`.
abbrev again : Row
again = timed (a ∷ a ∷ not_a ∷ always ∷ always ∷ always ∷ []) 1 2 0 0 0 0

abbrev early : Row
early = timed (a ∷ a ∷ a ∷ not_a ∷ not_a ∷ not_a ∷ []) 0 0 0 0 0 0

abbrev standing : Row
standing = timed (always ∷ always ∷ always ∷ always ∷ always ∷ always ∷ []) 0 0 0 0 0 0

abbrev late : Row
late = timed (a ∷ a ∷ a ∷ always ∷ always ∷ always ∷ []) 0 0 1 1 0 0

unfoldable pub load_cases : List LoadCase
load_cases =
    after 2 P 0 0 0 0 0
    ∷ after 2 Q 0 0 0 0 0
    ∷ after 2 S 0 0 0 0 0
    ∷ after 2 P 1 1 0 0 1
    ∷ after 2 Q 1 0 0 0 0
    ∷ after 2 S 1 1 0 0 1
    ∷ after 2 P 6 3 2 0 1
    ∷ after 2 Q 6 1 0 1 0
    ∷ after 2 S 6 2 1 1 0
    ∷ after 1 again 1000 268 268 0 0
    ∷ after 1 early 1000 1 0 1 0
    ∷ after 1 standing 1000 1000 1000 0 0
    ∷ after 1 late 1000 342 341 0 1
    ∷ []

-- What `loadtable` prints of the paper's table of two rows.
abbrev pub whole_totals : List ℕ
whole_totals =
    ended (bytes "row 1 3 2 1 0" ∷ bytes "row 2 1 0 1 0" ∷ bytes "total 4 2 2 0" ∷ [])

-- And of the table of `text_p`, `text_not_c` and `text_late`, whose four sums differ.
abbrev pub three_totals : List ℕ
three_totals =
    ended (bytes "row 1 3 2 1 0" ∷ bytes "row 2 1 0 1 0" ∷ bytes "row 3 342 341 0 1"
    ∷ bytes "total 346 343 2 1" ∷ [])
