-- "First boards", the starred cases: signals `a c`, and the phase of a row after the letters, or
-- what the search says of a table.
use Rattle.std.specs.Prelude.{ℕ, ◌-◌, ◌≤◌, Bool, true, false, not, ◌&&◌, ◌||◌, List, [], ◌∷◌, ◌≡◌, eqb, length, replicate}
use Rattle.letters.specs.Letter.{signal_on, set_of}
use Rattle.letters.specs.Lists.{same_bytes}
use Rattle.table.specs.Limits.{most_rows}
use Rattle.table.specs.Valid.{table_valid, rows_of}
use Rattle.table.specs.declared.Row.{Row}
use Rattle.table.specs.declared.Table.{Table}
use Rattle.traces.specs.Trace.{run}
use Rattle.traces.specs.Inner.Judgement.{Judgement, judge}
use Rattle.traces.specs.Inner.Judgement.Judgement.{too_many, sound, trapped}
use Rattle.step.specs.declared.Phase.TheVariants.{Waiting}
use Rattle.step.specs.declared.Events.{Events}
use Rattle.step.specs.Phase.{code_of}
use Rattle.step.specs.Step.{step_row}
use Rattle.step.specs.Events.{events_of, row_events}
use Rattle.step.specs.Tick.{row_system, table_system}
use Rattle.watcher.specs.declared.Counts.{Counts}
use Rattle.watcher.specs.Counts.{no_counts}
use Rattle.search.specs.Inner.Same.{same_phases}
use Rattle.verdict.specs.declared.RowLists.{RowLists}
use Rattle.verdict.specs.Found.{trapped_found}
use Rattle.search.specs.Lent.{Lent, room_of, traced}
use Rattle.search.specs.Inner.Computed.{never_within, search_answer}
use Rattle.demands.specs.Searching.{RightLists, Entered}

-- The conditions of the rows, as sets of the four letters.
abbrev a : ℕ
a = set_of 4 (λ letter. signal_on letter 0)

abbrev c : ℕ
c = set_of 4 (λ letter. signal_on letter 1)

abbrev not_c : ℕ
not_c = set_of 4 (λ letter. not (signal_on letter 1))

abbrev never : ℕ
never = set_of 4 (λ letter. false)

abbrev always : ℕ
always = set_of 4 (λ letter. true)

-- A row by its sets and its bounds, Tmin to Amax.
abbrev pub timed : List ℕ → ℕ → ℕ → ℕ → ℕ → ℕ → ℕ → Row
timed sets tmin tmax lmin lmax amin amax = record {
  sets = sets;
  tmin = tmin;
  tmax = tmax;
  lmin = lmin;
  lmax = lmax;
  amin = amin;
  amax = amax;
}

-- P is `a,a,a,0,0,1,1,c,c,c,0,0`.
abbrev pub P : Row
P = timed (a ∷ a ∷ a ∷ c ∷ c ∷ c ∷ []) 0 0 1 1 0 0

-- Q is `a,a,c,2,3,0,0,0,0,0,0,0`.
abbrev pub Q : Row
Q = timed (a ∷ a ∷ c ∷ never ∷ never ∷ never ∷ []) 2 3 0 0 0 0

-- S is `a,a,a,0,0,0,0,1,c,a,1,2`.
abbrev pub S : Row
S = timed (a ∷ a ∷ a ∷ always ∷ c ∷ a ∷ []) 0 0 0 0 1 2

-- "The report's table": P, and `a,a,a,0,0,1,1,!c,!c,!c,0,0`.
abbrev without_c : Row
without_c = timed (a ∷ a ∷ a ∷ not_c ∷ not_c ∷ not_c ∷ []) 0 0 1 1 0 0

abbrev pub report : List Row
report = P ∷ timed (a ∷ a ∷ a ∷ not_c ∷ not_c ∷ not_c ∷ []) 0 0 1 1 0 0 ∷ []

-- "One row `a,a,a,0,0,0,3,0,0,0,0,0`."
abbrev pub delayed : List Row
delayed = timed (a ∷ a ∷ a ∷ never ∷ never ∷ never ∷ []) 0 0 0 3 0 0 ∷ []

-- A sound table in which two rows never fire, `0,0,0,0,0,0,0,0,0,0,0,0` each; and the report's table
-- with a row that is never broken, `a,a,a,0,0,1,1,1,1,1,0,0`.
abbrev nothing : Row
nothing = timed (never ∷ never ∷ never ∷ never ∷ never ∷ never ∷ []) 0 0 0 0 0 0

abbrev pub around : List Row
around = nothing ∷ P ∷ nothing ∷ []

abbrev pub three : List Row
three = P ∷ without_c ∷ timed (a ∷ a ∷ a ∷ always ∷ always ∷ always ∷ []) 0 0 1 1 0 0 ∷ []

-- A row, the letters that it reads from the start, and the code of its phase then; or the rows of a
-- table that is trapped, the trace, the lost number and the count of states. Each row of such a
-- table fires.
pub data Case : Type 0 where
  after : Row → List ℕ → ℕ → Case
  traps : List Row → List ℕ → ℕ → ℕ → Case

unfoldable pub trapped_with : List ℕ → ℕ → ℕ → Judgement → Bool
trapped_with w k n too_many = false
trapped_with w k n (sound m) = false
trapped_with w k n (trapped m v j) = same_bytes v w && eqb j k && eqb m n

-- What is computed: a room of 8 is enough.
unfoldable pub is_right : Case → Bool
is_right (after row letters code) = eqb (code_of (run (row_system 2 row) Waiting letters)) code
is_right (traps rows w k n) =
    trapped_with w k n (judge (table_system 2 rows) same_phases 8) && eqb (never_within 8 2 rows) 0

-- No row is listed.
abbrev pub no_rows : RowLists
no_rows = record { never = 0 }

-- What it means: the phase after the letters; or the whole answer of the search, for every table
-- value with those rows and all lent memory that holds the states and the trace.
abbrev pub CaseMeans : Case → Type 0
CaseMeans (after row letters code) = code_of (run (row_system 2 row) Waiting letters) ≡ code
CaseMeans (traps rows w k n) = (table : Table) (lent : Lent) → table_valid table ≡ true
    → table.signals ≡ 2 → rows_of table ≡ rows → n ≤ room_of lent
    → length w ≤ length lent.trace
    → (held : Lent) × Entered table n lent held
    × (search_answer table lent
    ≡ record { found = trapped_found n no_rows w k; lent = traced w held })

unfoldable pub starred : List Case
starred =
    after P [] 0
    ∷ after P (1 ∷ []) 61
    ∷ after P (1 ∷ 2 ∷ []) 0
    ∷ after P (1 ∷ 0 ∷ []) 255
    ∷ after P (1 ∷ 3 ∷ []) 0
    ∷ after Q (1 ∷ 1 ∷ 3 ∷ []) 255
    ∷ after Q (1 ∷ 3 ∷ []) 2
    ∷ after Q (1 ∷ 1 ∷ 1 ∷ 1 ∷ []) 1
    ∷ after Q (1 ∷ 1 ∷ 1 ∷ 3 ∷ []) 255
    ∷ after Q (1 ∷ 0 ∷ []) 0
    ∷ after S (3 ∷ []) 121
    ∷ after S (1 ∷ []) 255
    ∷ after S (3 ∷ 3 ∷ []) 0
    ∷ after S (3 ∷ 2 ∷ 2 ∷ []) 255
    ∷ traps report (1 ∷ []) 1 2
    ∷ traps delayed (1 ∷ []) 3 4
    ∷ []

-- Document 02, asks 1 and 4: a row, the letters that it reads from the start, one letter more, the
-- code of its phase then, and what happened at that letter.
pub record EventCase : Type 0 where
  pub row : Row
  pub letters : List ℕ
  pub last : ℕ
  pub code : ℕ
  pub events : Events

abbrev happened : Row → List ℕ → ℕ → ℕ → Events → EventCase
happened row letters last code events =
    record { row = row; letters = letters; last = last; code = code; events = events }

abbrev pub EventCaseMeans : EventCase → Type 0
EventCaseMeans case =
    let phase = run (row_system 2 case.row) Waiting case.letters in
    (code_of (step_row case.row case.last phase) ≡ case.code)
    × (row_events case.row case.last phase ≡ case.events)

-- `a,0,0,0,0,0,0,a,a,a,0,0` and `1,1,1,0,0,0,0,a,a,a,0,0`.
abbrev dropped : Row
dropped = timed (a ∷ never ∷ never ∷ a ∷ a ∷ a ∷ []) 0 0 0 0 0 0

abbrev at_once : Row
at_once = timed (always ∷ always ∷ always ∷ a ∷ a ∷ a ∷ []) 0 0 0 0 0 0

-- A trigger that `a` starts and `c` holds, `a,c,0,0,3,0,0,0,0,0,0,0`; and one whose action is over
-- at once, `a,a,c,1,3,0,0,1,1,1,0,0`.
abbrev held_by_c : Row
held_by_c = timed (a ∷ c ∷ never ∷ never ∷ never ∷ never ∷ []) 0 3 0 0 0 0

abbrev quick : Row
quick = timed (a ∷ a ∷ c ∷ always ∷ always ∷ always ∷ []) 1 3 0 0 0 0

-- The events in order: started, realised, aborted, action started, completed, broken.
unfoldable pub event_cases : List EventCase
event_cases =
    happened P [] 1 61 (events_of true true false false false false)
    ∷ happened P (1 ∷ []) 2 0 (events_of false false false true true false)
    ∷ happened P (1 ∷ []) 0 255 (events_of false false false false false true)
    ∷ happened P (1 ∷ 0 ∷ []) 1 255 (events_of false false false false false false)
    ∷ happened Q (1 ∷ 1 ∷ []) 3 255 (events_of false true false false false true)
    ∷ happened S [] 1 255 (events_of true true false true false true)
    ∷ happened dropped [] 1 0 (events_of true false true false false false)
    ∷ happened at_once [] 1 0 (events_of true true false true true false)
    ∷ happened at_once (1 ∷ []) 0 255 (events_of true true false false false true)
    ∷ happened Q (1 ∷ 1 ∷ 1 ∷ []) 1 1 (events_of true false true false false false)
    ∷ happened Q (1 ∷ 1 ∷ 1 ∷ 1 ∷ 1 ∷ []) 3 255 (events_of false true false false false true)
    ∷ happened Q (1 ∷ []) 2 0 (events_of false false true false false false)
    ∷ happened held_by_c (3 ∷ []) 1 0 (events_of true false true false false false)
    ∷ happened held_by_c (3 ∷ 1 ∷ []) 1 0 (events_of true false true false false false)
    ∷ happened quick (1 ∷ []) 3 0 (events_of false true false true true false)
    ∷ []

-- How often each event happened to the rows of a table in a trace that is played:
-- `a,a,!c,0,0,1,2,1,!a,c,1,1` and `c,c,!c,1,2,1,2,a,1,a,0,0`. No two events happened equally often
-- to both.
abbrev not_a : ℕ
not_a = set_of 4 (λ letter. not (signal_on letter 0))

abbrev pub played_rows : List Row
played_rows = timed (a ∷ a ∷ not_c ∷ always ∷ not_a ∷ c ∷ []) 0 0 1 2 1 1
    ∷ timed (c ∷ c ∷ not_c ∷ a ∷ always ∷ a ∷ []) 1 2 1 2 0 0 ∷ []

abbrev pub played_trace : List ℕ
played_trace =
    2 ∷ 1 ∷ 2 ∷ 3 ∷ 2 ∷ 3 ∷ 2 ∷ 2 ∷ 2 ∷ 3 ∷ 3 ∷ 3 ∷ 1 ∷ 2 ∷ []

abbrev pub played_counts : List Counts
played_counts =
    record { started = 6; realised = 2; aborted = 4; acting = 2; completed = 1; broken = 0 }
    ∷ record { started = 5; realised = 2; aborted = 3; acting = 1; completed = 1; broken = 0 }
    ∷ replicate (most_rows - 2) no_counts

-- Document 02, ask 2: the rows of a table, of at most 8 states, and the numbers of those that never
-- fire, as a set: bit i is row i + 1.
pub record ListCase : Type 0 where
  pub rows : List Row
  pub never : ℕ

abbrev lists : List Row → ℕ → ListCase
lists rows never = record { rows = rows; never = never }

-- What it means: what is right of these rows is this list.
abbrev pub ListCaseMeans : ListCase → Type 0
ListCaseMeans case = RightLists 2 case.rows (record { never = case.never })

-- Conditions on both signals.
abbrev both : ℕ
both = set_of 4 (λ letter. signal_on letter 0 && signal_on letter 1)

abbrev not_both : ℕ
not_both = set_of 4 (λ letter. not (signal_on letter 0 && signal_on letter 1))

-- A row that is realised at once, with an action of one condition that starts within some ticks.
abbrev instant : ℕ → ℕ → ℕ → Row
instant trigger lmax action =
    timed (trigger ∷ trigger ∷ trigger ∷ action ∷ action ∷ action ∷ []) 0 0 0 lmax 0 0

-- Document 02, ask 4: a table that is trapped only since a trigger may begin again as it aborts.
-- `a,a,!a,1,2,0,0,c,c,1,1,1`, and `a,a,a,0,0,3,3,N,N,N,0,0` with `!a&!c` for N.
abbrev neither : ℕ
neither = set_of 4 (λ letter. not (signal_on letter 0 || signal_on letter 1))

abbrev pub pressed : List Row
pressed = timed (a ∷ a ∷ not_a ∷ c ∷ c ∷ always ∷ []) 1 2 0 0 1 1
    ∷ timed (a ∷ a ∷ a ∷ neither ∷ neither ∷ neither ∷ []) 0 0 3 3 0 0 ∷ []

abbrev pub pressed_case : Case
pressed_case = traps pressed (1 ∷ 1 ∷ 1 ∷ []) 1 7

-- A row with such a trigger makes the other one impossible: `a,a,c,1,1,1,1,a&c,D,D,0,1` with
-- `!(!a&!c)` for D, and `a,a,a&c,1,1,0,0,!c,a,c,1,1`. And two triggers that begin again and again:
-- `1,1,0,0,2,0,0,0,0,0,0,0` and `1,1,0,0,3,0,0,0,0,0,0,0`.
abbrev either : ℕ
either = set_of 4 (λ letter. signal_on letter 0 || signal_on letter 1)

abbrev shut_out : List Row
shut_out = timed (a ∷ a ∷ c ∷ both ∷ either ∷ either ∷ []) 1 1 1 1 0 1
    ∷ timed (a ∷ a ∷ both ∷ not_c ∷ a ∷ c ∷ []) 1 1 0 0 1 1 ∷ []

abbrev idle : ℕ → Row
idle tmax = timed (always ∷ always ∷ never ∷ never ∷ never ∷ never ∷ []) 0 tmax 0 0 0 0

-- Q breaks in the tick in which it is realised; a row that another makes impossible; one that is
-- realised only where another breaks; one that fires in doomed states alone; one whose trigger
-- cannot end; two that break each other at the start; and the two tables above.
unfoldable pub list_cases : List ListCase
list_cases =
    lists (Q ∷ []) 1
    ∷ lists (instant always 0 not_both ∷ instant both 5 always ∷ []) 2
    ∷ lists (instant a 0 never ∷ instant a 0 always ∷ []) 3
    ∷ lists (instant a 3 never
    ∷ timed (a ∷ always ∷ c ∷ always ∷ always ∷ always ∷ []) 2 3 0 0 0 0 ∷ []) 0
    ∷ lists (timed (a ∷ a ∷ never ∷ always ∷ always ∷ always ∷ []) 0 5 0 0 0 0
    ∷ instant c 0 always ∷ []) 1
    ∷ lists (instant always 0 a ∷ instant always 0 not_a ∷ []) 3
    ∷ lists shut_out 2
    ∷ lists (idle 2 ∷ idle 3 ∷ []) 3
    ∷ []
