-- Totals after a burn-in: document 02, ask 5.
use Rattle.std.specs.Prelude.{ℕ, zero, suc, ◌+◌, ◌-◌, ◌*◌, ◌/◌, ◌%◌, ◌^◌, cond, List, [], ◌∷◌, ◌++◌, map, leb, length, replicate}
use Rattle.letters.specs.Letter.{letters, bit}
use Rattle.table.specs.Limits.{most_rows}
use Rattle.table.specs.Refusal.{refused_at}
use Rattle.table.specs.Valid.{table_valid, rows_of}
use Rattle.table.specs.Refusal.{Outcome}
use Rattle.std.specs.Prelude.{Ok}
use Rattle.table.specs.declared.Row.{Row}
use Rattle.table.specs.declared.Table.{Table}
use Rattle.traces.specs.Trace.{run}
use Rattle.step.specs.declared.Phase.TheVariants.{Waiting}
use Rattle.step.specs.Events.{trace_events, Event, times_of, is_open}
use Rattle.step.specs.Tick.{start_phases, row_system}
use Rattle.pass.specs.Answer.{answered}
use Rattle.load.specs.declared.Ran.{Ran}
use Rattle.load.specs.Figures.{Sums}
use Rattle.load.specs.Figures.{Totals}

-- "The load starts from a given 32-bit number; each tick it becomes its product with 1,664,525 plus
-- 1,013,904,223, modulo 2^32": the number after a tick, and the numbers of so many ticks.
unfoldable pub next_number : ℕ → ℕ
next_number number = (number * 1664525 + 1013904223) % 2 ^ 32

unfoldable pub numbers_from : ℕ → ℕ → List ℕ
numbers_from number zero = []
numbers_from number (suc ticks) = next_number number ∷ numbers_from (next_number number) ticks

-- "And the letter is the number divided by 2^26, rounded down, modulo the number of letters": with
-- s signals.
unfoldable pub letter_of : ℕ → ℕ → ℕ
letter_of s number = number / 2 ^ 26 % letters s

abbrev pub load_of : ℕ → ℕ → ℕ → List ℕ
load_of s start ticks = map (letter_of s) (numbers_from start ticks)

-- How often an event happens to a row in a trace from waiting on. A row goes on by its own rules,
-- whatever the others do.
abbrev pub times_in : Event → Row → List ℕ → ℕ
times_in event row w = times_of event 0 (trace_events (row ∷ []) (start_phases (row ∷ [])) w)

-- "Triggers realised, actions completed, breaks and actions open at the end." "A break is the tick
-- in which the row becomes broken. Open means in delay or action. The first three equal the counts
-- in the run's events."
unfoldable pub totals_of : ℕ → Row → List ℕ → Totals
totals_of s row w = record {
  realised = times_in Event.realised row w;
  completed = times_in Event.completed row w;
  breaks = times_in Event.broken row w;
  pending = bit (is_open (run (row_system s row) Waiting w));
}

abbrev pub no_totals : Totals
no_totals = record { realised = 0; completed = 0; breaks = 0; pending = 0 }

-- Those "for each row", in `most_rows` places: an unused row has zeros.
unfoldable pub totals_over : ℕ → List Row → List ℕ → List Totals
totals_over s rows w =
    map (λ row. totals_of s row w) rows ++ replicate (most_rows - length rows) no_totals

-- "And the sums."
unfoldable pub sum_of : (Totals → ℕ) → List Totals → ℕ
sum_of part [] = 0
sum_of part (totals ∷ more) = part totals + sum_of part more

unfoldable pub sums_of : List Totals → Sums
sums_of all = record {
  realised = sum_of (λ t. t.realised) all;
  completed = sum_of (λ t. t.completed) all;
  breaks = sum_of (λ t. t.breaks) all;
  pending = sum_of (λ t. t.pending) all;
}

-- "A run has at most 65,535 ticks." "Checks: 22 a longer run is asked for, after 17."
abbrev pub longest_run : ℕ
longest_run = 65535

abbrev pub run_number : Table → ℕ → ℕ
run_number table ticks = cond (table_valid table) (cond (leb ticks longest_run) 0 22) 17

-- "Every other number or mark in the answer is 0", where it is refused.
abbrev pub not_run : Outcome → Ran
not_run outcome = record { outcome = outcome; totals = replicate most_rows no_totals }

-- A run of so many ticks from a number.
unfoldable pub run_answer : Table → ℕ → ℕ → Ran
run_answer table start ticks =
    let s = table.signals in
    answered (run_number table ticks)
    (record { outcome = Ok tt; totals = totals_over s (rows_of table) (load_of s start ticks) })
    (λ n. not_run (refused_at n 0))
