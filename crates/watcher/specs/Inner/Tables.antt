-- Calls with a table value: `tick_as_rows`, `played` and the numbers tie them to `tick_answer`.
use Rattle.std.specs.Prelude.{ℕ, List, replicate}
use Rattle.letters.specs.Letter.{letter_valid}
use Rattle.letters.specs.Lists.{every}
use Rattle.table.specs.Limits.{most_rows}
use Rattle.table.specs.Refusal.{refused_at}
use Rattle.table.specs.Valid.{rows_of, table_valid}
use Rattle.table.specs.Refusal.{Outcome}
use Rattle.std.specs.Prelude.{Ok}
use Rattle.table.specs.declared.Table.{Table}
use Rattle.traces.specs.Trace.{run}
use Rattle.step.specs.Tick.{table_system}
use Rattle.step.specs.Events.{trace_events}
use Rattle.step.specs.Valid.{phases_valid}
use Rattle.watcher.specs.declared.Counts.{Counts}
use Rattle.watcher.specs.declared.Played.{Played}
use Rattle.pass.specs.declared.Ticked.{Ticked}
use Rattle.pass.specs.declared.Watch.{Watch}
use Rattle.pass.specs.Watch.{phases_of, watch_of}
use Rattle.watcher.specs.Counts.{no_counts}
use Rattle.pass.specs.Answer.{first_number, answered, refused_with, moved_on}
use Rattle.watcher.specs.Inner.Counts.{counts_over}

-- A tick of a table value, of which number 17 tests every place.
unfoldable pub table_tick : Table → Watch → ℕ → Ticked
table_tick table watch letter =
    answered
    (first_number (table_valid table) (phases_valid (rows_of table) (phases_of watch))
    (letter_valid table.signals letter))
    (moved_on (rows_of table) letter watch) (refused_with watch)

-- No tick yet; and a trace that is not played.
abbrev pub zero_counts : List Counts
zero_counts = replicate most_rows no_counts

abbrev pub stopped_by : Outcome → Watch → Played
stopped_by outcome watch = record { outcome = outcome; watch = watch; counts = zero_counts }

abbrev pub played_over : Table → Watch → List ℕ → Played
played_over table watch trace = record {
  outcome = Ok tt;
  watch = watch_of (run (table_system table.signals (rows_of table)) (phases_of watch) trace);
  counts = counts_over zero_counts (trace_events (rows_of table) (phases_of watch) trace);
}

-- All letters of a trace, one tick each: number 19 is for any of them.
unfoldable pub table_play : Table → Watch → List ℕ → Played
table_play table watch trace =
    answered
    (first_number (table_valid table) (phases_valid (rows_of table) (phases_of watch))
    (every (letter_valid table.signals) trace))
    (played_over table watch trace) (λ n. stopped_by (refused_at n 0) watch)
