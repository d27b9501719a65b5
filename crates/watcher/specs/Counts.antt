-- How often each event happened to a row, as `play` counts it.
use Rattle.std.specs.Prelude.{ℕ}
use Rattle.step.specs.Events.{Event}
use Rattle.watcher.specs.declared.Counts.{Counts}

-- How often an event happened, by the counts of a row; and the counts before the first tick.
abbrev pub count_of : Counts → Event → ℕ
count_of c Event.started = c.started
count_of c Event.realised = c.realised
count_of c Event.aborted = c.aborted
count_of c Event.acting = c.acting
count_of c Event.completed = c.completed
count_of c Event.broken = c.broken

abbrev pub no_counts : Counts
no_counts =
    record { started = 0; realised = 0; aborted = 0; acting = 0; completed = 0; broken = 0 }
