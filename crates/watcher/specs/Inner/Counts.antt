-- How often each event happened to each row, as it is counted tick by tick.
use Rattle.std.specs.Prelude.{ℕ, ◌+◌, ◌^◌, ◌<◌, List, [], ◌∷◌, get_or}
use Rattle.letters.specs.Letter.{bit}
use Rattle.step.specs.declared.Events.{Events}
use Rattle.step.specs.Events.{Event}
use Rattle.watcher.specs.declared.Counts.{Counts}
use Rattle.watcher.specs.Counts.{count_of, no_counts}

-- One more fits each count.
abbrev pub Room : Counts → Type 0
Room counts = (event : Event) → count_of counts event + 1 < 2 ^ 64

abbrev pub AllRoom : List Counts → Type 0
AllRoom all = (i : ℕ) → Room (get_or all i no_counts)

-- A tick's events of a row added to its counts, and of all rows.
abbrev pub add_events : Counts → Events → Counts
add_events counts events = record {
  started = counts.started + bit events.started;
  realised = counts.realised + bit events.realised;
  aborted = counts.aborted + bit events.aborted;
  acting = counts.acting + bit events.acting;
  completed = counts.completed + bit events.completed;
  broken = counts.broken + bit events.broken;
}

unfoldable pub add_all : List Counts → List Events → List Counts
add_all [] events = []
add_all (counts ∷ all) [] = counts ∷ all
add_all (counts ∷ all) (events ∷ more) = add_events counts events ∷ add_all all more

-- And of all ticks.
unfoldable pub counts_over : List Counts → List (List Events) → List Counts
counts_over all [] = all
counts_over all (events ∷ ticks) = counts_over (add_all all events) ticks
