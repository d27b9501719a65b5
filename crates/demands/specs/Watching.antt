-- What the promises about the watcher speak of: calls of it, one after the other.
use Rattle.std.specs.Prelude.{ℕ, true, List, [], ◌∷◌, ◌≡◌}
use Rattle.table.specs.Valid.{rows_valid}
use Rattle.table.specs.declared.Row.{Row}
use Rattle.step.specs.declared.Events.{Events}
use Rattle.step.specs.Valid.{phases_valid}
use Rattle.pass.specs.declared.Watch.{Watch}
use Rattle.pass.specs.Watch.{phases_of}
use Rattle.pass.specs.Answer.{tick_answer}

-- The record after one call of the watcher for each letter of a trace.
unfoldable pub record_after : ℕ → List Row → Watch → List ℕ → Watch
record_after s rows watch [] = watch
record_after s rows watch (l ∷ w) = record_after s rows (tick_answer s rows watch l).watch w

-- What happened to each row at each of these calls.
unfoldable pub events_over : ℕ → List Row → Watch → List ℕ → List (List Events)
events_over s rows watch [] = []
events_over s rows watch (l ∷ w) =
    let ticked = tick_answer s rows watch l in
    ticked.reply.events ∷ events_over s rows ticked.watch w

-- Numbers 17 and 18 let the signal count, the rows and the record by.
pub record CallValid (s : ℕ) (rows : List Row) (watch : Watch) : Type 0 where
  pub rules : rows_valid s rows ≡ true
  pub state : phases_valid rows (phases_of watch) ≡ true
