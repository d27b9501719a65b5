-- Rows that fire.
use Rattle.std.specs.Prelude.{ℕ, ◌<◌, List}
use Rattle.table.specs.declared.Row.{Row}
use Rattle.traces.specs.Trace.{Unbroken}
use Rattle.step.specs.Tick.{start_phases, table_system}
use Rattle.step.specs.Events.{Event, trace_events, times_of}

-- Document 02, ask 2: the trigger of row i, counted from 0, "is realised in" some "unbroken trace".
pub record Fires (s : ℕ) (rows : List Row) (i : ℕ) : Type 0 where
  pub trace : List ℕ
  pub fine : Unbroken (table_system s rows) trace
  pub realised : 0 < times_of Event.realised i (trace_events rows (start_phases rows) trace)
