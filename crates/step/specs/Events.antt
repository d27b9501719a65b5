-- What happens to a row at a tick. Document 02, ask 1: "which of these happened: trigger started,
-- trigger realised, trigger aborted, action started, action completed, broken". "Several may happen
-- in one tick: a start counts also where its check with 0 aborts, ends or breaks."
use Rattle.std.specs.Prelude.{ℕ, ◌+◌, Bool, true, false, ◌&&◌, cond, List, [], ◌∷◌, map, leb, ltb, get_or}
use Rattle.letters.specs.Letter.{bit}
use Rattle.table.specs.Row.{holds, tse, tc, tee, ase, ac, aee}
use Rattle.table.specs.declared.Row.{Row}
use Rattle.step.specs.declared.Phase.{Phase}
use Rattle.step.specs.declared.Phase.TheVariants.{Waiting, Trigger, Delay, Action, Broken}
use Rattle.step.specs.declared.Events.{Events}
use Rattle.step.specs.declared.Stepped.{Stepped}
use Rattle.step.specs.Step.{step_row}
use Rattle.step.specs.Tick.{tick}

abbrev pub events_of : Bool → Bool → Bool → Bool → Bool → Bool → Events
events_of started realised aborted acting completed broken = record {
  started = started;
  realised = realised;
  aborted = aborted;
  acting = acting;
  completed = completed;
  broken = broken;
}

-- Nothing happened; or one thing alone.
abbrev pub no_events : Events
no_events = events_of false false false false false false

abbrev pub only_aborted : Events
only_aborted = events_of false false true false false false

abbrev pub only_completed : Events
only_completed = events_of false false false false true false

abbrev pub only_broken : Events
only_broken = events_of false false false false false true

-- What happened, and that the trigger started, was realised or aborted, or the action started.
abbrev pub with_started : Events → Events
with_started e = events_of true e.realised e.aborted e.acting e.completed e.broken

abbrev pub with_realised : Events → Events
with_realised e = events_of e.started true e.aborted e.acting e.completed e.broken

abbrev pub with_aborted : Events → Events
with_aborted e = events_of e.started e.realised true e.acting e.completed e.broken

abbrev pub with_acting : Events → Events
with_acting e = events_of e.started e.realised e.aborted true e.completed e.broken

-- "Action check, a: if AEE holds and a >= Amin: waiting", completed. "Else if AC holds and
-- a < Amax: action, a + 1. Else broken."
unfoldable pub action_events : Row → ℕ → ℕ → Events
action_events row letter a =
    cond (holds row aee letter && leb row.amin a) only_completed
    (cond (holds row ac letter && ltb a row.amax) no_events only_broken)

-- "Delay check, d: if ASE holds and d >= Lmin", the action starts: "do the action check with 0 on
-- the same letter. Else if d < Lmax: delay, d + 1. Else broken."
unfoldable pub delay_events : Row → ℕ → ℕ → Events
delay_events row letter d =
    cond (holds row ase letter && leb row.lmin d) (with_acting (action_events row letter 0))
    (cond (ltb d row.lmax) no_events only_broken)

-- "Trigger check, elapsed t: if TEE holds and t >= Tmin, the trigger is realised: do the delay
-- check with 0 on the same letter. Else if TC holds and t < Tmax: trigger, t + 1. Else" it is
-- aborted: what happens at an abort is given.
unfoldable pub trigger_events : Row → ℕ → ℕ → Events → Events
trigger_events row letter t aborted =
    cond (holds row tee letter && leb row.tmin t) (with_realised (delay_events row letter 0))
    (cond (holds row tc letter && ltb t row.tmax) no_events aborted)

-- "Waiting: if TSE holds", the trigger starts: "do the trigger check with 0; else stay waiting."
unfoldable pub start_events : Row → ℕ → Events
start_events row letter =
    cond (holds row tse letter) (with_started (trigger_events row letter 0 only_aborted)) no_events

-- "When a trigger that began at an earlier tick aborts", the letter does to it what it does to a
-- waiting row: "If both happen, abort and start are both reported." "A row already broken has
-- none."
unfoldable pub row_events : Row → ℕ → Phase → Events
row_events row letter Waiting = start_events row letter
row_events row letter (Trigger t) =
    trigger_events row letter t (with_aborted (start_events row letter))
row_events row letter (Delay d) = delay_events row letter d
row_events row letter (Action a) = action_events row letter a
row_events row letter Broken = no_events

-- All that a row step gives.
abbrev pub stepped_to : Phase → Events → Stepped
stepped_to phase events = record { phase = phase; events = events }

abbrev pub stepped : Row → ℕ → Phase → Stepped
stepped row letter phase = stepped_to (step_row row letter phase) (row_events row letter phase)

-- Each row's events at a letter. A phase without a row has none.
unfoldable pub tick_events : List Row → ℕ → List Phase → List Events
tick_events [] letter phases = map (λ _. no_events) phases
tick_events (row ∷ rows) letter [] = []
tick_events (row ∷ rows) letter (phase ∷ phases) =
    row_events row letter phase ∷ tick_events rows letter phases

-- Those of each tick of a trace, from some phases on.
unfoldable pub trace_events : List Row → List Phase → List ℕ → List (List Events)
trace_events rows phases [] = []
trace_events rows phases (l ∷ w) =
    tick_events rows l phases ∷ trace_events rows (tick rows l phases) w

-- How often an event happens to row i in some ticks.
pub data Event : Type 0 where
  started realised aborted acting completed broken : Event

abbrev pub happens : Events → Event → Bool
happens e Event.started = e.started
happens e Event.realised = e.realised
happens e Event.aborted = e.aborted
happens e Event.acting = e.acting
happens e Event.completed = e.completed
happens e Event.broken = e.broken

unfoldable pub times_of : Event → ℕ → List (List Events) → ℕ
times_of event i [] = 0
times_of event i (events ∷ more) =
    bit (happens (get_or events i no_events) event) + times_of event i more

-- "Open means in delay or action."
unfoldable pub is_open : Phase → Bool
is_open Waiting = false
is_open (Trigger t) = false
is_open (Delay d) = true
is_open (Action a) = true
is_open Broken = false
