-- Totals as they are counted, tick by tick, and their sums, row by row.
use Rattle.std.specs.Prelude.{ℕ, ◌+◌, ◌^◌, ◌<◌, ◌≤◌, List, ◌≡◌, length, get_or}
use Rattle.letters.specs.Letter.{bit}
use Rattle.table.specs.Limits.{most_rows}
use Rattle.step.specs.declared.Events.{Events}
use Rattle.step.specs.declared.Phase.{Phase}
use Rattle.step.specs.Events.{no_events, is_open}
use Rattle.pass.specs.declared.Watch.{Watch}
use Rattle.pass.specs.Inner.Pass.{phase_at}
use Rattle.load.specs.Figures.{Sums}
use Rattle.load.specs.Figures.{Totals}
use Rattle.load.specs.Load.{no_totals}

-- One more fits each count.
pub record Room (totals : Totals) : Type 0 where
  pub realised : totals.realised + 1 < 2 ^ 16
  pub completed : totals.completed + 1 < 2 ^ 16
  pub breaks : totals.breaks + 1 < 2 ^ 16

abbrev pub AllRoom : List Totals → Type 0
AllRoom all = (i : ℕ) → Room (get_or all i no_totals)

-- A row's totals with one tick more.
abbrev pub with_tick : Totals → Events → Phase → Totals
with_tick totals events phase = record {
  realised = totals.realised + bit events.realised;
  completed = totals.completed + bit events.completed;
  breaks = totals.breaks + bit events.broken;
  pending = bit (is_open phase);
}

-- Those of row j; and of all rows.
abbrev pub ticked_at : List Totals → List Events → Watch → ℕ → Totals
ticked_at totals events watch j =
    with_tick (get_or totals j no_totals) (get_or events j no_events) (phase_at watch j)

pub record AllTicked (totals : List Totals) (events : List Events) (watch : Watch)
    (all : List Totals) : Type 0 where
  pub long : length all ≡ most_rows
  pub are : (j : ℕ) → j < most_rows → get_or all j no_totals ≡ ticked_at totals events watch j

-- A row's totals, of 16 bits each, fit the sums.
pub record SumRoom (sums : Sums) : Type 0 where
  pub realised : sums.realised + 2 ^ 16 < 2 ^ 32
  pub completed : sums.completed + 2 ^ 16 < 2 ^ 32
  pub breaks : sums.breaks + 2 ^ 16 < 2 ^ 32
  pub pending : sums.pending + 2 ^ 16 < 2 ^ 32

abbrev pub with_row : Sums → Totals → Sums
with_row sums totals = record {
  realised = sums.realised + totals.realised;
  completed = sums.completed + totals.completed;
  breaks = sums.breaks + totals.breaks;
  pending = sums.pending + totals.pending;
}

-- No sum grows by more than a total can be.
pub record Grown (sums after : Sums) : Type 0 where
  pub realised : after.realised ≤ sums.realised + 65535
  pub completed : after.completed ≤ sums.completed + 65535
  pub breaks : after.breaks ≤ sums.breaks + 65535
  pub pending : after.pending ≤ sums.pending + 65535
