-- The values from signal k on, put now, make the whole, and `rest` is the letter without the signals
-- before it.
use Rattle.std.proofs.Common.{◌≡◌, ◌-◌, ◌/◌, ◌^◌}
use Rattle.put.specs.Inner.Page.{added}
use Rattle.lines.specs.Line.{signal_values}
use Rattle.lines.proofs.signal_values.Given as goal

abbrev pub invariant-loop : goal.invariant-loop
invariant-loop l =
    (added l.page (signal_values (l.signals - l.counter) l.counter l.letter)
    ≡ added l.initial.page (signal_values l.signals 0 l.letter))
    × (l.rest ≡ l.letter / 2 ^ l.counter)
