-- `rows::read_values`. The invariant, `Gathered`: the rest of the line holds the fields from k on, and
-- the array what those before hold, none of which has a number.
use lib.ListN.{take}
use Rattle.letters.specs.Letter.{width}
use Rattle.rows.proofs.RowLaws.{Gathered}
use Rattle.rows.proofs.read_values.Given as goal

abbrev pub invariant-loop-k : goal.invariant-loop-k
invariant-loop-k l =
    Gathered (take l.signals.count l.signals.names) (width l.signals.count) l.line l.value-items l.at
    l.k
