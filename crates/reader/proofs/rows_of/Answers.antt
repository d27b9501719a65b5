-- `reader::rows_of` meets its contract. Assumes nothing.
use borrow.Author.Rules.{rules}
use mathlib.Core.Path.{◌≡◌}
use lib.ListN.{length}
use Rattle.table.specs.Limits.{most_rows}
use Rattle.reader.proofs.Gathering.{gathered_filled}
use Rattle.reader.proofs.rows_of.Goals as goal

pub returns : goal.returns
returns c =
    let eight : length c.args.sets ≡ most_rows = search rules in
    let also : length c.args.bounds ≡ most_rows = search rules in
    gathered_filled _ _ _ _ c.loop-i.invariant c.loop-i-test.false eight also
