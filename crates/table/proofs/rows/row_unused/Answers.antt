-- `table::rows::row_unused` meets its contract. Assumes nothing.
use Rattle.std.proofs.Common.{◌≡◌, rules, length}
use Rattle.table.specs.Limits.{conditions}
use Rattle.table.proofs.Laws.{default_row, row_alike}
use Rattle.table.proofs.rows.row_unused.Goals as goal

pub returns : goal.returns
returns c =
    let zero = default_row c.default.result c.default.ensures in
    let long : length c.args.row.sets ≡ conditions = search rules in
    let alike = row_alike c.args.row long in
    cc
