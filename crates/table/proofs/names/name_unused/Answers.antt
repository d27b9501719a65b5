-- `table::names::name_unused` meets its contract. Assumes nothing.
use Rattle.std.proofs.Common.{rules}
use Rattle.table.proofs.Laws.{name_alike}
use Rattle.table.proofs.names.name_unused.Goals as goal

pub returns : goal.returns
returns c = let alike = name_alike c.args.name c.default.result (search rules) c.default.ensures in cc
