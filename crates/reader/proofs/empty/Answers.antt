-- `reader::empty` meets its contract. Assumes nothing.
use Rattle.reader.proofs.Defaults.{default_table}
use Rattle.reader.proofs.empty.Goals as goal

pub returns : goal.returns
returns c = default_table c.default.result c.default.ensures
