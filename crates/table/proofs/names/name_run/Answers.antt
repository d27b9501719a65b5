-- `table::names::name_run` meets its contract. Assumes nothing.
use Rattle.std.proofs.Common.{◌∙◌, rules, tests}
use Rattle.std.proofs.lemmas.Iterator.{YieldsList-from_slice}
use Rattle.std.proofs.lemmas.Iterator.Consumers.{count_from_yields_List}
use Rattle.std.proofs.lemmas.Iterator.Search.{YieldsList-from_take_while}
use Rattle.std.proofs.lemmas.List.Folds.{length-prefix_len}
use Rattle.table.specs.Name.{is_lowercase}
use Rattle.table.proofs.Laws.{name_run_prefix}
use Rattle.table.proofs.names.name_run.Goals as goal

pub returns : goal.returns
returns c =
    let chars = c.args.chars in
    count_from_yields_List c.take_while.result _ c.count.ensures.ran
    (YieldsList-from_take_while _ is_lowercase (YieldsList-from_slice chars (cc))
    c.take_while.ensures.closure c.take_while.ensures.done (λ x b q k. search (rules, tests)))
    ∙ length-prefix_len is_lowercase chars ∙ name_run_prefix chars
