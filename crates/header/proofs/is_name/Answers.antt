-- `header::is_name` meets its contract. Assumes nothing.
use Rattle.std.proofs.Common.{rules, tests}
use Rattle.std.proofs.lemmas.Iterator.{YieldsList-from_slice}
use Rattle.std.proofs.lemmas.Iterator.Search.{all_from_yields_List}
use Rattle.letters.specs.Lists.{every}
use Rattle.table.specs.Name.{is_lowercase}
use Rattle.header.specs.Inner.Header.{name_shaped}
use Rattle.header.proofs.is_name.Goals as goal

pub returns-then-within : goal.returns-then-within
unfolding name_shaped every
returns-then-within c =
    rw (← c.if-within.ensures)
    (all_from_yields_List is_lowercase _ _ _ c.all.ensures.ran
    (YieldsList-from_slice c.args.s.now cc) (λ x b q k. search (rules, tests)))
