-- `conditions::place_of` meets its contract: the place is where the library finds the name.
-- Assumes nothing.
use Rattle.std.proofs.Common.{Bool, eqb, rules, tests}
use Rattle.text.proofs.Splits.{position_unwrapped}
use Rattle.std.specs.Cmp.Lexicographic.{pointwise}
use Rattle.std.proofs.lemmas.Iterator.{YieldsList-from_slice}
use Rattle.std.proofs.lemmas.Iterator.Search.{position_from_yields_List}
use Rattle.table.specs.declared.Name.{Name}
use Rattle.conditions.proofs.Places.{place_position}
use Rattle.conditions.proofs.place_of.Goals as goal

pub returns : goal.returns
returns c =
    let same : Name → Bool = λ known. pointwise eqb known.chars c.args.name.chars in
    let found = position_from_yields_List same _ _ c.position.result c.position.ensures.ran
    (YieldsList-from_slice c.args.names.now cc) (λ x b q k. search (rules, tests)) in
    rw (place_position, ← position_unwrapped same c.args.names.now, ← found) c.unwrap_or.ensures
