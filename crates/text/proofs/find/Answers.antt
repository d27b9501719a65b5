-- `text::find` meets its contract: the front is as long as the library's search for the byte says.
-- Assumes nothing.
use Rattle.std.proofs.Common.{eqb, rules, tests}
use Rattle.std.proofs.lemmas.Iterator.{YieldsList-from_slice}
use Rattle.std.proofs.lemmas.Iterator.Search.{position_from_yields_List}
use Rattle.text.proofs.Splits.{front_position, position_unwrapped}
use Rattle.text.proofs.find.Goals as goal

pub returns : goal.returns
returns c =
    let found = position_from_yields_List (λ x. eqb x c.args.b) _ _ c.position.result
    c.position.ensures.ran (YieldsList-from_slice c.args.s.now cc)
    (λ x b q k. search (rules, tests)) in
    rw (front_position, ← position_unwrapped (λ x. eqb x c.args.b) c.args.s.now, ← found)
    c.unwrap_or.ensures
