-- `subsets::subtable` meets its contract. Assumes nothing.
use Rattle.std.proofs.Common.{◌≡◌, ◌≤◌, sym, ◌∙◌, ap, min, take, length, length-take, rules, arith}
use Rattle.letters.specs.Sets.{picked}
use Rattle.table.specs.Limits.{most_rows}
use Rattle.table.specs.Valid.{table_from}
use Rattle.table.proofs.Laws.{default_row}
use Rattle.subsets.proofs.Gathering.{take_used, gathered_none, gathered_next, gathered_skip, gathered_all}
use Rattle.subsets.proofs.subtable.Goals as goal
use Rattle.subsets.proofs.subtable.Goals.{then-contains, else-contains}

pub loop-i-init : goal.loop-i-init
loop-i-init c =
    let few : length (take c.min-used.result c.args.table.rows) ≤ most_rows = rw length-take (omega arith) in
    rw (default_row c.default-rows.result c.default-rows.ensures)
    (gathered_none c.args.set (take c.min-used.result c.args.table.rows) few)

pub loop-i-preserved : goal.loop-i-preserved
loop-i-preserved c =
    let g = c.loop-i.invariant in
    elim c.if-contains.branch [
      | then-contains w ↦
          rw (w.rows-is, w.n-is) (gathered_next _ _ g c.loop-i-test.true (sym c.contains.ensures ∙ w.if-contains.true))
      | else-contains w ↦
          rw (w.rows-is, w.n-is) (gathered_skip _ _ g c.loop-i-test.true (sym c.contains.ensures ∙ w.if-contains.false))
    ]

pub returns : goal.returns
returns c =
    let table = c.args.table in
    let places : length table.rows ≡ most_rows = search rules in
    let used : c.min-used.result ≡ min table.count most_rows = omega arith in
    let same : take c.min-used.result table.rows ≡ take table.count table.rows =
    rw used (take_used table.rows most_rows table.count places) in
    gathered_all table.signals table.names c.loop-i.invariant c.loop-i-test.false
    ∙ ap (λ rows. table_from table.signals table.names (picked c.args.set rows)) same
