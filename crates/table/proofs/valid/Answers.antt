-- `table::valid` meets its contract: the code's tests, in another order, are those of number 17,
-- since a table value has `most_rows` places for rows. Assumes nothing.
use Prim.Native.Nat.{◌≤◌}
use borrow.Author.Rules.{rules}
use native.Mathlib.Omega.{arith}
use mathlib.Core.Bool.{Bool, true, false, ◌&&◌, and_comm}
use mathlib.Core.Path.{◌≡◌, refl}
use lib.ListN.{length, take, drop}
use lib.Seq.{length-take-le}
use Rattle.letters.specs.Lists.{every}
use Rattle.table.specs.Limits.{most_rows}
use Rattle.table.specs.Row.{row_valid, row_unused}
use Rattle.table.specs.Name.{name_valid, name_unused, all_distinct}
use Rattle.table.specs.Valid.{counts_allowed, rows_valid, names_valid, rows_of, table_valid}
use Rattle.table.proofs.Laws.{counts_rows}
use Rattle.table.specs.declared.Table.{Table}
use Rattle.table.proofs.valid.Goals as goal

-- the code's order and that of number 17: c tests the counts, and l those of the rows that are used
tests_order : (c l nf nd nr rf ru : Bool) → (c ≡ true → l ≡ true)
    → (c && nf && nd && nr && rf && ru) ≡ (c && (l && rf) && (nf && nd && nr) && ru)
tests_order true l nf nd nr rf ru h = rw (h refl, and_comm rf (nf && nd && nr))
tests_order false l nf nd nr rf ru h = refl

-- so many places hold as many used rows as the row count says
count-used : (t : Table) → length t.rows ≡ most_rows
    → counts_allowed t.signals t.count ≡ true
    → counts_allowed t.signals (length (rows_of t)) ≡ true
count-used t e h =
    let fits : t.count ≤ length t.rows =
    omega (arith, counts_rows t.signals t.count h) in
    rw length-take-le h

pub returns : goal.returns
unfolding table_valid rows_valid names_valid
returns c =
    let t = c.args.table in
    let s = t.signals in
    let order = tests_order (counts_allowed s t.count) (counts_allowed s (length (rows_of t)))
    (every name_valid (take s t.names)) (all_distinct (take s t.names))
    (every name_unused (drop s t.names)) (every (row_valid s) (rows_of t))
    (every row_unused (drop t.count t.rows)) (count-used t (search rules)) in
    cc
