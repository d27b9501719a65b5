-- No text is longer than its buffer.
use Rattle.std.proofs.Common.{arith, sym, length, ◌≤◌}
use Rattle.std.proofs.lemmas.List.{length-take-le}
use Rattle.checker.proofs.TotalsLength.{load_short}
use Rattle.loadtable.proofs.print_totals.Goals as goal

pub slice_bounds-totals-end : goal.slice_bounds-totals-end
slice_bounds-totals-end g c =
    let call = c.load_file-length in
    omega (arith, call.ensures.value, call.auto.out, load_short c.args.file.now)

pub slice_bounds-write_all-end : goal.slice_bounds-write_all-end
slice_bounds-write_all-end g c =
    let call = c.load_file-length in
    let short = load_short c.args.file.now in
    let few : call.result ≤ length call.new.out = omega (arith, call.ensures.value, call.auto.out, short) in
    sym (length-take-le _ _ few)
