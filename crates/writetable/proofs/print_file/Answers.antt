-- No text is longer than its buffer.
use Rattle.std.proofs.Common.{arith, sym, length, ◌≤◌}
use Rattle.std.proofs.lemmas.List.{length-take-le}
use Rattle.checker.proofs.Writing.{writing_short}
use Rattle.writetable.proofs.print_file.Goals as goal

pub slice_bounds-written-end : goal.slice_bounds-written-end
slice_bounds-written-end g c =
    let call = c.write_file-length in
    omega (arith, call.ensures.value, writing_short c.args.file.now)

pub slice_bounds-write_all-end : goal.slice_bounds-write_all-end
slice_bounds-write_all-end g c =
    let call = c.write_file-length in
    let short = writing_short c.args.file.now in
    let few : call.result ≤ length call.new.out = omega (arith, call.ensures.value, short) in
    sym (length-take-le _ _ few)
