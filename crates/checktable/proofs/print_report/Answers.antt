-- No report is longer than its buffer.
use Rattle.std.proofs.Common.{arith, sym, length, ◌≤◌}
use Rattle.std.proofs.lemmas.List.{length-take-le}
use Rattle.checker.proofs.ReportLength.{program_short}
use Rattle.checktable.proofs.print_report.Goals as goal

pub slice_bounds-report-end : goal.slice_bounds-report-end
slice_bounds-report-end g c =
    let call = c.check_file-length in
    omega (arith, call.ensures.value, call.auto.out, program_short c.args.file.now)

pub slice_bounds-write_all-end : goal.slice_bounds-write_all-end
slice_bounds-write_all-end g c =
    let call = c.check_file-length in
    let short = program_short c.args.file.now in
    let few : call.result ≤ length call.new.out = omega (arith, call.ensures.value, call.auto.out, short) in
    sym (length-take-le _ _ few)
