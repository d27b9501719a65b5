-- How long the totals of a file can be. Assumes nothing.
use Prim.Native.Nat.{ℕ, ◌≤◌}
use native.Mathlib.Omega.{arith}
use mathlib.Core.Bool.{true}
use mathlib.Core.List.{List}
use mathlib.Core.Path.{◌≡◌, ap}
use lib.ListN.{length}
use Rattle.table.specs.Valid.{table_valid}
use Rattle.table.specs.Further.Numbers.{number_of, line_of}
use Rattle.std.specs.Prelude.{Err}
use Rattle.table.specs.declared.Table.{Table}
use Rattle.table.proofs.Laws.{table_valid_count}
use Rattle.reader.specs.Inner.File.{read_answer}
use Rattle.reader.proofs.Accepted.{Decided, taken, turned, read_decided}
use Rattle.reader.proofs.Valid.{file_valid}
use Rattle.load.specs.declared.Ran.{Ran}
use Rattle.load.specs.Load.{not_run, run_answer}
use Rattle.load.proofs.Runs.{run_taken, run_most}
use Rattle.totals.proofs.Lengths.{FewTotals, totals_short}
use Rattle.checker.specs.FileLoad.{load_start, load_ticks, most_totals}
use Rattle.checker.specs.Inner.Computed.{load_answer}

-- The program's run has numbers of few digits.
run_few : (table : Table) → table_valid table ≡ true
    → FewTotals table.count (run_answer table load_start load_ticks)
run_few table passes = record {
  rules = (table_valid_count table passes).1;
  refusal =
      λ r e.
      let accepted = ap (λ (a : Ran). a.outcome)
      (run_taken table load_start load_ticks passes (omega arith)) in
      absurd (let z : ◌≡◌ {A = ℕ} 0 1 = cc in omega arith);
  totals = λ j h.
      let most = run_most table load_start load_ticks j in
      record {
        realised = omega (arith, most.realised);
        completed = omega (arith, most.completed);
        breaks = omega (arith, most.breaks);
        pending = omega (arith, most.pending);
      };
}

pub load_short : (bytes : List ℕ) → length (load_answer bytes) ≤ most_totals
unfolding load_answer
load_short bytes = go (read_decided bytes)
  where
    go : Decided bytes (read_answer bytes) → length (load_answer bytes) ≤ most_totals
    go (taken table file e) =
        rw e (totals_short table.count (run_answer table load_start load_ticks)
        (run_few table (file_valid bytes table file)))
    go (turned number line one small low e) =
        rw e (totals_short 0 (not_run (Err (record { number = number; line = line })))
        (record {
          rules = omega arith;
          refusal =
              λ r told.
              let is_number : number ≡ r.number = ap number_of told in
              let is-line : line ≡ r.line = ap line_of told in
              (omega arith, omega arith);
          totals = λ j h. absurd (omega arith);
        }))
