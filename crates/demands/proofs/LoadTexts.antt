-- What `loadtable` prints of a file: `RightLoad`, and nothing else. Assumes nothing.
use Prim.Native.Nat.{ℕ, suc}
use native.Mathlib.Omega.{arith}
use mathlib.Core.List.{List, [], ◌∷◌, ◌++◌}
use mathlib.Core.Path.{◌≡◌, subst, ◌∙◌}
use lib.ListN.{length, take, length-map}
use lib.Seq.{take_at}
use Rattle.table.specs.Limits.{most_bytes}
use Rattle.table.specs.Valid.{rows_of}
use Rattle.table.specs.declared.Table.{Table}
use Rattle.table.proofs.Laws.{table_valid_count}
use Rattle.text.specs.Lines.{ended}
use Rattle.reader.specs.Grammar.{IsFile}
use Rattle.reader.specs.Right.{RightReading}
use Rattle.reader.specs.Inner.File.{read_answer}
use Rattle.reader.proofs.Accepted.{Decided, taken, turned, read_decided, file_accepted}
use Rattle.reader.proofs.Valid.{file_valid}
use Rattle.reader.proofs.Sizes.{file_sized}
use Rattle.reader.proofs.Files.{rows_counted}
use Rattle.reader.proofs.Found.{read_answered}
use Rattle.reader.proofs.Only.{read_only, read_first_bytes}
use Rattle.load.specs.Load.{totals_over, sums_of, run_answer}
use Rattle.load.proofs.Runs.{run_taken}
use Rattle.totals.specs.Totals.{totals_lines, sums_line, run_lines, run_bytes}
use Rattle.checker.specs.FileLoad.{load_start, load_ticks}
use Rattle.checker.specs.Inner.Computed.{load_answer}
use Rattle.demands.specs.Loading.{load_totals, RightLoad}
use Rattle.demands.specs.Loading.RightLoad.{refused, loaded}
use Rattle.demands.specs.Further.Load.{LoadPrints}
use Rattle.demands.specs.Further.Load.LoadPrints.{refused as refusal, totals}

-- The table of a file has all rows that it counts.
module _ (bytes : List ℕ) (table : Table) (file : IsFile bytes table) where
  each_counted : length (load_totals table) ≡ table.count
  each_counted =
      length-map (rows_of table) _
      ∙ rows_counted table (file_sized bytes table file) (file_valid bytes table file)

  -- What the program prints of it.
  text_is : run_bytes table.count (run_answer table load_start load_ticks)
      ≡ ended (totals_lines 1 (load_totals table) ++ sums_line (sums_of (load_totals table)) ∷ [])
  unfolding run_lines totals_over
  text_is =
      rw (
        run_taken table load_start load_ticks (file_valid bytes table file) (omega arith),
        take_at (load_totals table) _ table.count each_counted,
      )

module _ (bytes : List ℕ) where
  pub load_answered : RightLoad bytes (load_answer bytes)
  unfolding load_answer run_lines
  load_answered = go (read_decided bytes)
    where
      go : Decided bytes (read_answer bytes) → RightLoad bytes (load_answer bytes)
      go (taken table file e) = rw (e, text_is bytes table file) (loaded file)
      go (turned number line one small low e) =
          rw e (refused (subst (RightReading bytes) e (read_answered bytes)))

  pub load_only : (text : List ℕ) → RightLoad bytes text → load_answer bytes ≡ text
  unfolding load_answer run_lines
  load_only text (refused right) = rw (read_only bytes _ right)
  load_only text (loaded {table = table} file) =
      rw (file_accepted bytes table file) (text_is bytes table file)

  -- Never 17, 20 or 22.
  pub load_prints : LoadPrints (load_answer bytes)
  unfolding load_answer run_lines
  load_prints = go (read_decided bytes)
    where
      go : Decided bytes (read_answer bytes) → LoadPrints (load_answer bytes)
      go (taken table file e) =
          let each = each_counted bytes table file in
          let counts = table_valid_count table (file_valid bytes table file) in
          rw (e, text_is bytes table file) (totals (load_totals table)
          (omega (arith, counts.0)) (omega (arith, counts.1)))
      go (turned number line one small low e) = rw e (refusal number line one small)

-- No more of a file is read than its first 4,097 bytes.
pub load_first_bytes : (bytes : List ℕ)
    → load_answer (take (suc most_bytes) bytes) ≡ load_answer bytes
unfolding load_answer
load_first_bytes bytes = rw (read_first_bytes bytes)
