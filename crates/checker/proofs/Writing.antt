-- A table that is to be written is a valid one; and how long what is printed can be. Assumes
-- nothing.
use Prim.Native.Nat.{ℕ, ◌<◌, ◌≤◌}
use borrow.Author.Tests.{lt-ltb, le-ltb}
use native.Mathlib.Decide.{dec_lt}
use native.Mathlib.Omega.{arith}
use mathlib.Core.Bool.{true}
use mathlib.Core.List.{List}
use mathlib.Core.Path.{◌≡◌, ap, ◌∙◌}
use lib.ListN.{length}
use Rattle.table.specs.Limits.{most_bytes}
use Rattle.table.specs.Valid.{table_valid}
use Rattle.std.specs.Prelude.{Ok}
use Rattle.table.specs.declared.Table.{Table}
use Rattle.reader.specs.declared.Reading.{Reading}
use Rattle.reader.specs.Inner.File.{read_answer}
use Rattle.reader.proofs.Accepted.{Decided, taken, turned, read_decided}
use Rattle.reader.proofs.Valid.{file_valid}
use Rattle.lines.specs.Line.{refused_text}
use Rattle.writer.specs.File.{file_text}
use Rattle.lines.proofs.Lengths.{refused_length}
use Rattle.checker.specs.Inner.Computed.{after_writing, writing_answer}

-- The table of a file that the reader accepts.
pub accepted_valid : (bytes : List ℕ) {reading : Reading} → reading ≡ read_answer bytes
    → reading.outcome ≡ Ok tt → table_valid reading.table ≡ true
accepted_valid bytes {reading} read taken_is = go (read_decided bytes)
  where
    go : Decided bytes (read_answer bytes) → table_valid reading.table ≡ true
    go (taken table file e) =
        rw (ap (λ (r : Reading). r.table) (read ∙ e)) (file_valid bytes table file)
    go (turned number line one small low e) =
        let told = ap (λ (r : Reading). r.outcome) (read ∙ e) in
        absurd (let z : ◌≡◌ {A = ℕ} 0 1 = cc in omega arith)

-- No more is printed than a file has bytes.
refused_short : (number line : ℕ) → number < 1000 → line < 1000
    → length (refused_text number line) ≤ most_bytes
refused_short number line m n = omega (arith, refused_length number line m n)

table_short : (table : Table) → length (after_writing (Ok tt) table) ≤ most_bytes
table_short table = go (dec_lt most_bytes (length (file_text table)))
  where
    go : Dec (most_bytes < length (file_text table))
        → length (after_writing (Ok tt) table) ≤ most_bytes
    go (yes long) =
        rw (lt-ltb most_bytes (length (file_text table)) long)
        (refused_short 23 0 (omega arith) (omega arith))
    go (no h) =
        let short : length (file_text table) ≤ most_bytes = omega arith in
        rw (le-ltb most_bytes (length (file_text table)) short) short

pub writing_short : (bytes : List ℕ) → length (writing_answer bytes) ≤ most_bytes
unfolding writing_answer
writing_short bytes = go (read_decided bytes)
  where
    go : Decided bytes (read_answer bytes) → length (writing_answer bytes) ≤ most_bytes
    go (taken table file e) = rw e (table_short table)
    go (turned number line one small low e) =
        rw e (refused_short number line (omega arith) (omega arith))
