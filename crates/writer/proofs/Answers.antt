-- The four answers of a call that writes a table: which comes in which case, and that some case
-- there is. Assumes nothing.
use Prim.Native.Nat.{ℕ, ◌<◌, ◌≤◌}
use borrow.Author.Tests.{lt-ltb, le-ltb}
use native.Mathlib.Decide.{dec_lt}
use native.Mathlib.Omega.{arith}
use mathlib.Core.Bool.{Bool, true, false}
use mathlib.Core.List.{List}
use mathlib.Core.Path.{◌≡◌, refl}
use lib.ListN.{length}
use Rattle.table.specs.Limits.{most_bytes}
use Rattle.table.specs.Valid.{table_valid}
use Rattle.table.specs.declared.Table.{Table}
use Rattle.put.proofs.Pages.{added_le}
use Rattle.writer.specs.File.{file_text, WriteCall, unwritten, wrote, write_answer}

module _ (table : Table) (buffer : List ℕ) where
  abbrev text : List ℕ
  text = file_text table

  -- What holds under each answer.
  pub data Case : Type 0 where
    is17 : table_valid table ≡ false → Case
    is23 : table_valid table ≡ true → most_bytes < length text → Case
    is24 : table_valid table ≡ true → length text ≤ most_bytes → length buffer < length text → Case
    is_written : table_valid table ≡ true → length text ≤ most_bytes → length text ≤ length buffer
        → Case

  abbrev pub answer_of : Case → WriteCall
  answer_of (is17 fails) = unwritten 17 buffer
  answer_of (is23 passes long) = unwritten 23 buffer
  answer_of (is24 passes few short) = unwritten 24 buffer
  answer_of (is_written passes few room) = wrote text buffer

  pub case_answer : (case : Case) → write_answer table buffer ≡ answer_of case
  unfolding write_answer
  case_answer (is17 fails) = rw fails
  case_answer (is23 passes long) = rw (passes, lt-ltb most_bytes (length text) long)
  case_answer (is24 passes few short) =
      rw (
        passes,
        le-ltb most_bytes (length text) few,
        lt-ltb (length buffer) (length text) short,
      )
  case_answer (is_written passes few room) =
      rw (
        passes,
        le-ltb most_bytes (length text) few,
        le-ltb (length buffer) (length text) room,
      )

  pub case_found : Case
  case_found =
      go (table_valid table) refl (dec_lt most_bytes (length text))
      (dec_lt (length buffer) (length text))
    where
      go : (t : Bool) → table_valid table ≡ t → Dec (most_bytes < length text)
          → Dec (length buffer < length text) → Case
      go false e long short = is17 e
      go true e (yes long) short = is23 e long
      go true e (no long) (yes short) = is24 e (omega arith) short
      go true e (no long) (no short) = is_written e (omega arith) (omega arith)

  -- The answer 23 by itself, for `write` in src/lib.rt.
  pub answer23 : table_valid table ≡ true → most_bytes < length text
      → write_answer table buffer ≡ unwritten 23 buffer
  answer23 passes long = case_answer (is23 passes long)

pub ruleset long_file = (answer23, added_le)
