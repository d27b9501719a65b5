-- What is promised of the writer, each with its proof. Assumes nothing.
use Prim.Native.Nat.{ℕ, suc, ◌<◌, ◌≤◌}
use mathlib.Core.Bool.{true, false}
use mathlib.Core.List.{List}
use mathlib.Core.Logic.{◌⊎◌, ◌↔◌}
use mathlib.Core.Path.{◌≡◌, ap}
use lib.ListN.{length, take, drop}
use Rattle.letters.specs.Letter.{width, set_valid}
use Rattle.table.specs.Limits.{most_bytes}
use Rattle.table.specs.Valid.{table_valid}
use Rattle.table.specs.Further.Numbers.{number_of, line_of}
use Rattle.table.specs.declared.Name.{Name}
use Rattle.std.specs.Prelude.{Ok}
use Rattle.table.specs.declared.Table.{Table}
use Rattle.conditions.specs.Judge.{IsCondition}
use Rattle.reader.specs.Grammar.{IsFile}
use Rattle.reader.specs.Reading.{accepted}
use Rattle.reader.specs.Sized.{Sized}
use Rattle.reader.specs.Inner.File.{read_answer}
use Rattle.reader.proofs.Sizes as Sizes
use Rattle.writer.specs.File.{condition_text, used_names, file_text, unwritten, wrote, write_answer}
use Rattle.checker.specs.Inner.Computed.{writing_answer}
use Rattle.checker.proofs.Writing as Printing
use Rattle.demands.specs.Writing.{Writable, IsWritten, SameTable, RightWriting}
use Rattle.demands.specs.Further.Canonical.{IsConditionText}
use Rattle.demands.proofs.ConditionTexts as Conditions
use Rattle.demands.proofs.FileTexts as Files
use Rattle.demands.proofs.Reading as Reading
use Rattle.demands.proofs.WriteTexts as Texts

-- "A condition that never holds is `0` and one that always holds is `1`. Otherwise it is one term
-- for each letter that satisfies it, smallest first, joined by `|`; a term joins every signal in
-- file order by `&`, with `!` where it is false": the text is so, and no other text is.
module _ (names : List Name) (s set : ℕ) where
  pub condition_described : IsConditionText names s set (condition_text names s set)
  condition_described = Conditions.condition_described names s set

  pub condition_only : (xs : List ℕ) → IsConditionText names s set xs
      → condition_text names s set ≡ xs
  condition_only = Conditions.condition_only names s set

-- It is a condition of the grammar, and holds at the letters of its set.
pub written_condition : (table : Table) → Writable table → (set : ℕ)
    → set_valid table.signals set ≡ true
    → IsCondition (used_names table) (width table.signals)
    (condition_text (used_names table) table.signals set) set
written_condition = Files.written_condition

-- "Write any table value back as a version 0001 file": its text is a file of the grammar, whose
-- table it is, exactly where it does not "exceed 4,096 bytes".
pub written_file : (table : Table) → Writable table
    → IsFile (file_text table) table ↔ (length (file_text table) ≤ most_bytes)
written_file = Files.written_file

-- "Reading the file yields the table it came from."
pub written_read : (table : Table) → IsWritten table
    → read_answer (file_text table) ≡ accepted table
written_read table w =
    Reading.file_accepted (file_text table) table
    ((written_file table w.writable).1 w.short)

-- "Two accepted tables that are both written give equal bytes if and only if their names, sets,
-- bounds and row order are equal": if they are the same table value, which has no other parts.
module _ (one other : Table) where
  pub same_bytes : IsWritten one → IsWritten other → file_text one ≡ file_text other → one ≡ other
  same_bytes w v e =
      Reading.file_unique (file_text one) one other ((written_file one w.writable).1 w.short)
      (rw e ((written_file other v.writable).1 v.short))

  pub same_written : one ≡ other → file_text one ≡ file_text other
  same_written = ap file_text

  pub same_parts : Writable one → Writable other → SameTable one other → one ≡ other
  same_parts = Files.same_parts

  pub parts_same : one ≡ other → SameTable one other
  parts_same = Files.parts_same

  pub bytes_exactly : IsWritten one → IsWritten other
      → (file_text one ≡ file_text other) ↔ SameTable one other
  bytes_exactly w v = (
    λ e. parts_same (same_bytes w v e),
    λ same. same_written (same_parts w.writable v.writable same),
  )

-- The table of a file is such a table value.
module _ (bytes : List ℕ) (table : Table) (file : IsFile bytes table) where
  pub file_sized : Sized table
  file_sized = Sizes.file_sized bytes table file

  pub file_writable : Writable table
  file_writable =
      record { sized = file_sized; passes = Reading.file_valid bytes table file }

  pub file_written : length (file_text table) ≤ most_bytes → IsWritten table
  file_written few = record { writable = file_writable; short = few }

-- "Two customers send the same table with other parentheses": two files have the same table exactly
-- where it is written with the same bytes.
pub files_alike : (bytes others : List ℕ) (one other : Table) → IsFile bytes one
    → IsFile others other → length (file_text one) ≤ most_bytes → length (file_text other) ≤ most_bytes
    → (file_text one ≡ file_text other) ↔ (one ≡ other)
files_alike bytes others one other f g few short = (
  same_bytes one other (file_written bytes one f few) (file_written others other g short),
  same_written one other,
)

-- One call, of any table value and any buffer.
module _ (table : Table) (buffer : List ℕ) where
  abbrev text : List ℕ
  text = file_text table

  -- "Checks: 23 the file would exceed 4,096 bytes, then 24 the lent buffer is shorter than the
  -- file, both after 17": each answer comes exactly so, and one of the four does.
  pub write_17 : (write_answer table buffer ≡ unwritten 17 buffer) ↔ (table_valid table ≡ false)
  write_17 = Texts.write_17 table buffer

  pub write_23 : (write_answer table buffer ≡ unwritten 23 buffer)
      ↔ ((table_valid table ≡ true) × (most_bytes < length text))
  write_23 = Texts.write_23 table buffer

  pub write_24 : (write_answer table buffer ≡ unwritten 24 buffer)
      ↔ ((table_valid table ≡ true) × (length text ≤ most_bytes) × (length buffer < length text))
  write_24 = Texts.write_24 table buffer

  pub written_exactly : (write_answer table buffer ≡ wrote text buffer)
      ↔ ((table_valid table ≡ true) × (length text ≤ most_bytes) × (length text ≤ length buffer))
  written_exactly = Texts.written_exactly table buffer

  pub write_one_of_four : (write_answer table buffer ≡ unwritten 17 buffer)
      ⊎ ((write_answer table buffer ≡ unwritten 23 buffer)
      ⊎ ((write_answer table buffer ≡ unwritten 24 buffer)
      ⊎ (write_answer table buffer ≡ wrote text buffer)))
  write_one_of_four = Texts.write_one_of_four table buffer

  -- They have line 0 and length 0, and "the buffer is then unchanged. When the file is written, the
  -- answer gives its length and the bytes behind it are unchanged."
  pub write_line : line_of (write_answer table buffer).outcome ≡ 0
  write_line = Texts.write_line table buffer

  pub write_refused : (n : ℕ) → number_of (write_answer table buffer).outcome ≡ suc n
      → ((write_answer table buffer).length ≡ 0) × ((write_answer table buffer).buffer ≡ buffer)
  write_refused = Texts.write_refused table buffer

  pub written_behind : (write_answer table buffer).outcome ≡ Ok tt
      → let call = write_answer table buffer in
      (take call.length call.buffer ≡ text)
      × (drop call.length call.buffer ≡ drop call.length buffer)
  written_behind = Texts.written_behind table buffer

-- From the bytes of any file to the bytes that `writetable` prints: those of `RightWriting`, and no
-- others.
module _ (bytes : List ℕ) where
  pub writing_answered : RightWriting bytes (writing_answer bytes)
  writing_answered = Texts.writing_answered bytes

  pub writing_text_only : (text : List ℕ) → RightWriting bytes text → writing_answer bytes ≡ text
  writing_text_only = Texts.writing_only bytes

  -- They are no more than its buffer holds, so 24 never comes up.
  pub writing_short : length (writing_answer bytes) ≤ most_bytes
  writing_short = Printing.writing_short bytes

  -- It reads no more of a file than its first 4,097 bytes.
  pub writing_first_bytes : writing_answer (take (suc most_bytes) bytes) ≡ writing_answer bytes
  writing_first_bytes = Texts.writing_first_bytes bytes

-- A file that is written is printed as it is.
pub written_again : (table : Table) → IsWritten table
    → writing_answer (file_text table) ≡ file_text table
written_again = Texts.written_again
