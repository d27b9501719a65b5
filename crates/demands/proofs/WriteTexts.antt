-- What a call of the writer answers and leaves, by its cases; and what `writetable` prints of a
-- file: `RightWriting`, and nothing else. Assumes nothing.
use Prim.Native.Nat.{ℕ, suc, ◌<◌, ◌≤◌}
use borrow.Author.Tests.{lt-ltb, le-ltb}
use native.Mathlib.Decide.{dec_lt}
use native.Mathlib.Omega.{arith}
use mathlib.Core.Bool.{true, false}
use mathlib.Core.List.{List}
use mathlib.Core.Logic.{◌⊎◌, inl, inr, ◌↔◌}
use mathlib.Core.Path.{◌≡◌, refl, sym, ap, subst, ◌∙◌}
use lib.ListN.{length, take, drop}
use lib.Seq.{drop-append_seam}
use Rattle.table.specs.Limits.{most_bytes}
use Rattle.table.specs.Valid.{table_valid}
use Rattle.table.specs.Further.Numbers.{number_of, line_of}
use Rattle.std.specs.Prelude.{Ok}
use Rattle.table.specs.declared.Table.{Table}
use Rattle.reader.specs.Grammar.{IsFile}
use Rattle.reader.specs.Right.{RightReading}
use Rattle.reader.specs.Inner.File.{read_answer}
use Rattle.reader.proofs.Accepted.{Decided, taken, turned, read_decided, file_accepted}
use Rattle.reader.proofs.Found.{read_answered}
use Rattle.reader.proofs.Only.{read_only, read_first_bytes}
use Rattle.verdict.proofs.Buffer.{written_fits, written_front}
use Rattle.writer.specs.File.{file_text, WriteCall, unwritten, wrote, write_answer}
use Rattle.writer.proofs.Answers.{Case, is17, is23, is24, is_written, answer_of, case_answer}
use Rattle.writer.proofs.Answers.{case_found}
use Rattle.checker.specs.Inner.Computed.{after_writing, writing_answer}
use Rattle.demands.specs.Writing.{IsWritten, RightWriting}
use Rattle.demands.specs.Writing.RightWriting.{refused, too_long, written as printed}
use Rattle.demands.proofs.FileTexts.{written_file}

-- One call, of any table value and any buffer.
module _ (table : Table) (buffer : List ℕ) where
  abbrev text : List ℕ
  text = file_text table

  -- The cases of this call, and the one that it is.
  abbrev Cases : Type 0
  Cases = Case table buffer

  abbrev answer : Cases → WriteCall
  answer case = answer_of table buffer case

  answered : (case : Cases) → write_answer table buffer ≡ answer case
  answered = case_answer table buffer

  found : Cases
  found = case_found table buffer

  -- The number says which it is.
  abbrev number : WriteCall → ℕ
  number call = number_of call.outcome

  case_number : (call : WriteCall) → write_answer table buffer ≡ call
      → number (answer found) ≡ number call
  case_number call e = ap number (sym (answered found) ∙ e)

  only_17 : (case : Cases) → number (answer case) ≡ 17 → table_valid table ≡ false
  only_17 (is17 fails) e = fails
  only_17 (is23 passes long) e = absurd (omega arith)
  only_17 (is24 passes few short) e = absurd (omega arith)
  only_17 (is_written passes few room) e = absurd (omega arith)

  only_23 : (case : Cases) → number (answer case) ≡ 23
      → (table_valid table ≡ true) × (most_bytes < length text)
  only_23 (is17 fails) e = absurd (omega arith)
  only_23 (is23 passes long) e = (passes, long)
  only_23 (is24 passes few short) e = absurd (omega arith)
  only_23 (is_written passes few room) e = absurd (omega arith)

  only_24 : (case : Cases) → number (answer case) ≡ 24
      → (table_valid table ≡ true) × (length text ≤ most_bytes) × (length buffer < length text)
  only_24 (is17 fails) e = absurd (omega arith)
  only_24 (is23 passes long) e = absurd (omega arith)
  only_24 (is24 passes few short) e = (passes, few, short)
  only_24 (is_written passes few room) e = absurd (omega arith)

  only_written : (case : Cases) → number (answer case) ≡ 0
      → (table_valid table ≡ true) × (length text ≤ most_bytes) × (length text ≤ length buffer)
  only_written (is17 fails) e = absurd (omega arith)
  only_written (is23 passes long) e = absurd (omega arith)
  only_written (is24 passes few short) e = absurd (omega arith)
  only_written (is_written passes few room) e = (passes, few, room)

  pub write_17 : (write_answer table buffer ≡ unwritten 17 buffer) ↔ (table_valid table ≡ false)
  write_17 = (
    λ e. only_17 found (case_number (unwritten 17 buffer) e),
    λ fails. answered (is17 fails),
  )

  pub write_23 : (write_answer table buffer ≡ unwritten 23 buffer)
      ↔ ((table_valid table ≡ true) × (most_bytes < length text))
  write_23 = (
    λ e. only_23 found (case_number (unwritten 23 buffer) e),
    λ h. answered (is23 h.0 h.1),
  )

  pub write_24 : (write_answer table buffer ≡ unwritten 24 buffer)
      ↔ ((table_valid table ≡ true) × (length text ≤ most_bytes) × (length buffer < length text))
  write_24 = (
    λ e. only_24 found (case_number (unwritten 24 buffer) e),
    λ h. answered (is24 h.0 h.1 h.2),
  )

  pub written_exactly : (write_answer table buffer ≡ wrote text buffer)
      ↔ ((table_valid table ≡ true) × (length text ≤ most_bytes) × (length text ≤ length buffer))
  written_exactly = (
    λ e. only_written found (case_number (wrote text buffer) e),
    λ h. answered (is_written h.0 h.1 h.2),
  )

  pub write_one_of_four : (write_answer table buffer ≡ unwritten 17 buffer)
      ⊎ ((write_answer table buffer ≡ unwritten 23 buffer)
      ⊎ ((write_answer table buffer ≡ unwritten 24 buffer)
      ⊎ (write_answer table buffer ≡ wrote text buffer)))
  write_one_of_four = go found
    where
      go : Cases → (write_answer table buffer ≡ unwritten 17 buffer)
          ⊎ ((write_answer table buffer ≡ unwritten 23 buffer)
          ⊎ ((write_answer table buffer ≡ unwritten 24 buffer)
          ⊎ (write_answer table buffer ≡ wrote text buffer)))
      go (is17 fails) = inl (answered (is17 fails))
      go (is23 passes long) = inr (inl (answered (is23 passes long)))
      go (is24 passes few short) = inr (inr (inl (answered (is24 passes few short))))
      go (is_written passes few room) = inr (inr (inr (answered (is_written passes few room))))

  -- No line is told; and a call that refuses leaves length 0 and the buffer as it was.
  pub write_line : line_of (write_answer table buffer).outcome ≡ 0
  write_line = ap (λ (call : WriteCall). line_of call.outcome) (answered found) ∙ go found
    where
      go : (case : Cases) → line_of (answer case).outcome ≡ 0
      go (is17 fails) = refl
      go (is23 passes long) = refl
      go (is24 passes few short) = refl
      go (is_written passes few room) = refl

  pub write_refused : (n : ℕ) → number_of (write_answer table buffer).outcome ≡ suc n
      → ((write_answer table buffer).length ≡ 0) × ((write_answer table buffer).buffer ≡ buffer)
  write_refused n e =
      let left = go found (case_number (write_answer table buffer) refl ∙ e) in (
        ap (λ (call : WriteCall). call.length) (answered found) ∙ left.0,
        ap (λ (call : WriteCall). call.buffer) (answered found) ∙ left.1,
      )
    where
      go : (case : Cases) → number (answer case) ≡ suc n
          → ((answer case).length ≡ 0) × ((answer case).buffer ≡ buffer)
      go (is17 fails) e = (refl, refl)
      go (is23 passes long) e = (refl, refl)
      go (is24 passes few short) e = (refl, refl)
      go (is_written passes few room) e = absurd (omega arith)

  pub written_behind : (write_answer table buffer).outcome ≡ Ok tt
      → let call = write_answer table buffer in
      (take call.length call.buffer ≡ text)
      × (drop call.length call.buffer ≡ drop call.length buffer)
  written_behind e =
      let h = only_written found
      (case_number (write_answer table buffer) refl ∙ ap number_of e) in
      rw (written_exactly.1 h) (
        written_front text buffer h.2,
        rw (written_fits text buffer h.2)
            (drop-append_seam text (drop (length text) buffer)),
      )

-- From the bytes of a file to the bytes that are printed.
module _ (bytes : List ℕ) where
  pub writing_answered : RightWriting bytes (writing_answer bytes)
  unfolding writing_answer
  writing_answered = go (read_decided bytes)
    where
      sorted : (table : Table) → IsFile bytes table → Dec (most_bytes < length (file_text table))
          → RightWriting bytes (after_writing (Ok tt) table)
      sorted table file (yes long) =
          rw (lt-ltb most_bytes (length (file_text table)) long) (too_long file long)
      sorted table file (no long) =
          let few : length (file_text table) ≤ most_bytes = omega arith in
          rw (le-ltb most_bytes (length (file_text table)) few) (printed file few)

      go : Decided bytes (read_answer bytes) → RightWriting bytes (writing_answer bytes)
      go (taken table file e) =
          rw e (sorted table file (dec_lt most_bytes (length (file_text table))))
      go (turned number line one small low e) =
          rw e (refused (subst (RightReading bytes) e (read_answered bytes)))

  pub writing_only : (text : List ℕ) → RightWriting bytes text → writing_answer bytes ≡ text
  unfolding writing_answer
  writing_only text (refused right) = rw (read_only bytes _ right)
  writing_only text (too_long {table = table} file long) =
      rw (file_accepted bytes table file, lt-ltb most_bytes (length (file_text table)) long)
  writing_only text (printed {table = table} file few) =
      rw (file_accepted bytes table file, le-ltb most_bytes (length (file_text table)) few)

-- A written file is printed as it is.
pub written_again : (table : Table) → IsWritten table
    → writing_answer (file_text table) ≡ file_text table
written_again table w =
    writing_only (file_text table) (file_text table)
    (printed ((written_file table w.writable).1 w.short) w.short)

-- No more of a file is read than its first 4,097 bytes.
pub writing_first_bytes : (bytes : List ℕ)
    → writing_answer (take (suc most_bytes) bytes) ≡ writing_answer bytes
unfolding writing_answer
writing_first_bytes bytes = rw (read_first_bytes bytes)
