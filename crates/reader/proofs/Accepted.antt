-- The reader accepts exactly the files of the grammar, each as its table. Assumes nothing.
use Prim.Native.Nat.{ℕ, ◌+◌, ◌<◌, ◌≤◌}
use native.Mathlib.Omega.{arith}
use mathlib.Core.Bool.{Bool, true, false, true≢false}
use mathlib.Core.List.{List, map}
use mathlib.Core.Logic.{◌↔◌}
use mathlib.Core.Path.{◌≡◌, refl, sym, ap, subst, ◌∙◌}
use lib.ListN.{length}
use Rattle.letters.specs.Letter.{width}
use Rattle.table.specs.Limits.{most_bytes, most_rows}
use Rattle.table.specs.Further.Numbers.{number_of}
use Rattle.table.specs.Refusal.{Outcome}
use Rattle.std.specs.Prelude.{Ok, Err}
use Rattle.table.specs.declared.Table.{Table}
use Rattle.conditions.specs.Condition.{name_of}
use Rattle.rows.proofs.Rules.{fault_among}
use Rattle.reader.specs.Reading.{accepted, refused_file}
use Rattle.reader.specs.Grammar.{IsFile}
use Rattle.reader.specs.Right.{RightReading, is1, is2, is3, is4, is5, is6missing, is6, is7}
use Rattle.reader.specs.Right.{is8, is9, is_fault, is16, is_table}
use Rattle.reader.specs.Inner.File.{read_answer}
use Rattle.reader.specs.declared.Reading.{Reading}
use Rattle.reader.proofs.Only.{read_only}
use Rattle.reader.proofs.Found.{read_answered}

-- A right answer is a table, that of the file, or a refusal, by one of 1 to 16, with a small line.
pub data Decided (bytes : List ℕ) (r : Reading) : Type 0 where
  taken : (table : Table) → IsFile bytes table → r ≡ accepted table → Decided bytes r
  turned : (number line : ℕ) → 1 ≤ number → number ≤ 16 → line < 100
      → r ≡ refused_file number line → Decided bytes r

right_decided : (bytes : List ℕ) (r : Reading) → RightReading bytes r → Decided bytes r
right_decided bytes r (is1 e) = turned 1 0 (omega arith) (omega arith) (omega arith) refl
right_decided bytes r (is2 h) = turned 2 0 (omega arith) (omega arith) (omega arith) refl
right_decided bytes r (is3 before last e other few) =
    turned 3 0 (omega arith) (omega arith) (omega arith) refl
right_decided bytes r (is4 l h) = turned 4 1 (omega arith) (omega arith) (omega arith) refl
right_decided bytes r (is5 l h other) = turned 5 1 (omega arith) (omega arith) (omega arith) refl
right_decided bytes r (is6missing version l) =
    turned 6 2 (omega arith) (omega arith) (omega arith) refl
right_decided bytes r (is6 version l h) = turned 6 2 (omega arith) (omega arith) (omega arith) refl
right_decided bytes r (is7 n many) = turned 7 2 (omega arith) (omega arith) (omega arith) refl
right_decided bytes r (is8 n few twice) = turned 8 2 (omega arith) (omega arith) (omega arith) refl
right_decided bytes r (is9 line rest b same are full) =
    turned 9 (most_rows + 3) (omega arith) (omega arith) (omega arith) refl
right_decided bytes r (is_fault {file} {before} {number} line rest b same are low f) =
    let among = fault_among (map name_of file.names) (width (length file.names))
    file.version line number f in
    turned number (length before + 3) (omega (arith, among.0)) (omega (arith, among.1))
    (omega arith) refl
right_decided bytes r (is16 b empty) = turned 16 3 (omega arith) (omega arith) (omega arith) refl
right_decided bytes r (is_table {table} f) = taken table f refl

pub read_decided : (bytes : List ℕ) → Decided bytes (read_answer bytes)
read_decided bytes = right_decided bytes (read_answer bytes) (read_answered bytes)

-- Which table.
abbrev is_accepted : Outcome → Bool
is_accepted (Ok _) = true
is_accepted (Err refusal) = false

module _ (bytes : List ℕ) (table : Table) where
  pub accepted_file : read_answer bytes ≡ accepted table → IsFile bytes table
  accepted_file e = go (read_decided bytes)
    where
      go : Decided bytes (read_answer bytes) → IsFile bytes table
      go (taken other f same) =
          subst (IsFile bytes) (ap (λ (r : Reading). r.table) (sym same ∙ e)) f
      go (turned number line one small low same) =
          absurd (true≢false (sym (ap (λ (r : Reading). is_accepted r.outcome) (sym same ∙ e))))

  pub file_accepted : IsFile bytes table → read_answer bytes ≡ accepted table
  file_accepted f = read_only bytes (accepted table) (is_table f)

-- Which files are too long.
module _ (bytes : List ℕ) where
  right_two : (r : Reading) → RightReading bytes r → number_of r.outcome ≡ 2
      → most_bytes < length bytes
  right_two r (is1 e) two = absurd (omega arith)
  right_two r (is2 long) two = long
  right_two r (is3 before last e other few) two = absurd (omega arith)
  right_two r (is4 l h) two = absurd (omega arith)
  right_two r (is5 l h other) two = absurd (omega arith)
  right_two r (is6missing version l) two = absurd (omega arith)
  right_two r (is6 version l h) two = absurd (omega arith)
  right_two r (is7 n many) two = absurd (omega arith)
  right_two r (is8 n few twice) two = absurd (omega arith)
  right_two r (is9 line rest b same are full) two = absurd (omega arith)
  right_two r (is_fault {file} {number} line rest b same are low f) two =
      absurd (omega (
        arith,
        fault_among (map name_of file.names) (width (length file.names))
            file.version line number f,
      ))
  right_two r (is16 b empty) two = absurd (omega arith)
  right_two r (is_table f) two = absurd (omega arith)

  pub number_two : (number_of (read_answer bytes).outcome ≡ 2) ↔ (most_bytes < length bytes)
  number_two = (
    right_two (read_answer bytes) (read_answered bytes),
    λ long. rw (read_only bytes (refused_file 2 0) (is2 long)),
  )
