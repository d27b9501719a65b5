-- What is promised of the reader, each with its proof. Assumes nothing.
use Prim.Native.Nat.{ℕ, ◌<◌}
use mathlib.Core.Bool.{true}
use mathlib.Core.List.{List}
use mathlib.Core.Logic.{◌↔◌}
use mathlib.Core.Path.{◌≡◌, sym, ap, ◌∙◌}
use lib.ListN.{length}
use Rattle.letters.specs.Letter.{in_set}
use Rattle.letters.proofs.Sets.{in_set_of}
use Rattle.table.specs.Valid.{table_valid}
use Rattle.table.specs.Further.Numbers.{number_of}
use Rattle.table.specs.declared.Name.{Name}
use Rattle.table.specs.declared.Table.{Table}
use Rattle.text.specs.Bounds.{IsBound}
use Rattle.text.specs.Inner.Bounds.{bound_of}
use Rattle.std.specs.Prelude.{Some, Result}
use Rattle.text.proofs.Bounds.{bound_of_right, bound_of_complete}
use Rattle.conditions.specs.Condition.{Condition, choice, text, holds_at}
use Rattle.conditions.specs.Judge.{IsCondition, RightCondition}
use Rattle.conditions.specs.Inner.Judge.{judge}
use Rattle.conditions.proofs.Conditions.{trees_letters}
use Rattle.conditions.proofs.Judging as Judging
use Rattle.reader.specs.Inner.File.{read_answer}
use Rattle.reader.specs.Grammar.{IsFile}
use Rattle.reader.specs.Reading.{accepted}
use Rattle.reader.specs.Sized.{Sized}
use Rattle.reader.specs.Further.Allowed.{IsAllowed}
use Rattle.reader.specs.Further.Witness.{Witnessed}
use Rattle.reader.specs.declared.Reading.{Reading}
use Rattle.reader.proofs.Accepted as Accepting
use Rattle.reader.proofs.Allowed as Allowed
use Rattle.reader.proofs.Valid as Valid
use Rattle.reader.proofs.Witness as Witness

-- Demand 2: "the reader accepts exactly the tables that document 01 describes, keeps each name and
-- bound and gives each condition its meaning". No bytes have two tables, and each table is one that
-- number 17 lets by.
module _ (bytes : List ℕ) (table : Table) where
  pub accepted_file : read_answer bytes ≡ accepted table → IsFile bytes table
  accepted_file = Accepting.accepted_file bytes table

  pub file_accepted : IsFile bytes table → read_answer bytes ≡ accepted table
  file_accepted = Accepting.file_accepted bytes table

  pub file_unique : (other : Table) → IsFile bytes table → IsFile bytes other → table ≡ other
  file_unique other p q =
      ap (λ (r : Reading). r.table)
      (sym (Accepting.file_accepted bytes table p) ∙ Accepting.file_accepted bytes other q)

  pub file_valid : IsFile bytes table → table_valid table ≡ true
  file_valid = Valid.file_valid bytes table

-- "Limits: 4,096 bytes": number 2 is for a file of more, and for no other.
pub number_two : (bytes : List ℕ) → (number_of (read_answer bytes).outcome ≡ 2)
    ↔ (4096 < length bytes)
number_two = Accepting.number_two

-- 17: "a table value with a signal count, names, row count or bounds that no accepted file has, an
-- unused place that is not 0, or a set with a letter from 2^s on" is turned down, and only such:
-- what is let by, clause by clause;
pub allowed_exactly : (table : Table) → Sized table → (table_valid table ≡ true) ↔ IsAllowed table
allowed_exactly = Allowed.allowed_exactly

-- and its signal count, names, row count and bounds are in some accepted file.
pub valid_witnessed : (table : Table) → Sized table → table_valid table ≡ true → Witnessed table
valid_witnessed = Witness.valid_witnessed

-- A letter is in a condition's set exactly where the condition holds, whichever tree its bytes are
-- read as.
pub condition_meaning : (names : List Name) (n : ℕ) (xs : List ℕ) (set : ℕ)
    → IsCondition names n xs set → (tree : Condition choice) → text tree ≡ xs → (l : ℕ) → l < n
    → in_set set l ≡ holds_at names tree l
condition_meaning names n xs set c tree e l low =
    let m = c.means in
    rw (← m.letters)
    (in_set_of n l (holds_at names m.tree) low
    ∙ trees_letters names m.tree tree (m.bytes ∙ sym e) l)

-- "11, 12, 13 over the whole condition": what is said of a condition is right, and nothing else is;
-- and a bound is one of the texts `0` to `60`.
module _ (names : List Name) (n : ℕ) (xs : List ℕ) where
  pub judge_right : RightCondition names n xs (judge names n xs)
  judge_right = Judging.judge_right names n xs

  pub right_unique : {a b : Result ℕ ℕ} → RightCondition names n xs a → RightCondition names n xs b
      → a ≡ b
  right_unique = Judging.right_unique names n xs

pub bound_right : (xs : List ℕ) (n : ℕ) → bound_of xs ≡ Some n → IsBound xs n
bound_right = bound_of_right

pub bound_found : (xs : List ℕ) (n : ℕ) → IsBound xs n → bound_of xs ≡ Some n
bound_found = bound_of_complete
