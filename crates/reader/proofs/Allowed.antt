-- Number 17 lets by exactly the table values of `IsAllowed`. Assumes nothing.
use Prim.Native.Nat.{ℕ, zero, suc, ◌≤◌, ◌<◌, ◌^◌}
use borrow.Author.Tests.{ltb-true, not-true}
use native.Mathlib.Omega.{arith}
use mathlib.Core.Bool.{Bool, true, false, not, true≢false}
use mathlib.Core.List.{List, [], ◌∷◌, map}
use mathlib.Core.Logic.{◌↔◌}
use mathlib.Core.Path.{◌≡◌, refl, sym, ◌∙◌}
use lib.ListN.{length, get_or}
use lib.Pow.{pow_pos}
use Rattle.letters.specs.Letter.{letters, in_set, set_valid}
use Rattle.letters.specs.Lists.{every, some}
use Rattle.letters.proofs.Bits.{bit_place, set_valid_only_if}
use Rattle.letters.proofs.Elements.{mem_at, some_if, some_map}
use Rattle.letters.proofs.Lists.{and_left, and_right, same_bytes_refl, within_true}
use Rattle.table.specs.Limits.{most_ticks}
use Rattle.table.specs.Name.{same_name, all_distinct}
use Rattle.table.specs.Row.{row_valid}
use Rattle.table.specs.Valid.{rows_of, rows_valid, table_valid}
use Rattle.table.specs.declared.Row.{Row}
use Rattle.table.specs.declared.Table.{Table}
use Rattle.table.proofs.Laws.{row_valid_bounds, row_valid_sets, table_valid_signals}
use Rattle.table.proofs.Laws.{table_valid_count, table_from_valid, counts_right}
use Rattle.text.specs.Lines.{All, none as All-none, and as all-and}
use Rattle.conditions.specs.Condition.{IsName, name_of}
use Rattle.conditions.proofs.Places.{name_of_injective}
use Rattle.reader.specs.Sized.{Sized}
use Rattle.reader.specs.Further.Allowed.{IsAllowedRow, IsAllowed}
use Rattle.reader.proofs.Files as Files
use Rattle.reader.proofs.Valid.{names_from_valid}

-- No name stands twice: as the test has it, and place by place.
module _ (w : List ℕ) where
  apart_if : (words : List (List ℕ)) → some (same_name (name_of w)) (map name_of words) ≡ false
      → (j : ℕ) → j < length words → w ≡ get_or words j [] → ⊥
  apart_if words none j low same =
      true≢false
      (sym (some_if (λ v. same_name (name_of w) (name_of v)) (get_or words j []) words
      (mem_at [] words j low) (rw (← same) (same_bytes_refl (name_of w).chars)))
      ∙ sym (some_map (same_name (name_of w)) name_of words) ∙ none)

  apart_only_if : (words : List (List ℕ)) → IsName w → All IsName words
      → ((j : ℕ) → j < length words → w ≡ get_or words j [] → ⊥)
      → some (same_name (name_of w)) (map name_of words) ≡ false
  unfolding some
  apart_only_if [] name named differ = refl
  apart_only_if (v ∷ words) name (all-and first named) differ =
      rw (other (same_name (name_of w) (name_of v)) refl)
      (apart_only_if words name named (λ j low. differ (suc j) (omega arith)))
    where
      other : (t : Bool) → same_name (name_of w) (name_of v) ≡ t → t ≡ false
      other true e = absurd (differ 0 (omega arith) (name_of_injective w v name first e))
      other false e = refl

abbrev Differ : List (List ℕ) → Type 0
Differ words = (i j : ℕ) → i < j → j < length words → get_or words i [] ≡ get_or words j [] → ⊥

differ_if : (words : List (List ℕ)) → all_distinct (map name_of words) ≡ true → Differ words
unfolding all_distinct
differ_if [] distinct i j before low = absurd (omega arith)
differ_if (w ∷ words) distinct zero zero before low = absurd (omega arith)
differ_if (w ∷ words) distinct zero (suc j) before low =
    apart_if w words (not-true _ (and_left (not (some (same_name (name_of w)) (map name_of words))) _
    distinct)) j (omega arith)
differ_if (w ∷ words) distinct (suc i) zero before low = absurd (omega arith)
differ_if (w ∷ words) distinct (suc i) (suc j) before low =
    differ_if words (and_right (not (some (same_name (name_of w)) (map name_of words))) _ distinct) i j
    (omega arith) (omega arith)

differ_only_if : (words : List (List ℕ)) → All IsName words → Differ words
    → all_distinct (map name_of words) ≡ true
unfolding all_distinct
differ_only_if [] named differ = refl
differ_only_if (w ∷ words) (all-and name named) differ =
    rw (apart_only_if w words name named (λ j low. differ 0 (suc j) (omega arith) (omega arith)))
    (differ_only_if words named (λ i j before low. differ (suc i) (suc j) (omega arith)
    (omega arith)))

-- The sets of a row, each at its place.
module _ (s : ℕ) where
  set_low : (sets : List ℕ) → every (set_valid s) sets ≡ true → (k : ℕ)
      → get_or sets k 0 < 2 ^ letters s
  unfolding every
  set_low [] fits k = pow_pos (letters s)
  set_low (set ∷ sets) fits zero =
      ltb-true set (2 ^ letters s) (and_left (set_valid s set) (every (set_valid s) sets) fits)
  set_low (set ∷ sets) fits (suc k) =
      set_low sets (and_right (set_valid s set) (every (set_valid s) sets) fits) k

  sets_only_if : (sets : List ℕ)
      → ((k l : ℕ) → in_set (get_or sets k 0) l ≡ true → l < letters s)
      → every (set_valid s) sets ≡ true
  unfolding every
  sets_only_if [] low = refl
  sets_only_if (set ∷ sets) low =
      rw (set_valid_only_if s set (λ l high. none l high (in_set set l) refl))
      (sets_only_if sets (λ k. low (suc k)))
    where
      none : (l : ℕ) → letters s ≤ l → (t : Bool) → in_set set l ≡ t → t ≡ false
      none l high true e = absurd (let small = low 0 l e in omega arith)
      none l high false e = refl

  row_if : (row : Row) → row_valid s row ≡ true → IsAllowedRow s row
  row_if row fits =
      let bounds = row_valid_bounds s row fits in
      record {
        trigger = record { ordered = bounds.trigger; small = bounds.trigger_most };
        delay = record { ordered = bounds.delay; small = bounds.delay_most };
        action = record { ordered = bounds.action; small = bounds.action_most };
        sets = λ k l on.
            bit_place (get_or row.sets k 0) (letters s) l
            (set_low row.sets (row_valid_sets s row fits) k) on;
      }

  row_only_if : (row : Row) → IsAllowedRow s row → row_valid s row ≡ true
  unfolding row_valid
  row_only_if row allowed =
      rw (
        within_true row.tmin most_ticks row.tmax allowed.trigger.ordered
            allowed.trigger.small,
        within_true row.lmin most_ticks row.lmax allowed.delay.ordered
            allowed.delay.small,
        within_true row.amin most_ticks row.amax allowed.action.ordered
            allowed.action.small,
      )
      (sets_only_if row.sets allowed.sets)

  rows_if : (rows : List Row) → every (row_valid s) rows ≡ true → All (IsAllowedRow s) rows
  unfolding every
  rows_if [] fits = All-none
  rows_if (row ∷ rows) fits =
      all-and (row_if row (and_left (row_valid s row) (every (row_valid s) rows) fits))
      (rows_if rows (and_right (row_valid s row) (every (row_valid s) rows) fits))

  rows_only_if : (rows : List Row) → All (IsAllowedRow s) rows → every (row_valid s) rows ≡ true
  unfolding every
  rows_only_if [] All-none = refl
  rows_only_if (row ∷ rows) (all-and first more) =
      rw (row_only_if row first) (rows_only_if rows more)

valid_allowed : (table : Table) → Sized table → table_valid table ≡ true → IsAllowed table
valid_allowed table sized fits =
    let names = Files.words_length table sized fits in
    let rows = Files.rows_counted table sized fits in
    record {
      names = Files.words table sized fits;
      rows = rows_of table;
      signals_some = omega (arith, names, table_valid_signals table fits);
      signals_few = omega (arith, names, table_valid_signals table fits);
      rows_some = omega (arith, rows, table_valid_count table fits);
      rows_few = omega (arith, rows, table_valid_count table fits);
      named = Files.words_are table sized fits;
      differ = differ_if (Files.words table sized fits)
          (rw (Files.words_known table sized fits) (Files.names_apart table sized fits));
      each = rw names (rows_if table.signals (rows_of table)
          (Files.rows_valid_lem table sized fits));
      value = sym (Files.table_same table sized fits);
    }

allowed_valid : (table : Table) → IsAllowed table → table_valid table ≡ true
unfolding rows_valid
allowed_valid table a =
    let s = length a.names in
    rw a.value
    (table_from_valid s _ a.rows
    (rw (counts_right s (length a.rows) a.signals_some a.signals_few a.rows_some
    a.rows_few)
    (rows_only_if s a.rows a.each))
    (names_from_valid a.names a.named (differ_only_if a.names a.named a.differ)))

pub allowed_exactly : (table : Table) → Sized table → (table_valid table ≡ true) ↔ IsAllowed table
allowed_exactly table sized = (valid_allowed table sized, allowed_valid table)
