-- A row's line as it is described, against the number and the row that are computed of it, both
-- ways. Assumes nothing.
use Prim.Native.Nat.{ℕ, zero, suc, ◌+◌, ◌≤◌}
use borrow.Author.Tests.{leb-true, le-leb, eqb-true}
use native.Mathlib.Numerals.{add-one}
use native.Mathlib.Omega.{arith}
use mathlib.Core.Bool.{Bool, true, false, ◌&&◌, cond, true≢false}
use mathlib.Core.List.{List, [], ◌∷◌, ◌++◌, map}
use mathlib.Core.Logic.{◌⊎◌, inl, inr}
use mathlib.Core.Path.{◌≡◌, refl, sym, ap, ap₂, ◌∙◌}
use lib.Dec.{eqb, leb}
use lib.ListN.{length, get_or, take, drop, take-append-drop, drop_of_length-le, length-append}
use lib.ListN.{length-take, length-drop}
use lib.Seq.{drop-cons}
use Rattle.letters.specs.Lists.{some, same_bytes}
use Rattle.letters.proofs.Lists.{and_left, and_right, same_bytes_true}
use Rattle.table.specs.Limits.{conditions}
use Rattle.table.specs.declared.Name.{Name}
use Rattle.table.specs.declared.Row.{Row}
use Rattle.text.specs.Lines.{LF, comma, joined, count}
use Rattle.text.specs.Words.{rule_word}
use Rattle.text.specs.declared.Version.{Version}
use Rattle.text.specs.Inner.Cut.{split}
use Rattle.text.proofs.Splits.{split_length}
use Rattle.text.proofs.Joins.{split_joined, joined_split, split_free, joined_free}
use Rattle.std.specs.Prelude.{Result, Ok, Err}
use Rattle.conditions.proofs.Judging.{judge_number, right_judge}
use Rattle.rows.specs.Row.{FieldKind, field_kinds, IsRule, row_values, Ordered}
use Rattle.rows.specs.Row.{AreFields, none, and, HasFields, IsRow, FirstFault, no_condition}
use Rattle.rows.specs.Row.{no_bound, later, RowFault, misshapen, in_field, crossed}
use Rattle.rows.specs.Inner.Row.{fields_of, all_values, sets_from, bounds_from}
use Rattle.rows.specs.Inner.Row.{row_from, bounds_ordered, rule_shaped, row_fields}
use Rattle.rows.specs.Inner.Row.{row_answer}
use Rattle.rows.specs.declared.RowRead.{RowRead}
use Rattle.rows.proofs.RowLaws.{rule_commas}
use Rattle.rows.proofs.Fields.{kinds_all, fields_values, fault_found, FieldsFound, right}
use Rattle.rows.proofs.Fields.{fault, fields_found, fields_free}

-- `rule ` and twelve fields.
shaped_rule : (line : List ℕ) → rule_shaped line ≡ true → IsRule line (split comma (drop 5 line))
shaped_rule line h =
    let word = same_bytes (take 5 line) rule_word in
    let commas = eqb (count comma line) 11 in
    let starts = and_left word commas h in
    let eleven = eqb-true (count comma line) 11 (and_right word commas h) in
    record {
      line_is = sym (take-append-drop 5 line)
          ∙ ap₂ ◌++◌ (same_bytes_true (take 5 line) rule_word starts)
          (sym (joined_split comma (drop 5 line)));
      apart = split_free comma (drop 5 line);
      twelve = split_length comma (drop 5 line) ∙ ap suc (rule_commas line starts ∙ eleven);
    }

fields_split : (fields : List (List ℕ)) (line : List ℕ) → IsRule line fields
    → split comma (joined comma fields) ≡ fields
fields_split [] line rule = absurd (let z = rule.twelve in omega arith)
fields_split (xs ∷ fields) line rule = split_joined comma xs fields rule.apart

module _ (line : List ℕ) (fields : List (List ℕ)) (rule : IsRule line fields) where
  rule_shaped_lem : rule_shaped line ≡ true
  unfolding same_bytes count
  rule_shaped_lem =
      let commas : count comma (joined comma fields) ≡ 11 =
      omega (
        arith,
        split_length comma (joined comma fields),
        ap length (fields_split fields line rule),
        rule.twelve,
      ) in
      rw (rule.line_is, commas)

  rule_answer : (names : List Name) (n : ℕ) (version : Version)
      → row_answer names n version line ≡ row_fields (fields_of names n 0 fields)
  unfolding row_answer
  rule_answer names n version =
      rw rule_shaped_lem
      (ap (λ (l : List ℕ). row_fields (fields_of names n 0 (split comma (drop 5 l)))) rule.line_is
      ∙ ap (λ (l : List (List ℕ)). row_fields (fields_of names n 0 l))
      (fields_split fields line rule))

-- The values of a row, and the row of twelve values.
abbrev pub bounds_of : Row → List ℕ
bounds_of row = row.tmin ∷ row.tmax ∷ row.lmin ∷ row.lmax ∷ row.amin ∷ row.amax ∷ []

abbrev pub row_of : List ℕ → Row
row_of values = row_from (sets_from values) (bounds_from values)

-- Some places of a list.
unfoldable places_from : List ℕ → ℕ → ℕ → List ℕ
places_from l i zero = []
places_from l i (suc k) = get_or l i 0 ∷ places_from l (i + 1) k

places_all : (l : List ℕ) (i k : ℕ) → length l ≡ i + k → drop i l ≡ places_from l i k
unfolding places_from
places_all l i zero e = drop_of_length-le l {i = i} (omega arith)
places_all l i (suc k) e =
    drop-cons l i 0 (omega arith)
    ∙ ap (◌∷◌ (get_or l i 0)) (rw (← add-one i) (places_all l (i + 1) k (omega arith)))

values_row : (values : List ℕ) → length values ≡ 12 → row_values (row_of values) ≡ values
unfolding places_from
values_row values twelve = sym (places_all values 0 12 twelve)

pub six_places : (sets : List ℕ) → length sets ≡ conditions
    → sets ≡ get_or sets 0 0 ∷ get_or sets 1 0 ∷ get_or sets 2 0 ∷ get_or sets 3 0 ∷ get_or sets 4 0
    ∷ get_or sets 5 0 ∷ []
unfolding places_from
six_places sets six = places_all sets 0 6 (omega arith)

abbrev with_sets : Row → List ℕ → Row
with_sets row sets = row_from sets (bounds_of row)

row_values_lem : (row : Row) → length (row_values row) ≡ 12 → row_of (row_values row) ≡ row
row_values_lem row twelve =
    let parts = simp (length-append, length-take, length-drop) at twelve in
    let six = six_places row.sets (omega arith) in
    ap (λ (sets : List ℕ). row_of (row_values (with_sets row sets))) six
    ∙ ap (with_sets row) (sym six)

-- Whether the bounds of a row are in order.
ordered_true : (row : Row) → Ordered row → bounds_ordered (bounds_of row) ≡ true
ordered_true row h =
    rw (
      le-leb row.tmin row.tmax h.trigger,
      le-leb row.lmin row.lmax h.delay,
      le-leb row.amin row.amax h.action,
    )

true_ordered : (row : Row) → bounds_ordered (bounds_of row) ≡ true → Ordered row
true_ordered row h =
    let t = leb row.tmin row.tmax in
    let l = leb row.lmin row.lmax in
    let a = leb row.amin row.amax in
    record {
      trigger = leb-true row.tmin row.tmax (and_left t l (and_left (t && l) a h));
      delay = leb-true row.lmin row.lmax (and_right t l (and_left (t && l) a h));
      action = leb-true row.amin row.amax (and_right (t && l) a h);
    }

-- Fields that are right hold their values, which make the row.
held : (values : List ℕ) → all_values (map Ok values) ≡ Ok values
unfolding all_values
held [] = refl
held (v ∷ values) = rw (held values)

module _ (names : List Name) (n : ℕ) where
  fields_length : {kinds : List FieldKind} {fields : List (List ℕ)} {values : List ℕ}
      → AreFields names n kinds fields values → length values ≡ length kinds
  fields_length none = refl
  fields_length (and h more) = ap suc (fields_length more)

  pub row_same : (line : List ℕ) (row : Row) → HasFields names n line row
      → row_of (row_values row) ≡ row
  row_same line row h = row_values_lem row (fields_length h.right)

module _ (names : List Name) (n : ℕ) (version : Version) where
  -- No LF is in a row's line.
  pub row_free : (line : List ℕ) (row : Row) → IsRow names n version line row → count LF line ≡ 0
  unfolding count some
  row_free line row r =
      let has = r.has in
      ap (count LF) has.rule.line_is
      ∙ joined_free comma LF refl has.fields (fields_free names n LF refl refl has.right)

  row_answer_lem : (line : List ℕ) (row : Row) → HasFields names n line row
      → row_answer names n version line
      ≡ cond (bounds_ordered (bounds_of row))
      (Ok (record { sets = row.sets; bounds = bounds_of row })) (Err 15)
  unfolding row_fields
  row_answer_lem line row h =
      let values = row_values row in
      let same = row_same names n line row h in
      rule_answer line h.fields h.rule names n version
      ∙ ap row_fields (fields_values names n kinds_all h.right)
      ∙ rw (held values)
      (ap (λ (r : Row). cond {A = Result RowRead ℕ} (bounds_ordered (bounds_of r))
      (Ok (record { sets = r.sets; bounds = bounds_of r })) (Err 15)) same)

  pub row_read : (line : List ℕ) (row : Row) → IsRow names n version line row
      → row_answer names n version line
      ≡ Ok (record { sets = row.sets; bounds = bounds_of row })
  row_read line row r = row_answer_lem line row r.has ∙ rw (ordered_true row r.ordered)

  pub fault_read : (line : List ℕ) (number : ℕ) → RowFault names n version line number
      → row_answer names n version line ≡ Err number
  unfolding row_answer row_fields
  fault_read line number (misshapen h) = go (rule_shaped line) refl
    where
      go : (t : Bool) → rule_shaped line ≡ t
          → cond {A = Result RowRead ℕ} t (row_fields (fields_of names n 0 (split comma (drop 5 line)))) (Err 10)
          ≡ Err 10
      go true e = absurd (h _ (shaped_rule line e))
      go false e = refl
  fault_read line number (in_field {fields} rule first) =
      rule_answer line fields rule names n version ∙ rw (fault_found names n kinds_all first)
  fault_read line number (crossed {row} h other) =
      row_answer_lem line row h ∙ go (bounds_ordered (bounds_of row)) refl
    where
      go : (t : Bool) → bounds_ordered (bounds_of row) ≡ t
          → cond {A = Result RowRead ℕ} t (Ok (record { sets = row.sets; bounds = bounds_of row }))
          (Err 15) ≡ Err 15
      go true e = absurd (other (true_ordered row e))
      go false e = refl

  -- Each line is a row, or has a fault.
  pub data RowFound (line : List ℕ) : Type 0 where
    a_row : (row : Row) → IsRow names n version line row → RowFound line
    a_fault : (number : ℕ) → RowFault names n version line number → RowFound line

  pub row_found : (line : List ℕ) → RowFound line
  row_found line = go (rule_shaped line) refl
    where
      ranked : (fields : List (List ℕ)) (values : List ℕ) → IsRule line fields
          → AreFields names n field_kinds fields values → (t : Bool)
          → bounds_ordered (bounds_of (row_of values)) ≡ t → RowFound line
      ranked fields values rule all t e = go t e
        where
          has : HasFields names n line (row_of values)
          has = record {
            fields = fields;
            rule = rule;
            right = rw (values_row values (fields_length names n all)) all;
          }

          go : (t : Bool) → bounds_ordered (bounds_of (row_of values)) ≡ t → RowFound line
          go true e =
              a_row (row_of values) (record { has = has; ordered = true_ordered (row_of values) e })
          go false e =
              a_fault 15 (crossed has (λ o. true≢false (sym (ordered_true (row_of values) o) ∙ e)))

      fielded : (fields : List (List ℕ)) → IsRule line fields
          → FieldsFound names n field_kinds fields → RowFound line
      fielded fields rule (right values all) = ranked fields values rule all _ refl
      fielded fields rule (fault number first) = a_fault number (in_field rule first)

      go : (t : Bool) → rule_shaped line ≡ t → RowFound line
      go true e =
          let rule = shaped_rule line e in
          fielded _ rule (fields_found names n field_kinds _ rule.twelve)
      go false e =
          a_fault 10 (misshapen (λ fields rule. true≢false (sym (rule_shaped_lem line fields rule) ∙ e)))

-- The numbers that a line can get.
module _ (names : List Name) (n : ℕ) where
  pub first_among : {kinds : List FieldKind} {fields : List (List ℕ)} {number : ℕ}
      → FirstFault names n kinds fields number → (11 ≤ number) × (number ≤ 14)
  first_among (no_condition {xs} {number} h) =
      among (judge_number names n xs number (right_judge names n xs (Err number) h))
    where
      among : (number ≡ 11) ⊎ ((number ≡ 12) ⊎ (number ≡ 13)) → (11 ≤ number) × (number ≤ 14)
      among (inl e) = (omega arith, omega arith)
      among (inr (inl e)) = (omega arith, omega arith)
      among (inr (inr e)) = (omega arith, omega arith)
  first_among (no_bound h) = (omega arith, omega arith)
  first_among (later v h first) = first_among first

  pub fault_among : (version : Version) (line : List ℕ) (number : ℕ)
      → RowFault names n version line number
      → (10 ≤ number) × (number ≤ 15)
  fault_among version line number (misshapen h) = (omega arith, omega arith)
  fault_among version line number (in_field rule first) =
      let few = first_among first in (omega (arith, few.0), omega (arith, few.1))
  fault_among version line number (crossed h other) = (omega arith, omega arith)
