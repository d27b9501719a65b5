-- A row's line from its values: whatever text stands for each set, the line is that row where the
-- text is a condition of that set. Assumes nothing.
use Prim.Native.Nat.{ℕ, zero, suc, ◌<◌, ◌≤◌}
use native.Mathlib.Omega.{arith}
use mathlib.Core.List.{List, [], ◌∷◌, ◌++◌}
use mathlib.Core.Path.{◌≡◌, refl, ap}
use lib.ListN.{length, get_or}
use Rattle.letters.specs.Lists.{some}
use Rattle.table.specs.Limits.{most_ticks, conditions}
use Rattle.table.specs.declared.Name.{Name}
use Rattle.table.specs.declared.Row.{Row}
use Rattle.table.proofs.Laws.{RowBounds}
use Rattle.text.specs.Bounds.{decimal}
use Rattle.text.specs.Lines.{joined, comma, All, none as All-none, and as all-and}
use Rattle.text.specs.Words.{rule_word}
use Rattle.text.specs.declared.Version.{Version}
use Rattle.text.proofs.Decimals.{decimal_length}
use Rattle.conditions.specs.Judge.{IsCondition}
use Rattle.rows.specs.Row.{FieldKind, a_condition, a_bound, field_kinds, row_values, IsField}
use Rattle.rows.specs.Row.{AreFields, none as nothing, and as also, IsRow}
use Rattle.rows.proofs.Fields.{fields_free}
use Rattle.rows.proofs.Rules.{six_places}
use Rattle.reader.specs.Grammar.{Each, none, and}

-- What is so of each set of a row, and that its bounds are at most 60, field by field.
module _ (P : ℕ → Type 0) where
  abbrev Right : FieldKind → ℕ → Type 0
  Right a_condition v = P v
  Right a_bound v = v ≤ most_ticks

  all_at : {l : List ℕ} → All P l → (i : ℕ) → i < length l → P (get_or l i 0)
  all_at All-none i low = absurd (omega arith)
  all_at (all-and h more) zero low = h
  all_at (all-and h more) (suc i) low = all_at more i (omega arith)

  pub values_right : (row : Row) → length row.sets ≡ conditions → All P row.sets
      → RowBounds row → Each Right field_kinds (row_values row)
  values_right row six right b =
      let tmin : row.tmin ≤ most_ticks = omega (arith, b.trigger, b.trigger_most) in
      let lmin : row.lmin ≤ most_ticks = omega (arith, b.delay, b.delay_most) in
      let amin : row.amin ≤ most_ticks = omega (arith, b.action, b.action_most) in
      rw (six_places row.sets six)
      (and (all_at right 0 (omega arith)) (and (all_at right 1 (omega arith))
      (and (all_at right 2 (omega arith)) (and tmin (and b.trigger_most (and lmin
      (and b.delay_most (and (all_at right 3 (omega arith)) (and (all_at right 4 (omega arith))
      (and (all_at right 5 (omega arith)) (and amin (and b.action_most none))))))))))))

-- The texts of fields with these values, where a set has this text; and the line of a row.
module _ (condition : ℕ → List ℕ) where
  abbrev pub field_text : FieldKind → ℕ → List ℕ
  field_text a_condition v = condition v
  field_text a_bound v = decimal v

  unfoldable pub texts_of : List FieldKind → List ℕ → List (List ℕ)
  texts_of [] values = []
  texts_of (kind ∷ kinds) [] = []
  texts_of (kind ∷ kinds) (v ∷ values) = field_text kind v ∷ texts_of kinds values

  abbrev pub row_line : Row → List ℕ
  row_line row = rule_word ++ joined comma (texts_of field_kinds (row_values row))

  texts_length : {P : ℕ → Type 0} {kinds : List FieldKind} {values : List ℕ}
      → Each (Right P) kinds values → length (texts_of kinds values) ≡ length kinds
  unfolding texts_of
  texts_length none = refl
  texts_length (and h more) = ap suc (texts_length more)

  pub texts_short : ((v : ℕ) → length (condition v) ≤ 2) → {P : ℕ → Type 0}
      {kinds : List FieldKind} {values : List ℕ} → Each (Right P) kinds values
      → All (λ piece. length piece ≤ 2) (texts_of kinds values)
  unfolding texts_of
  texts_short few none = All-none
  texts_short few {P} (and {a} {b} h more) = all-and (short a b h) (texts_short few more)
    where
      short : (kind : FieldKind) (v : ℕ) → Right P kind v → length (field_text kind v) ≤ 2
      short a_condition v h = few v
      short a_bound v h = decimal_length 1 v (omega arith)

  module _ (names : List Name) (n : ℕ) where
    abbrev Means : ℕ → Type 0
    Means v = IsCondition names n (condition v) v

    texts_right : {kinds : List FieldKind} {values : List ℕ} → Each (Right Means) kinds values
        → AreFields names n kinds (texts_of kinds values) values
    unfolding texts_of
    texts_right none = nothing
    texts_right (and {a} {b} h more) = also (right a b h) (texts_right more)
      where
        right : (kind : FieldKind) (v : ℕ) → Right Means kind v
            → IsField names n kind (field_text kind v) v
        right a_condition v h = h
        right a_bound v h = record { small = h; bytes = refl }

    pub line_row : (version : Version) (row : Row) → length row.sets ≡ conditions
        → All Means row.sets → RowBounds row → IsRow names n version (row_line row) row
    unfolding some
    line_row version row six means b =
        let values = values_right Means row six means b in
        let right = texts_right values in
        record {
          has = record {
            fields = texts_of field_kinds (row_values row);
            rule = record {
              line_is = refl;
              apart = fields_free names n comma refl refl right;
              twelve = texts_length values;
            };
            right = right;
          };
          ordered = record { trigger = b.trigger; delay = b.delay; action = b.action };
        }
