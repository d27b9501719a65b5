-- The lines of rows with the bounds of given ones, and `0` for each condition. Assumes nothing.
use Prim.Native.Nat.{ℕ, ◌*◌, ◌≤◌}
use native.Mathlib.Omega.{arith}
use mathlib.Core.Bool.{true}
use mathlib.Core.List.{List, [], ◌∷◌, map}
use mathlib.Core.Path.{◌≡◌, refl}
use lib.ListN.{length, replicate, length-append}
use Rattle.letters.specs.Lists.{every}
use Rattle.letters.proofs.Lists.{and_left, and_right}
use Rattle.letters.proofs.Sets.{set_of_false}
use Rattle.table.specs.Limits.{conditions}
use Rattle.table.specs.Row.{row_valid}
use Rattle.table.specs.declared.Name.{Name}
use Rattle.table.specs.declared.Row.{Row}
use Rattle.table.proofs.Laws.{RowBounds, row_valid_bounds}
use Rattle.text.specs.Lines.{ended, count, comma, All, none as All-none, and as all-and}
use Rattle.text.specs.Words.{false_sign}
use Rattle.text.specs.declared.Version.{Version}
use Rattle.text.proofs.Joins.{joined_length}
use Rattle.conditions.specs.Condition.{one_term, one_factor, never, text, holds_at, unknown}
use Rattle.conditions.specs.Judge.{IsCondition}
use Rattle.conditions.proofs.Depth.{free_shallow}
use Rattle.rows.specs.Row.{field_kinds, row_values, IsRow}
use Rattle.reader.specs.Grammar.{Each, none, and}
use Rattle.reader.specs.Further.Witness.{SameBounds}
use Rattle.reader.proofs.RowLines.{values_right, texts_of, row_line, texts_short, line_row}

-- The condition `0`, which holds nowhere; a row of it with a row's bounds, and the line of that.
abbrev zero_text : ℕ → List ℕ
zero_text v = false_sign ∷ []

zero_condition : (names : List Name) (n : ℕ) → IsCondition names n (zero_text 0) 0
unfolding text holds_at unknown count
zero_condition names n = record {
  shallow = free_shallow (zero_text 0) refl;
  means = record {
    tree = one_term (one_factor never);
    bytes = refl;
    letters = set_of_false n;
    flag = refl;
  };
}

abbrev pub bare : Row → Row
bare row = record {
  sets = replicate conditions 0;
  tmin = row.tmin;
  tmax = row.tmax;
  lmin = row.lmin;
  lmax = row.lmax;
  amin = row.amin;
  amax = row.amax;
}

abbrev pub line_of : Row → List ℕ
line_of row = row_line zero_text (bare row)

-- The same is so of six zeros.
six_zeros : (P : ℕ → Type 0) → P 0 → All P (replicate conditions 0)
six_zeros P h = all-and h (all-and h (all-and h (all-and h (all-and h (all-and h All-none)))))

bare_bounded : (row : Row) → RowBounds row → RowBounds (bare row)
bare_bounded row b = record {
  trigger = b.trigger;
  trigger_most = b.trigger_most;
  delay = b.delay;
  delay_most = b.delay_most;
  action = b.action;
  action_most = b.action_most;
}

bare_row : (names : List Name) (n : ℕ) (version : Version) (row : Row) → RowBounds row
    → IsRow names n version (line_of row) (bare row)
bare_row names n version row b =
    line_row zero_text names n version (bare row) refl (six_zeros _ (zero_condition names n))
    (bare_bounded row b)

line_length : (row : Row) → RowBounds row → length (line_of row) ≤ 41
unfolding texts_of
line_length row b =
    let values = values_right (λ v. v ≡ 0) (bare row) refl (six_zeros (λ v. v ≡ 0) refl)
    (bare_bounded row b) in
    let texts = texts_of zero_text field_kinds (row_values (bare row)) in
    let few = joined_length comma 2 texts (texts_short zero_text (λ v. omega arith) values) in
    rw length-append (omega arith)

-- Rows in a list.
module _ (s : ℕ) where
  pub lines_rows : (names : List Name) (n : ℕ) (version : Version) (rows : List Row)
      → every (row_valid s) rows ≡ true
      → Each (IsRow names n version) (map line_of rows) (map bare rows)
  unfolding every
  lines_rows names n version [] h = none
  lines_rows names n version (row ∷ rows) h =
      and (bare_row names n version row (row_valid_bounds s row (and_left (row_valid s row) _ h)))
      (lines_rows names n version rows (and_right (row_valid s row) _ h))

  pub lines_length : (rows : List Row) → every (row_valid s) rows ≡ true
      → length (ended (map line_of rows)) ≤ 42 * length rows
  unfolding every ended
  lines_length [] h = omega arith
  lines_length (row ∷ rows) h =
      let bounds = row_valid_bounds s row (and_left (row_valid s row) _ h) in
      let few = line_length row bounds in
      let rest = lines_length rows (and_right (row_valid s row) _ h) in
      rw length-append (omega arith)

pub bare_bounds : (rows : List Row) → Each SameBounds (map bare rows) rows
bare_bounds [] = none
bare_bounds (row ∷ rows) =
    and (record { tmin = refl; tmax = refl; lmin = refl; lmax = refl; amin = refl; amax = refl })
    (bare_bounds rows)
