-- A table that was read is one that number 17 lets by. Assumes nothing.
use Prim.Native.Nat.{ℕ, zero, suc, ◌-◌, ◌^◌, ◌<◌, ◌≤◌}
use borrow.Author.Tests.{le-leb, lt-ltb}
use native.Mathlib.Omega.{arith}
use native.Mathlib.Nat.{lt_of_lt_of_le}
use mathlib.Core.Bool.{true}
use mathlib.Core.List.{List, map}
use mathlib.Core.Path.{◌≡◌, refl, sym, subst}
use lib.ListN.{length, get_or, replicate, length-map}
use lib.Pow.{pow_mono}
use lib.Seq.{drop_at}
use Rattle.letters.specs.Letter.{letters, width, set_valid}
use Rattle.letters.specs.Lists.{every}
use Rattle.letters.proofs.Lists.{every_replicate}
use Rattle.letters.proofs.Sets.{set_of_lt}
use Rattle.table.specs.Limits.{most_signals, most_ticks}
use Rattle.table.specs.Row.{row_valid}
use Rattle.table.specs.Name.{name_valid, name_unused, all_distinct}
use Rattle.table.specs.Valid.{rows_valid, names_valid, table_valid}
use Rattle.table.specs.declared.Name.{Name}
use Rattle.table.specs.declared.Row.{Row}
use Rattle.table.specs.declared.Table.{Table}
use Rattle.table.proofs.Laws.{counts_right, table_from_valid}
use Rattle.conditions.specs.Condition.{IsName, name_of, holds_at}
use Rattle.conditions.proofs.Places.{name_of_valid}
use Rattle.header.specs.Header.{no_name, names_from}
use Rattle.reader.specs.Grammar.{Each, none, and, HasRows, IsFile, of_lines}
use Rattle.reader.proofs.Only.{names_taken}
use Rattle.text.specs.Lines.{All, none as All-none, and as all-and}
use Rattle.text.specs.declared.Version.{Version}
use Rattle.conditions.specs.Judge.{IsCondition}
use Rattle.rows.specs.Row.{FieldKind, a_condition, a_bound, field_kinds, IsField, AreFields}
use Rattle.rows.specs.Row.{none as nothing, and as also, row_values, Ordered, IsRow}
use Rattle.rows.proofs.Rules.{row_of, row_same}

-- Places that are not used.
no_name_lem : name_unused no_name ≡ true
unfolding name_unused every
no_name_lem = refl

-- Names.
names_valid_lem : (names : List (List ℕ)) → All IsName names → every name_valid (map name_of names) ≡ true
unfolding every
names_valid_lem names All-none = refl
names_valid_lem names (all-and {a} {more} h all) = rw (name_of_valid a h) (names_valid_lem more all)

pub names_from_valid : (names : List (List ℕ)) → All IsName names
    → all_distinct (map name_of names) ≡ true → names_valid (length names) (names_from names) ≡ true
unfolding names_valid
names_from_valid names named differ =
    let s = length names in
    rw (
      names_taken names,
      drop_at (map name_of names) (replicate (most_signals - s) no_name) s (length-map names name_of),
      names_valid_lem names named,
      differ,
    )
    (every_replicate name_unused no_name no_name_lem (most_signals - s))

-- Rows.
module _ (names : List Name) (s : ℕ) where
  condition_fits : {xs : List ℕ} {v : ℕ} → IsCondition names (width s) xs v → set_valid s v ≡ true
  condition_fits {xs} {v} h =
      low v (rw (← h.means.letters) (set_of_lt (width s) (holds_at names h.means.tree)))
    where
      low : (v : ℕ) → v < 2 ^ width s → set_valid s v ≡ true
      low v h =
          lt-ltb v (2 ^ letters s)
          (lt_of_lt_of_le h (pow_mono {i = width s} {j = letters s} (omega arith)))

  -- What the kinds of its fields say of the values of a row.
  abbrev Held : FieldKind → ℕ → Type 0
  Held a_condition v = set_valid s v ≡ true
  Held a_bound v = v ≤ most_ticks

  field_held : (kind : FieldKind) (xs : List ℕ) (v : ℕ) → IsField names (width s) kind xs v
      → Held kind v
  field_held a_condition xs v h = condition_fits h
  field_held a_bound xs v h = h.small

  fields_held : {kinds : List FieldKind} {fields : List (List ℕ)} {values : List ℕ}
      → AreFields names (width s) kinds fields values → Each Held kinds values
  fields_held nothing = none
  fields_held (also {kind} {xs} {v} h more) = and (field_held kind xs v h) (fields_held more)

  held_at : {kinds : List FieldKind} {values : List ℕ} → Each Held kinds values → (i : ℕ)
      → i < length kinds → Held (get_or kinds i a_bound) (get_or values i 0)
  held_at none i h = absurd (omega arith)
  held_at (and h more) zero low = h
  held_at (and h more) (suc i) low = held_at more i (omega arith)

  values_fit : (values : List ℕ) → Each Held field_kinds values → Ordered (row_of values)
      → row_valid s (row_of values) ≡ true
  unfolding row_valid every
  values_fit values held o =
      rw (
        le-leb (get_or values 3 0) (get_or values 4 0) o.trigger,
        le-leb (get_or values 4 0) most_ticks (held_at held 4 (omega arith)),
        le-leb (get_or values 5 0) (get_or values 6 0) o.delay,
        le-leb (get_or values 6 0) most_ticks (held_at held 6 (omega arith)),
        le-leb (get_or values 10 0) (get_or values 11 0) o.action,
        le-leb (get_or values 11 0) most_ticks (held_at held 11 (omega arith)),
        held_at held 0 (omega arith),
        held_at held 1 (omega arith),
        held_at held 2 (omega arith),
        held_at held 7 (omega arith),
        held_at held 8 (omega arith),
        held_at held 9 (omega arith),
      )

  row_valid_lem : {version : Version} (line : List ℕ) (row : Row)
      → IsRow names (width s) version line row → row_valid s row ≡ true
  row_valid_lem line row r =
      let same = row_same names (width s) line row r.has in
      subst (λ (r : Row). row_valid s r ≡ true) same
      (values_fit (row_values row) (fields_held r.has.right) (subst Ordered (sym same)
      r.ordered))

  rows_valid_lem : {version : Version} (rules : List (List ℕ)) (rows : List Row)
      → Each (IsRow names (width s) version) rules rows → every (row_valid s) rows ≡ true
  unfolding every
  rows_valid_lem rules rows none = refl
  rows_valid_lem rules rows (and {a} {b} {l} {m} r more) = rw (row_valid_lem a b r) (rows_valid_lem l m more)

module _ (bytes : List ℕ) (t : Table) (f : HasRows bytes t) where
  abbrev s : ℕ
  s = length f.file.names

  abbrev known : List Name
  known = map name_of f.file.names

  names_are_valid : names_valid s (names_from f.file.names) ≡ true
  names_are_valid =
      names_from_valid f.file.names f.header.has_names.signals.named f.header.differ

  rows_are_valid : rows_valid s f.rows ≡ true
  unfolding rows_valid
  rows_are_valid =
      rw (counts_right s (length f.rows) f.header.has_names.signals.some f.header.few
      f.rows_some f.rows_few)
      (rows_valid_lem known s f.file.rules f.rows f.rows_are)

  lines_valid : table_valid t ≡ true
  lines_valid =
      rw f.table_is
      (table_from_valid s (names_from f.file.names) f.rows rows_are_valid names_are_valid)

pub file_valid : (bytes : List ℕ) (t : Table) → IsFile bytes t → table_valid t ≡ true
file_valid bytes t (of_lines f) = lines_valid bytes t f
