-- Laws of names and of table values. A loop's turn at place i: `-next` where it goes on, `-stop`
-- where it settles the answer, `-end` past the last place. Assumes nothing.
use Prim.Native.Nat.{ℕ, zero, suc, ◌+◌, ◌-◌, ◌<◌, ◌≤◌}
use native.Mathlib.Decide.{dec_lt}
use native.Mathlib.Numerals.{add-one}
use native.Mathlib.Omega.{arith}
use mathlib.Core.Bool.{Bool, true, false, ◌&&◌, not, cond, and-false, true≢false}
use mathlib.Core.List.{List, [], ◌∷◌}
use mathlib.Core.Path.{◌≡◌, refl, sym, ◌∙◌}
use borrow.Author.Tests.{lt-leb}
use Rattle.std.specs.List.{prefix_len}
use Rattle.std.proofs.lemmas.List.Recursion.{same_from_clauses}
use lib.ListN.{length, get_or, take, drop, replicate, drop_of_length-le, length-take, length-replicate}
use lib.ListN.{get_or-replicate}
use lib.Pointwise.{pointwise}
use lib.Seq.{drop-cons, get_or-take, take_at, drop_at, ext_get_or}
use Rattle.std.specs.Array.{AllOfLen}
use lib.Dec.{eqb}
use Rattle.letters.specs.Letter.{set_valid}
use Rattle.letters.specs.Lists.{within, every, some}
use Rattle.letters.proofs.Lists.{and_left, and_right, and_four, lt_length_take, within_bounds}
use Rattle.letters.proofs.Lists.{within_true, every_replicate}
use Rattle.table.specs.Limits.{most_rows, most_signals, most_ticks, conditions, name_length}
use Rattle.table.specs.Row.{bounds_valid, row_valid, row_unused, zero_row, is_zero}
use Rattle.table.specs.Name.{is_lowercase, name_run, name_unused, same_name, all_distinct}
use Rattle.table.specs.Valid.{counts_allowed, rows_valid, names_valid, rows_of, table_from}
use Rattle.table.specs.Valid.{table_valid}
use Rattle.table.specs.declared.Name.{Name}
use Rattle.table.specs.declared.Row.{Row}
use Rattle.table.specs.declared.Table.{Table}

-- Letters in front.
pub name_run_le : (xs : List ℕ) → name_run xs ≤ length xs
unfolding name_run
name_run_le [] = omega arith
name_run_le (b ∷ xs) = go (is_lowercase b) (name_run_le xs)
  where
    go : (t : Bool) → name_run xs ≤ length xs → cond t (suc (name_run xs)) 0 ≤ suc (length xs)
    go true h = omega arith
    go false h = omega arith

-- They are counted as the library counts a front that passes a test.
pub name_run_prefix : (xs : List ℕ) → prefix_len is_lowercase xs ≡ name_run xs
unfolding name_run
name_run_prefix =
    same_from_clauses (prefix_len is_lowercase) name_run (λ b n. cond (is_lowercase b) (suc n) 0)
    refl (λ x xs. grind arith) (λ _ _. refl)

module _ (xs : List ℕ) (i : ℕ) where
  pub name_run_next : i < length xs → is_lowercase (get_or xs i 0) ≡ true
      → name_run (drop i xs) ≡ name_run (drop (i + 1) xs) + 1
  unfolding name_run
  name_run_next h e = rw (drop-cons xs i 0 h, e, add-one i, add-one)

  pub name_run_stop : i < length xs → is_lowercase (get_or xs i 0) ≡ false → name_run (drop i xs) ≡ 0
  unfolding name_run
  name_run_stop h e = rw (drop-cons xs i 0 h, e)

  pub name_run_end : length xs ≤ i → name_run (drop i xs) ≡ 0
  unfolding name_run
  name_run_end h = rw (drop_of_length-le xs h)

-- No name twice among the first n.
module _ (n : ℕ) (xs : List Name) (i : ℕ) (d : Name) where
  abbrev later : Bool
  later = some (same_name (get_or xs i d)) (drop (i + 1) (take n xs))

  all_distinct_drop : i < n → i < length xs
      → all_distinct (drop i (take n xs)) ≡ (not later && all_distinct (drop (i + 1) (take n xs)))
  unfolding all_distinct
  all_distinct_drop h k =
      rw (drop-cons (take n xs) i d (lt_length_take n xs i h k), get_or-take, add-one)

  past : n ≤ i → (j : ℕ) → i ≤ j → drop j (take n xs) ≡ []
  past h j low = drop_of_length-le (take n xs) (rw length-take (omega arith))

  pub all_distinct_next : i < length xs → later ≡ false
      → all_distinct (drop i (take n xs)) ≡ all_distinct (drop (i + 1) (take n xs))
  all_distinct_next k e = go (dec_lt i n)
    where
      go : Dec (i < n) → all_distinct (drop i (take n xs)) ≡ all_distinct (drop (i + 1) (take n xs))
      go (yes h) = rw (all_distinct_drop h k, e)
      go (no h) = rw (past (omega arith) i (omega arith), past (omega arith) (i + 1) (omega arith))

  pub all_distinct_stop : i < length xs → later ≡ true
      → all_distinct (drop i (take n xs)) ≡ false
  unfolding some
  all_distinct_stop k e = go (dec_lt i n)
    where
      go : Dec (i < n) → all_distinct (drop i (take n xs)) ≡ false
      go (yes h) = rw (all_distinct_drop h k, e)
      go (no h) = absurd (true≢false (sym e ∙ rw (past (omega arith) (i + 1) (omega arith))))

  pub all_distinct_end : length xs ≤ i → all_distinct (drop i (take n xs)) ≡ true
  unfolding all_distinct
  all_distinct_end h =
      let few : length (take n xs) ≤ i = rw length-take (omega arith) in
      rw (drop_of_length-le (take n xs) few)

pub ruleset distinct_turns = (all_distinct_next, all_distinct_stop, all_distinct_end)

-- The bounds of a row that a file can have.
pub record RowBounds (r : Row) : Type 0 where
  pub trigger : r.tmin ≤ r.tmax
  pub trigger_most : r.tmax ≤ most_ticks
  pub delay : r.lmin ≤ r.lmax
  pub delay_most : r.lmax ≤ most_ticks
  pub action : r.amin ≤ r.amax
  pub action_most : r.amax ≤ most_ticks

pub row_valid_bounds : (s : ℕ) (r : Row) → row_valid s r ≡ true → RowBounds r
unfolding row_valid
row_valid_bounds s r h =
    let parts = and_four (bounds_valid r.tmin r.tmax) (bounds_valid r.lmin r.lmax)
    (bounds_valid r.amin r.amax) (every (set_valid s) r.sets) h in
    let t = within_bounds r.tmin most_ticks r.tmax parts.0 in
    let l = within_bounds r.lmin most_ticks r.lmax parts.1 in
    let a = within_bounds r.amin most_ticks r.amax parts.2 in
    record {
      trigger = t.0;
      trigger_most = t.1;
      delay = l.0;
      delay_most = l.1;
      action = a.0;
      action_most = a.1;
    }

pub row_valid_sets : (s : ℕ) (r : Row) → row_valid s r ≡ true → every (set_valid s) r.sets ≡ true
unfolding row_valid
row_valid_sets s r h =
    (and_four (bounds_valid r.tmin r.tmax) (bounds_valid r.lmin r.lmax)
    (bounds_valid r.amin r.amax) (every (set_valid s) r.sets) h).3

-- Both counts of a file.
module _ (s count : ℕ) (allowed : counts_allowed s count ≡ true) where
  pub counts_signals : (1 ≤ s) × (s ≤ most_signals)
  unfolding counts_allowed
  counts_signals = within_bounds 1 most_signals s (and_left _ (within 1 most_rows count) allowed)

  pub counts_rows : (1 ≤ count) × (count ≤ most_rows)
  unfolding counts_allowed
  counts_rows = within_bounds 1 most_rows count (and_right (within 1 most_signals s) _ allowed)

pub counts_right : (s count : ℕ) → 1 ≤ s → s ≤ most_signals → 1 ≤ count → count ≤ most_rows
    → counts_allowed s count ≡ true
unfolding counts_allowed
counts_right s count some few one most =
    rw (within_true 1 most_signals s some few, within_true 1 most_rows count one most)

pub counts_many : (s count : ℕ) → most_rows < count → counts_allowed s count ≡ false
unfolding counts_allowed
counts_many s count h = simp (lt-leb count most_rows h, and-false)

-- Rows that number 17 lets by, with a signal count.
module _ (s : ℕ) (rows : List Row) (fits : rows_valid s rows ≡ true) where
  rows_valid_parts : (counts_allowed s (length rows) ≡ true) × (every (row_valid s) rows ≡ true)
  unfolding rows_valid
  rows_valid_parts = (
    and_left _ (every (row_valid s) rows) fits,
    and_right (counts_allowed s (length rows)) _ fits,
  )

  pub rows_valid_signals : (1 ≤ s) × (s ≤ most_signals)
  rows_valid_signals = counts_signals s (length rows) rows_valid_parts.0

  pub rows_valid_count : (1 ≤ length rows) × (length rows ≤ most_rows)
  rows_valid_count = counts_rows s (length rows) rows_valid_parts.0

  pub rows_valid_rows : every (row_valid s) rows ≡ true
  rows_valid_rows = rows_valid_parts.1

-- A table value that number 17 lets by.
module _ (t : Table) (fits : table_valid t ≡ true) where
  table_valid_parts : (counts_allowed t.signals t.count ≡ true) ×
      (rows_valid t.signals (rows_of t) ≡ true)
      × (names_valid t.signals t.names ≡ true)
      × (every row_unused (drop t.count t.rows) ≡ true)
  unfolding table_valid
  table_valid_parts =
      and_four (counts_allowed t.signals t.count) (rows_valid t.signals (rows_of t))
      (names_valid t.signals t.names) (every row_unused (drop t.count t.rows)) fits

  pub table_valid_rows : rows_valid t.signals (rows_of t) ≡ true
  table_valid_rows = table_valid_parts.1

  pub table_valid_names : names_valid t.signals t.names ≡ true
  table_valid_names = table_valid_parts.2

  pub table_valid_count : (1 ≤ t.count) × (t.count ≤ most_rows)
  table_valid_count = counts_rows t.signals t.count table_valid_parts.0

  pub table_valid_signals : (1 ≤ t.signals) × (t.signals ≤ most_signals)
  table_valid_signals = counts_signals t.signals t.count table_valid_parts.0

  pub table_valid_unused : every row_unused (drop t.count t.rows) ≡ true
  table_valid_unused = table_valid_parts.3

-- A row that is equal to one of zeros, as the derived `==` tests it, is unused.
zeros_alike : (n : ℕ) (xs : List ℕ) → length xs ≡ n
    → pointwise eqb xs (replicate n 0) ≡ every is_zero xs
unfolding every
zeros_alike zero [] e = refl
zeros_alike zero (x ∷ xs) e = absurd (omega arith)
zeros_alike (suc n) [] e = absurd (omega arith)
zeros_alike (suc n) (x ∷ xs) e = rw (zeros_alike n xs (omega arith))

tests_round : (a b c d e f g : Bool)
    → (a && (b && (c && (d && (e && (f && g)))))) ≡ (b && c && d && e && f && g && a)
tests_round a b c d e f g = grind arith

all_zeros : (n : ℕ) (xs : List ℕ) → AllOfLen (λ x. x ≡ 0) xs n → xs ≡ replicate n 0
all_zeros n xs z =
    ext_get_or 0 xs (replicate n 0) (z.long ∙ sym (length-replicate n 0))
    (λ i low. z.at i 0 (omega (arith, z.long)) ∙ sym (get_or-replicate n i 0 0 (omega (arith, z.long))))

-- What the derived `Default` makes, and the derived `==` with it.
pub name_alike : (name none : Name) → length name.chars ≡ name_length
    → AllOfLen (λ x. x ≡ 0) none.chars name_length
    → pointwise eqb name.chars none.chars ≡ name_unused name
unfolding name_unused
name_alike name none e z =
    rw (all_zeros name_length none.chars z) (zeros_alike name_length name.chars e)

pub default_row : (z : Row) → AllOfLen (λ x. x ≡ 0) z.sets conditions × ((z.tmin ≡ 0)
    × ((z.tmax ≡ 0) × ((z.lmin ≡ 0) × ((z.lmax ≡ 0) × ((z.amin ≡ 0) × (z.amax ≡ 0))))))
    → z ≡ zero_row
default_row z (sets, (tmin, (tmax, (lmin, (lmax, (amin, amax)))))) = λ i. record {
  sets = all_zeros conditions z.sets sets i;
  tmin = tmin i;
  tmax = tmax i;
  lmin = lmin i;
  lmax = lmax i;
  amin = amin i;
  amax = amax i;
}

pub row_alike : (r : Row) → length r.sets ≡ conditions
    → (pointwise eqb r.sets zero_row.sets && (is_zero r.tmin && (is_zero r.tmax && (is_zero r.lmin
    && (is_zero r.lmax && (is_zero r.amin && is_zero r.amax)))))) ≡ row_unused r
unfolding row_unused
row_alike r e =
    rw (zeros_alike conditions r.sets e)
    (tests_round (every is_zero r.sets) (is_zero r.tmin) (is_zero r.tmax) (is_zero r.lmin)
    (is_zero r.lmax) (is_zero r.amin) (is_zero r.amax))

pub zero_unused : row_unused zero_row ≡ true
unfolding row_unused every
zero_unused = refl

-- The table value of some rows: they are its rows, and number 17 lets it by where it lets by the
-- rows and the names.
module _ (s : ℕ) (names : List Name) (rows : List Row) where
  pub table_from_rows : rows_of (table_from s names rows) ≡ rows
  table_from_rows = take_at rows _ (length rows) refl

  pub table_from_valid : rows_valid s rows ≡ true → names_valid s names ≡ true
      → table_valid (table_from s names rows) ≡ true
  unfolding table_valid
  table_from_valid fits named =
      rw (
        (rows_valid_parts s rows fits).0,
        table_from_rows,
        fits,
        named,
        drop_at rows (replicate (most_rows - length rows) zero_row) (length rows) refl,
      )
      (every_replicate row_unused zero_row zero_unused (most_rows - length rows))
