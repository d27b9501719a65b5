-- The rows of a set, gathered place by place: the loop of `subtable`. Assumes nothing.
use Prim.Native.Nat.{ℕ, suc, ◌+◌, ◌-◌, ◌<◌, ◌≤◌, min}
use native.Mathlib.Decide.{dec_lt}
use native.Mathlib.Omega.{arith}
use mathlib.Core.Bool.{true, false}
use mathlib.Core.List.{List, ◌++◌}
use mathlib.Core.Path.{◌≡◌, refl, sym}
use lib.ListN.{length, get_or, take, replicate, length-append}
use lib.ListN.{set as put}
use lib.Seq.{append_snoc, set_at, take_all}
use Rattle.letters.specs.Letter.{bit_at}
use Rattle.letters.specs.Sets.{picked_from, picked}
use Rattle.letters.proofs.Picked.{picked_next, picked_skip}
use Rattle.table.specs.Limits.{most_rows}
use Rattle.table.specs.Row.{zero_row, no_row}
use Rattle.table.specs.Valid.{table_from}
use Rattle.table.specs.declared.Name.{Name}
use Rattle.table.specs.declared.Row.{Row}
use Rattle.table.specs.declared.Table.{Table}

-- The first rows, with more asked for than there are.
pub take_used : (all : List Row) (most count : ℕ) → length all ≡ most
    → take (min count most) all ≡ take count all
take_used all most count long = go (dec_lt count most)
  where
    go : Dec (count < most) → take (min count most) all ≡ take count all
    go (yes h) = let used : min count most ≡ count = omega arith in rw used
    go (no h) =
        let used : min count most ≡ most = omega arith in
        rw (used, take_all most all (omega arith), take_all count all (omega arith))

-- Some rows in front, and behind them n rows in which everything is 0.
abbrev pub in_front : List Row → ℕ → List Row
in_front front n = front ++ replicate n zero_row

module _ (set : ℕ) (all : List Row) where
  -- The first i rows are looked at.
  pub record Gathered (rows : List Row) (n i : ℕ) : Type 0 where
    -- there are no more rows than places
    pub few : length all ≤ most_rows
    -- n of those looked at are in the set
    pub low : n ≤ i
    pub count : length (picked set (take i all)) ≡ n
    -- and these stand in front
    pub front : rows ≡ in_front (picked set (take i all)) (most_rows - n)

  pub gathered_none : length all ≤ most_rows → Gathered (replicate most_rows zero_row) 0 0
  unfolding picked_from
  gathered_none few = record { few = few; low = omega arith; count = refl; front = refl }

  module _ {rows : List Row} {n i : ℕ} (g : Gathered rows n i) (left : i < length all) where
    pub gathered_next : bit_at set i ≡ true
        → Gathered (put rows n (get_or all i no_row)) (n + 1) (i + 1)
    gathered_next e =
        let more = picked_next set no_row all i left e in
        let free : most_rows - n ≡ suc (most_rows - (n + 1)) = omega (arith, g.few, g.low) in
        record {
          few = g.few;
          low = omega (arith, g.low);
          count = rw (more, length-append) (omega (arith, g.count));
          front = rw (g.front, more, free, append_snoc)
              (set_at (picked set (take i all)) zero_row _ (get_or all i no_row) n g.count);
        }

    pub gathered_skip : bit_at set i ≡ false → Gathered rows n (i + 1)
    gathered_skip e =
        let same = picked_skip set no_row all i left e in
        record {
          few = g.few;
          low = omega (arith, g.low);
          count = rw same g.count;
          front = rw same g.front;
        }

-- When all are gathered, they are the table of the set's rows.
pub gathered_all : {set : ℕ} {all : List Row} {rows : List Row} {n i : ℕ} (signals : ℕ)
    (names : List Name) → Gathered set all rows n i → length all ≤ i
    → ◌≡◌ {A = Table} (record { signals = signals; names = names; count = n; rows = rows })
    (table_from signals names (picked set all))
gathered_all {set} {all} {rows} {n} {i} signals names g over =
    let same : take i all ≡ all = take_all i all over in
    let many : n ≡ length (picked set all) = rw same at (sym g.count) in
    let are : rows ≡ (table_from signals names (picked set all)).rows = rw (← many, ← same) g.front in
    λ k. record { signals = signals; names = names; count = many k; rows = are k }
