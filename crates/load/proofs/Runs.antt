-- What a run gives: its number and line, and the totals of each place. Assumes nothing.
use Prim.Native.Nat.{ℕ, zero, suc, ◌<◌, ◌≤◌}
use native.Mathlib.Decide.{dec_lt}
use native.Mathlib.Omega.{arith}
use mathlib.Core.Bool.{Bool, true, false, cond, true≢false}
use mathlib.Core.List.{List, [], ◌∷◌, map}
use mathlib.Core.Logic.{◌↔◌}
use mathlib.Core.Path.{◌≡◌, refl, sym, ap, ◌∙◌}
use borrow.Author.Tests.{le-leb, leb-true, leb-false}
use lib.Dec.{leb}
use lib.ListN.{length, get_or, take, replicate, length-replicate}
use Rattle.letters.proofs.Padding.{same_at}
use Rattle.table.specs.Limits.{most_rows}
use Rattle.table.specs.Refusal.{refused_at}
use Rattle.table.specs.Row.{no_row}
use Rattle.table.specs.Valid.{table_valid, rows_of}
use Rattle.table.specs.Further.Numbers.{number_of, line_of}
use Rattle.std.specs.Prelude.{Ok}
use Rattle.table.specs.declared.Row.{Row}
use Rattle.table.specs.declared.Table.{Table}
use Rattle.pass.specs.Answer.{answered}
use Rattle.pass.proofs.Starts.{number_is, line_is, refused_is}
use Rattle.load.specs.declared.Ran.{Ran}
use Rattle.load.specs.Figures.{Totals}
use Rattle.load.specs.Load.{numbers_from, load_of, totals_of, no_totals, totals_over, sum_of}
use Rattle.load.specs.Load.{sums_of, longest_run, run_number, not_run, run_answer}
use Rattle.load.specs.Further.Balance.{Balanced, SumsBalanced, AtMost}
use Rattle.load.proofs.Letters.{load_length}
use Rattle.load.proofs.RowTotals.{totals_most, totals_balance}
use Rattle.load.proofs.RowTotals.{over_length, over_at, over_beyond, over_none}
use Rattle.load.proofs.Running.{lets_by, rows_few}
use Rattle.load.proofs.Summing.{sums_balance}

-- Which number a run has.
number_cases : (valid : Bool) (ticks : ℕ) → let number : ℕ =
    cond valid (cond (leb ticks longest_run) 0 22) 17 in
    ((number ≡ 22) ↔ ((valid ≡ true) × (longest_run < ticks)))
    × ((number ≡ 17) ↔ (valid ≡ false))
number_cases true ticks = go (leb ticks longest_run) refl
  where
    go : (few : Bool) → leb ticks longest_run ≡ few → let number : ℕ = cond few 0 22 in
        ((number ≡ 22) ↔ ((true ≡ true) × (longest_run < ticks)))
        × ((number ≡ 17) ↔ (true ≡ false))
    go true e =
        let low = leb-true ticks longest_run e in (
          (λ h. absurd (omega arith), λ h. absurd (omega (arith, h.1))),
          (λ h. absurd (omega arith), λ h. absurd (true≢false h)),
        )
    go false e =
        let high = leb-false ticks longest_run e in (
          (λ h. (refl, omega arith), λ h. refl),
          (λ h. absurd (omega arith), λ h. absurd (true≢false h)),
        )
number_cases false ticks = (
  (λ h. absurd (omega arith), λ h. absurd (true≢false (sym h.0))),
  (λ h. refl, λ h. refl),
)

module _ (table : Table) (start ticks : ℕ) where
  abbrev s : ℕ
  s = table.signals

  abbrev rows : List Row
  rows = rows_of table

  abbrev w : List ℕ
  w = load_of s start ticks

  abbrev done : Ran
  done = record { outcome = Ok tt; totals = totals_over s rows w }

  abbrev refused : ℕ → Ran
  refused n = not_run (refused_at n 0)

  abbrev totals_at : ℕ → Totals
  totals_at i = get_or (run_answer table start ticks).totals i no_totals

  -- The number of a run, and its line; a refused one has zeros.
  pub run_number_lem : number_of (run_answer table start ticks).outcome ≡ run_number table ticks
  unfolding run_answer
  run_number_lem = number_is done refused (run_number table ticks)
      (λ (r : Ran). number_of r.outcome) refl (λ k. refl)

  pub run_line : line_of (run_answer table start ticks).outcome ≡ 0
  unfolding run_answer
  run_line = line_is done refused (run_number table ticks)
      (λ (r : Ran). line_of r.outcome) refl (λ k. refl)

  pub run_22 : (number_of (run_answer table start ticks).outcome ≡ 22)
      ↔ ((table_valid table ≡ true) × (longest_run < ticks))
  run_22 = rw run_number_lem (number_cases (table_valid table) ticks).0

  pub run_17 : (number_of (run_answer table start ticks).outcome ≡ 17) ↔ (table_valid table ≡ false)
  run_17 = rw run_number_lem (number_cases (table_valid table) ticks).1

  pub run_zeros : (n : ℕ) → number_of (run_answer table start ticks).outcome ≡ suc n
      → (run_answer table start ticks).totals ≡ replicate most_rows no_totals
  unfolding run_answer
  run_zeros n e = ap (λ (r : Ran). r.totals)
      (refused_is done refused (run_number table ticks) n (sym run_number_lem ∙ e))

  -- The totals of a place are zeros, or those of its row.
  by_place : (P : Totals → Type 0) (i : ℕ) → P no_totals
      → (i < length rows → P (totals_of s (get_or rows i no_row) w)) → P (totals_at i)
  unfolding run_answer answered
  by_place P i none used = go (run_number table ticks)
    where
      place : Dec (i < length rows) → P (get_or (totals_over s rows w) i no_totals)
      place (yes low) = rw (over_at s rows w i low) (used low)
      place (no high) = rw (over_beyond s rows w i (omega arith)) none

      go : (n : ℕ) → P (get_or (answered n done refused).totals i no_totals)
      go zero = place (dec_lt i (length rows))
      go (suc n) = rw (same_at no_totals most_rows i) none

  pub run_length : length (run_answer table start ticks).totals ≡ most_rows
  unfolding run_answer answered
  run_length = go (run_number table ticks) refl
    where
      go : (n : ℕ) → run_number table ticks ≡ n
          → length (answered n done refused).totals ≡ most_rows
      go zero e = over_length s rows w (rows_few table (lets_by (table_valid table) ticks e).0)
      go (suc n) e = length-replicate {A = Totals} most_rows no_totals

  pub run_unused : (i : ℕ) → length rows ≤ i → totals_at i ≡ no_totals
  run_unused i high = by_place (λ t. t ≡ no_totals) i refl (λ low. absurd (omega arith))

  pub run_balance : (i : ℕ) → Balanced (totals_at i)
  run_balance i = by_place Balanced i refl (λ low. totals_balance s (get_or rows i no_row) w)

  pub run_sums : (n : ℕ) → SumsBalanced (sums_of (take n (run_answer table start ticks).totals))
  run_sums n = sums_balance n (run_answer table start ticks).totals run_balance

  pub run_most : (i : ℕ) → AtMost ticks (totals_at i)
  run_most i = by_place (AtMost ticks) i
      (record {
        realised = omega arith;
        completed = omega arith;
        breaks = omega arith;
        pending = omega arith;
      })
      (λ low. rw (load_length s start ticks) at (totals_most s (get_or rows i no_row) w))

  -- A run that is taken.
  module _ (passes : table_valid table ≡ true) (few : ticks ≤ longest_run) where
    pub run_taken : run_answer table start ticks ≡ done
    unfolding run_answer answered
    run_taken = rw (passes, le-leb ticks longest_run few)

    pub run_at : (i : ℕ) → i < length rows → totals_at i ≡ totals_of s (get_or rows i no_row) w
    run_at i used =
        ap (λ (r : Ran). get_or r.totals i no_totals) run_taken ∙ over_at s rows w i used

-- No tick, no total.
pub none_run : (table : Table) (start : ℕ)
    → (run_answer table start 0).totals ≡ replicate most_rows no_totals
unfolding run_answer answered numbers_from
none_run table start = go (run_number table 0) refl
  where
    go : (n : ℕ) → run_number table 0 ≡ n
        → (answered n (done table start 0) (refused table start 0)).totals
        ≡ replicate most_rows no_totals
    go zero e = over_none table.signals (rows_of table)
        (rows_few table (lets_by (table_valid table) 0 e).0)
    go (suc n) e = refl

-- The sums of any rows over any trace are balanced.
pub rows_balance : (s : ℕ) (rows : List Row) (w : List ℕ)
    → SumsBalanced (sums_of (map (λ row. totals_of s row w) rows))
unfolding sums_of sum_of
rows_balance s [] w = refl
rows_balance s (row ∷ rows) w =
    let first = totals_balance s row w in
    let rest = rows_balance s rows w in
    omega (arith, first, rest)
