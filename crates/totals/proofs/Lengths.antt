-- How long the lines of a run's totals are. Assumes nothing.
use Prim.Native.Nat.{ℕ, suc, ◌+◌, ◌*◌, ◌^◌, ◌<◌, ◌≤◌}
use native.Mathlib.Omega.{arith}
use mathlib.Core.List.{List, [], ◌∷◌}
use mathlib.Core.Path.{◌≡◌, refl}
use lib.ListN.{length, get_or, take, length-append, length-take}
use lib.Seq.{get_or-take}
use Rattle.text.specs.Lines.{ended, All, none, and}
use Rattle.text.proofs.Decimals.{decimal_length}
use Rattle.table.specs.Limits.{most_rows}
use Rattle.table.specs.Refusal.{Outcome}
use Rattle.std.specs.Prelude.{Ok, Err}
use Rattle.table.specs.declared.Refusal.{Refusal}
use Rattle.load.specs.Load.{no_totals, sum_of, sums_of}
use Rattle.load.specs.declared.Ran.{Ran}
use Rattle.load.specs.Figures.{Totals}
use Rattle.lines.specs.Line.{spaced}
use Rattle.totals.specs.Totals.{totals_line, totals_lines, sums_line, run_lines, run_bytes}
use Rattle.lines.proofs.Lengths.{more_length, both_length, one_length, refused_length}

-- Each number takes at most k + 2 bytes, its space included, while the numbers are below 10^(k+1).
spaced_length : (k : ℕ) (numbers : List ℕ) → All (λ n. n < 10 ^ suc k) numbers
    → length (spaced numbers) ≤ length numbers * (k + 2)
unfolding spaced
spaced_length k [] none = omega arith
spaced_length k (n ∷ more) (and low others) =
    let few = decimal_length k n low in
    let rest = spaced_length k more others in
    rw length-append (omega arith)

-- Four numbers, each after a space, below 10^(k+1).
pub four_length : (k a b c d : ℕ) → a < 10 ^ suc k → b < 10 ^ suc k → c < 10 ^ suc k
    → d < 10 ^ suc k → length (spaced (a ∷ b ∷ c ∷ d ∷ [])) ≤ 4 * k + 8
four_length k a b c d p q r s =
    let all = spaced_length k (a ∷ b ∷ c ∷ d ∷ []) (and p (and q (and r (and s none)))) in
    omega (arith, all)

-- Totals of at most five digits.
pub record SmallTotals (t : Totals) : Type 0 where
  pub realised : t.realised < 100000
  pub completed : t.completed < 100000
  pub breaks : t.breaks < 100000
  pub pending : t.pending < 100000

-- The line of a row, whose number is below 10^(k+1).
totals_line_length : (k r : ℕ) (t : Totals) → r < 10 ^ suc k → SmallTotals t
    → length (totals_line r t) ≤ k + 29
totals_line_length k r t low small =
    let number = decimal_length k r low in
    let numbers = four_length 4 t.realised t.completed t.breaks t.pending
    small.realised small.completed small.breaks small.pending in
    rw (length-append, length-append) (omega arith)

-- The first n of a list are so.
abbrev pub AllSmall : ℕ → List Totals → Type 0
AllSmall n all = (j : ℕ) → j < n → SmallTotals (get_or all j no_totals)

totals_length : (r : ℕ) (all : List Totals) → r + length all ≤ 100 → AllSmall (length all) all
    → length (ended (totals_lines r all)) ≤ length all * 31
unfolding totals_lines ended
totals_length r [] low small = omega arith
totals_length r (t ∷ more) low small =
    let first = totals_line_length 1 r t (omega arith) (small 0 (omega arith)) in
    let others = totals_length (suc r) more (omega arith) (λ j h. small (suc j) (omega arith)) in
    omega (arith, first, others, more_length (totals_line r t) (totals_lines (suc r) more))

sum_low : (part : Totals → ℕ) (all : List Totals)
    → ((j : ℕ) → j < length all → part (get_or all j no_totals) < 100000)
    → sum_of part all ≤ length all * 100000
unfolding sum_of
sum_low part [] small = omega arith
sum_low part (t ∷ more) small =
    let rest = sum_low part more (λ j h. small (suc j) (omega arith)) in
    omega (arith, rest, small 0 (omega arith))

sums_length : (all : List Totals) → length all < 100 → AllSmall (length all) all
    → length (sums_line (sums_of all)) ≤ 37
unfolding sums_of
sums_length all few small =
    let realised = sum_low (λ t. t.realised) all (λ j h. (small j h).realised) in
    let completed = sum_low (λ t. t.completed) all (λ j h. (small j h).completed) in
    let breaks = sum_low (λ t. t.breaks) all (λ j h. (small j h).breaks) in
    let pending = sum_low (λ t. t.pending) all (λ j h. (small j h).pending) in
    let numbers = four_length 6 (sums_of all).realised (sums_of all).completed
    (sums_of all).breaks (sums_of all).pending
    (omega arith) (omega arith) (omega arith) (omega arith) in
    rw length-append (omega arith)

-- No more rows than a table can have, and numbers of few digits.
pub record FewTotals (rows : ℕ) (ran : Ran) : Type 0 where
  pub rules : rows ≤ most_rows
  pub refusal : (r : Refusal) → ran.outcome ≡ Err r → (r.number < 1000) × (r.line < 1000)
  pub totals : AllSmall rows ran.totals

pub totals_short : (rows : ℕ) (ran : Ran) → FewTotals rows ran
    → length (run_bytes rows ran) ≤ 1000
unfolding run_lines
totals_short rows ran few = go ran.outcome few.refusal
  where
    go : (outcome : Outcome)
        → ((r : Refusal) → outcome ≡ Err r → (r.number < 1000) × (r.line < 1000))
        → length (ended (run_lines rows outcome ran.totals)) ≤ 1000
    go (Err r) small =
        let low = small r refl in
        let line = refused_length r.number r.line low.0 low.1 in omega arith
    go (Ok _) small =
        let used = take rows ran.totals in
        let most : length used ≤ rows = rw length-take (omega arith) in
        let each : AllSmall (length used) used = λ j h.
        let low : j < rows = omega arith in
        rw (get_or-take rows ran.totals j no_totals low) (few.totals j low) in
        let lines = totals_length 1 used (omega (arith, few.rules)) each in
        let sums = sums_length used (omega (arith, few.rules)) each in
        omega (
          arith,
          few.rules,
          both_length (totals_lines 1 used) (sums_line (sums_of used) ∷ []),
          one_length (sums_line (sums_of used)),
        )
