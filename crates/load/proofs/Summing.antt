-- Sums of totals, row by row; and what they come to. Assumes nothing.
use Prim.Native.Nat.{ℕ, zero, suc, ◌+◌, ◌*◌, ◌<◌, ◌≤◌}
use native.Mathlib.Numerals.{add-one}
use native.Mathlib.Omega.{arith}
use mathlib.Core.List.{List, [], ◌∷◌, ◌++◌}
use mathlib.Core.Path.{◌≡◌, refl, sym, ap, ◌∙◌}
use lib.ListN.{length, get_or, take}
use lib.Seq.{take-suc}
use Rattle.load.specs.Figures.{Sums}
use Rattle.load.specs.Figures.{Totals}
use Rattle.load.specs.Load.{no_totals, sum_of, sums_of}
use Rattle.load.specs.Further.Balance.{Balanced, SumsBalanced, OneMore}
use Rattle.load.specs.Inner.Tally.{with_row, Grown}

sum_snoc : (part : Totals → ℕ) (all : List Totals) (t : Totals)
    → sum_of part (all ++ (t ∷ [])) ≡ sum_of part all + part t
unfolding sum_of
sum_snoc part [] t = omega arith
sum_snoc part (u ∷ all) t = let rest = sum_snoc part all t in omega (arith, rest)

sums_snoc : (all : List Totals) (t : Totals) → sums_of (all ++ (t ∷ [])) ≡ with_row (sums_of all) t
unfolding sums_of
sums_snoc all t = λ i. record {
  realised = sum_snoc (λ u. u.realised) all t i;
  completed = sum_snoc (λ u. u.completed) all t i;
  breaks = sum_snoc (λ u. u.breaks) all t i;
  pending = sum_snoc (λ u. u.pending) all t i;
}

pub sums_more : (all : List Totals) (t : Totals) → OneMore (sums_of all) t (sums_of (all ++ (t ∷ [])))
sums_more all t =
    rw (sums_snoc all t)
    (record { realised = refl; completed = refl; breaks = refl; pending = refl })

-- And those of no row.
abbrev pub no_sums : Sums
no_sums = record { realised = 0; completed = 0; breaks = 0; pending = 0 }

pub sums_none : sums_of [] ≡ no_sums
unfolding sums_of sum_of
sums_none = refl

-- The sums of the first i of some rows: none is too large.
pub record Summing (all : List Totals) (sums : Sums) (i : ℕ) : Type 0 where
  pub are : sums ≡ sums_of (take i all)
  pub realised : sums.realised ≤ i * 65535
  pub completed : sums.completed ≤ i * 65535
  pub breaks : sums.breaks ≤ i * 65535
  pub pending : sums.pending ≤ i * 65535

pub summing_none : (all : List Totals) → Summing all no_sums 0
summing_none all = record {
  are = sym sums_none;
  realised = omega arith;
  completed = omega arith;
  breaks = omega arith;
  pending = omega arith;
}

pub summing_next : {all : List Totals} {sums after : Sums} {i j : ℕ} {row : Totals}
    → Summing all sums i → i < length all → row ≡ get_or all i row
    → after ≡ with_row sums row → Grown sums after → j ≡ i + 1 → Summing all after j
summing_next {all} {sums} {after} {i} {j} {row} s h is e g more = record {
  are = e ∙ ap (λ (t : Sums). with_row t row) s.are ∙ sym (sums_snoc (take i all) row)
      ∙ ap sums_of (ap (λ (t : Totals). take i all ++ (t ∷ [])) is ∙ sym (take-suc all i row h)
      ∙ ap (λ (n : ℕ). take n all) (sym (more ∙ add-one i)));
  realised = omega (arith, s.realised, g.realised);
  completed = omega (arith, s.completed, g.completed);
  breaks = omega (arith, s.breaks, g.breaks);
  pending = omega (arith, s.pending, g.pending);
}

-- Where each of some rows is balanced, so are the sums.
pub sums_balance : (n : ℕ) (all : List Totals)
    → ((j : ℕ) → Balanced (get_or all j no_totals)) → SumsBalanced (sums_of (take n all))
unfolding sums_of sum_of
sums_balance zero all each = refl
sums_balance (suc n) [] each = refl
sums_balance (suc n) (t ∷ all) each =
    let rest = sums_balance n all (λ j. each (suc j)) in omega (arith, each 0, rest)
