-- The record before the first tick, and the numbers of answers. Assumes nothing.
use Prim.Native.Nat.{ℕ, zero, suc, ◌≤◌}
use native.Mathlib.Omega.{arith}
use mathlib.Core.Bool.{true}
use mathlib.Core.List.{List, [], ◌∷◌}
use mathlib.Core.Path.{◌≡◌, refl, ap, ◌∙◌}
use lib.ListN.{length, get_or, replicate}
use Rattle.letters.specs.Lists.{every}
use Rattle.letters.proofs.Padding.{same_at}
use Rattle.table.specs.Limits.{most_rows}
use Rattle.table.specs.declared.Row.{Row}
use Rattle.step.specs.declared.Phase.{Phase}
use Rattle.step.specs.declared.Phase.TheVariants.{Waiting}
use Rattle.step.specs.Valid.{phases_valid, is_waiting, phase_valid}
use Rattle.pass.specs.Watch.{phases_of, start_watch}
use Rattle.pass.specs.Answer.{answered}
use Rattle.pass.proofs.Records.{phases_watch}

-- Number 18 lets it by, whichever the rows are;
waits_valid : (n : ℕ) → every is_waiting (replicate n Waiting) ≡ true
unfolding every is_waiting
waits_valid zero = refl
waits_valid (suc n) = waits_valid n

rows_valid_lem : (rows : List Row) (n : ℕ) → length rows ≤ n
    → phases_valid rows (replicate n Waiting) ≡ true
unfolding phases_valid phase_valid
rows_valid_lem [] n h = waits_valid n
rows_valid_lem (row ∷ rows) zero h = absurd (omega arith)
rows_valid_lem (row ∷ rows) (suc n) h = rows_valid_lem rows n (omega arith)

pub start_valid : (rows : List Row) → length rows ≤ most_rows
    → phases_valid rows (phases_of start_watch) ≡ true
start_valid rows few = rw phases_watch (rows_valid_lem rows most_rows few)

-- and each row of it waits.
pub start_phase : (i : ℕ) → get_or (phases_of start_watch) i Waiting ≡ Waiting
start_phase i =
    ap (λ (l : List Phase). get_or l i Waiting) (phases_watch (replicate most_rows Waiting))
    ∙ same_at Waiting most_rows i

-- The number and the line of an answer, and what a refusal leaves.
module _ {A : Type 0} (done : A) (refused : ℕ → A) where
  pub number_is : (n : ℕ) (number : A → ℕ) → number done ≡ 0
      → ((k : ℕ) → number (refused k) ≡ k) → number (answered n done refused) ≡ n
  unfolding answered
  number_is zero number d r = d
  number_is (suc n) number d r = r (suc n)

  pub line_is : (n : ℕ) (line : A → ℕ) → line done ≡ 0
      → ((k : ℕ) → line (refused k) ≡ 0) → line (answered n done refused) ≡ 0
  unfolding answered
  line_is zero line d r = d
  line_is (suc n) line d r = r (suc n)

  pub refused_is : (n k : ℕ) → n ≡ suc k → answered n done refused ≡ refused n
  unfolding answered
  refused_is zero k e = absurd (omega arith)
  refused_is (suc n) k e = refl
