-- Facts on numbers and lists that name no system: two inductions, a bounded test, pigeons.
-- Assumes nothing.
use Prim.Native.Nat.{ℕ, zero, suc, ◌≤◌, ◌<◌}
use native.Mathlib.Omega.{arith}
use native.Mathlib.Decide.{ℕ_discrete}
use mathlib.Core.List.{List, [], ◌∷◌, ◌++◌, append-nil, append_assoc}
use mathlib.Core.Logic.{◌⊎◌}
use mathlib.Core.Logic.◌⊎◌.{inl, inr}
use mathlib.Core.Path.{◌≡◌, sym, ◌∙◌}

-- what follows from its truth at all smaller numbers
pub strong_induction : (P : ℕ → Type 0) → ((n : ℕ) → ((k : ℕ) → k < n → P k) → P n)
    → (n : ℕ) → P n
strong_induction P f n = go (suc n) n (omega arith)
  where
    go : (b n : ℕ) → n < b → P n
    go zero n h = absurd (omega arith)
    go (suc b) n h = f n (λ k q. go b k (omega arith))

-- a list from its front, one letter more at its end each time
pub snoc_induction : (P : List ℕ → Type 0) → P []
    → ((w : List ℕ) (l : ℕ) → P w → P (w ++ (l ∷ [])))
    → (w : List ℕ) → P w
snoc_induction P none more w = go w [] none
  where
    go : (w done : List ℕ) → P done → P (done ++ w)
    go [] done p = rw append-nil p
    go (l ∷ w) done p = rw append_assoc at (go w (done ++ (l ∷ [])) (more done l p))

-- each number below n has the one property, or some number below n has the other
pub all_or_some : (P Q : ℕ → Type 0) (n : ℕ) → ((k : ℕ) → k < n → P k ⊎ Q k)
    → ((k : ℕ) → k < n → P k) ⊎ ((k : ℕ) × (k < n) × Q k)
all_or_some P Q zero f = inl (λ k h. absurd (omega arith))
all_or_some P Q (suc n) f = go (all_or_some P Q n (λ k h. f k (omega arith))) (f n (omega arith))
  where
    last : P n → ((k : ℕ) → k < n → P k) → (k : ℕ) → k < suc n → Dec (k ≡ n) → P k
    last p g k h (yes e) = rw e p
    last p g k h (no e) = g k (omega arith)

    go : ((k : ℕ) → k < n → P k) ⊎ ((k : ℕ) × (k < n) × Q k) → P n ⊎ Q n
        → ((k : ℕ) → k < suc n → P k) ⊎ ((k : ℕ) × (k < suc n) × Q k)
    go (inr q) r = inr (q.0, omega (arith, q.1), q.2)
    go (inl g) (inl p) = inl (λ k h. last p g k h (ℕ_discrete k n))
    go (inl g) (inr q) = inr (n, omega arith, q)

-- pigeons: k different numbers below n are at most n
pub pigeons : (n k : ℕ) (g : ℕ → ℕ) → ((i : ℕ) → i < k → g i < n)
    → ((i j : ℕ) → i < j → j < k → g i ≡ g j → ⊥) → k ≤ n
pigeons n zero g low diff = omega arith
pigeons zero (suc k) g low diff = absurd (omega (arith, low 0 (omega arith)))
pigeons (suc n) (suc k) g low diff = omega (arith, pigeons n k moved moved_low moved_diff)
  where
    pick : (i : ℕ) → Dec (g i ≡ n) → ℕ
    pick i (yes e) = g k
    pick i (no e) = g i

    moved : ℕ → ℕ
    moved i = pick i (ℕ_discrete (g i) n)

    pick_low : (i : ℕ) → i < k → (d : Dec (g i ≡ n)) → pick i d < n
    pick_low i h (yes e) = go (low k (omega arith)) (ℕ_discrete (g k) n)
      where
        go : g k < suc n → Dec (g k ≡ n) → g k < n
        go r (yes f) = absurd (diff i k h (omega arith) (e ∙ sym f))
        go r (no f) = omega arith
    pick_low i h (no e) = omega (arith, low i (omega arith))

    moved_low : (i : ℕ) → i < k → moved i < n
    moved_low i h = pick_low i h (ℕ_discrete (g i) n)

    pick_diff : (i j : ℕ) → i < j → j < k → (d : Dec (g i ≡ n)) (c : Dec (g j ≡ n))
        → pick i d ≡ pick j c → ⊥
    pick_diff i j h q (yes d) (yes c) e = diff i j h (omega arith) (d ∙ sym c)
    pick_diff i j h q (yes d) (no c) e = diff j k q (omega arith) (sym e)
    pick_diff i j h q (no d) (yes c) e = diff i k (omega arith) (omega arith) e
    pick_diff i j h q (no d) (no c) e = diff i j h (omega arith) e

    moved_diff : (i j : ℕ) → i < j → j < k → moved i ≡ moved j → ⊥
    moved_diff i j h q e = pick_diff i j h q (ℕ_discrete (g i) n) (ℕ_discrete (g j) n) e
