-- What the code says of a condition is right, and nothing else is. Assumes nothing.
use Prim.Native.Nat.{ℕ, ◌^◌, ◌<◌}
use native.Mathlib.Omega.{arith}
use mathlib.Core.Bool.{Bool, true, false, cond}
use mathlib.Core.List.{List}
use mathlib.Core.Logic.{◌⊎◌, inl, inr}
use mathlib.Core.Path.{◌≡◌, refl, sym, ◌∙◌}
use Rattle.letters.proofs.Sets.{set_of_lt}
use Rattle.table.specs.declared.Name.{Name}
use Rattle.conditions.specs.Condition.{holds_at, ConditionMeans}
use Rattle.conditions.specs.Depth.{Shallow}
use Rattle.conditions.specs.Inner.Judge.{deep, verdict_of, judge}
use Rattle.conditions.specs.Judge.{RightCondition, is11, is12, is13, is_set}
use Rattle.conditions.specs.Inner.Reading.{condition_of}
use Rattle.conditions.specs.declared.Part.{Part}
use Rattle.std.specs.Prelude.{Option, Some, None}
use Rattle.std.specs.Prelude.{Result, Ok, Err}
use Rattle.conditions.proofs.Conditions.{read_means, nothing_read, means_read, judge_letters}
use Rattle.conditions.proofs.Depth.{deep_true, deep_false, shallow_false, too_deep_true}

module _ (names : List Name) (n : ℕ) (xs : List ℕ) where
  pub judge_right : RightCondition names n xs (judge names n xs)
  unfolding judge
  judge_right = go (deep 0 0 xs) refl
    where
      flagged : (v : ℕ) (u : Bool) → Shallow xs → ConditionMeans names n xs v u
          → RightCondition names n xs (cond {A = Result ℕ ℕ} u (Err 13) (Ok v))
      flagged v true h m = is13 h m
      flagged v false h m = is_set (record { shallow = h; means = m })

      read : (r : Option Part) → condition_of names n xs ≡ r → Shallow xs
          → RightCondition names n xs (verdict_of r)
      read (Some p) e h =
          flagged p.set p.unknown h (read_means names n xs p e)
      read None e h = is12 h (nothing_read names n xs e)

      go : (t : Bool) → deep 0 0 xs ≡ t
          → RightCondition names n xs (cond {A = Result ℕ ℕ} t (Err 11) (verdict_of (condition_of names n xs)))
      go true e = is11 (deep_true xs e)
      go false e = read (condition_of names n xs) refl (deep_false xs e)

  pub right_judge : (r : Result ℕ ℕ) → RightCondition names n xs r → judge names n xs ≡ r
  unfolding judge
  right_judge r (is11 h) = rw (too_deep_true xs h)
  right_judge r (is12 h none) = rw (shallow_false xs h) (go (condition_of names n xs) refl)
    where
      go : (r : Option Part) → condition_of names n xs ≡ r → verdict_of r ≡ Err 12
      go (Some p) e =
          absurd (none p.set p.unknown (read_means names n xs p e))
      go None e = refl
  right_judge r (is13 {v} h m) = rw (shallow_false xs h, means_read names n xs v true m)
  right_judge r (is_set {v} c) =
      rw (shallow_false xs c.shallow, means_read names n xs v false c.means)

  pub right_unique : {a b : Result ℕ ℕ} → RightCondition names n xs a → RightCondition names n xs b
      → a ≡ b
  right_unique {a} {b} h g = sym (right_judge a h) ∙ right_judge b g

  -- The numbers that a condition can get.
  pub judge_number : (m : ℕ) → judge names n xs ≡ Err m
      → (m ≡ 11) ⊎ ((m ≡ 12) ⊎ (m ≡ 13))
  judge_number m e = go (judge names n xs) judge_right e
    where
      go : (r : Result ℕ ℕ) → RightCondition names n xs r → r ≡ Err m
          → (m ≡ 11) ⊎ ((m ≡ 12) ⊎ (m ≡ 13))
      go r (is11 h) q = inl (cc)
      go r (is12 h none) q = inr (inl (cc))
      go r (is13 h m) q = inr (inr (cc))
      go r (is_set c) q = absurd (let z : ◌≡◌ {A = ℕ} 0 1 = cc in omega arith)

  pub judge_some : (m : ℕ) → judge names n xs ≡ Err m → (m ≡ 0 → ⊥)
  judge_some m e z = go (judge_number m e)
    where
      go : (m ≡ 11) ⊎ ((m ≡ 12) ⊎ (m ≡ 13)) → ⊥
      go (inl k) = omega arith
      go (inr (inl k)) = omega arith
      go (inr (inr k)) = omega arith

  -- No letter from n on is in the set.
  pub judge_below : (v : ℕ) → judge names n xs ≡ Ok v → v < 2 ^ n
  judge_below v e =
      let m = judge_letters names n xs v e in
      rw (← m.letters) (set_of_lt n (holds_at names m.tree))
