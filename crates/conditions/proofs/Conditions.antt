-- The end laws on conditions: what a condition writes is read with its meaning, whatever is read is
-- written by a condition with that meaning, and bytes have one meaning. Assumes nothing.
use Prim.Native.Nat.{ℕ, suc, ◌+◌, ◌*◌}
use native.Mathlib.Nat.{zero-add}
use native.Mathlib.Omega.{arith}
use borrow.Author.Tests.{eqb-true, eq-eqb}
use mathlib.Core.Bool.{Bool, true, false, cond}
use mathlib.Core.List.{List, [], append-nil}
use mathlib.Core.Path.{◌≡◌, refl, sym, ap, ◌∙◌}
use lib.Dec.{eqb}
use lib.ListN.{length}
use lib.Seq.{drop-length}
use Rattle.letters.specs.Letter.{set_of}
use Rattle.letters.proofs.Sets.{in_set_of}
use Rattle.table.specs.declared.Name.{Name}
use Rattle.conditions.specs.Condition.{choice, Condition, text, holds_at, unknown}
use Rattle.conditions.specs.Condition.{ConditionMeans}
use Rattle.conditions.specs.Depth.{Shallow}
use Rattle.conditions.specs.Inner.Judge.{deep, verdict_of, judge}
use Rattle.conditions.specs.Inner.Reading.{reads, wholly, condition_of}
use Rattle.conditions.specs.declared.Part.{Part}
use Rattle.conditions.specs.Inner.Reading.{some_part}
use Rattle.std.specs.Prelude.{Option, Some, None}
use Rattle.std.specs.Prelude.{Result, Ok, Err}
use Rattle.conditions.proofs.Complete.{complete}
use Rattle.conditions.proofs.Depth.{deep_false, shallow_false}
use Rattle.conditions.proofs.Sound.{Sound, reads_sound}

module _ (names : List Name) (n : ℕ) (s : List ℕ) where
  -- What a condition writes is read, with its meaning.
  tree_read : (c : Condition choice) → text c ≡ s
      → condition_of names n s ≡ some_part (set_of n (holds_at names c)) (unknown names c) (length s)
  unfolding condition_of
  tree_read c e =
      let f = 3 * length s + 3 in
      let whole = sym e ∙ sym (append-nil (text c)) in
      let r = complete names n s c f 0 [] (rw e (omega arith)) whole refl in
      rw (r, zero-add, e, eq-eqb (length s) (length s) refl)

  pub means_read : (v : ℕ) (u : Bool) → ConditionMeans names n s v u
      → condition_of names n s ≡ some_part v u (length s)
  means_read v u m = tree_read m.tree m.bytes ∙ rw (m.letters, m.flag)

  -- What is read is written by a condition with that meaning.
  pub read_means : (p : Part) → condition_of names n s ≡ Some p
      → ConditionMeans names n s p.set p.unknown
  unfolding condition_of
  read_means p e = go (reads names n s f choice 0) (reads_sound names n s f 0 choice) e
    where
      f : ℕ
      f = 3 * length s + 3

      end : (q : Part) (b : Bool) → eqb q.next (length s) ≡ b → Sound names n s choice 0 (Some q)
          → cond b (Some q) None ≡ Some p → ConditionMeans names n s p.set p.unknown
      end q false i h z = absurd (let z : ◌≡◌ {A = ℕ} 0 1 = cc in omega arith)
      end q true i h z =
          let same : q ≡ p = cc in
          let rest = rw (eqb-true q.next (length s) i, drop-length s, append-nil) at h.bytes in
          record {
            tree = h.tree;
            bytes = sym rest;
            letters = h.letters ∙ ap (λ (x : Part). x.set) same;
            flag = h.flag ∙ ap (λ (x : Part). x.unknown) same;
          }

      go : (r : Option Part) → Sound names n s choice 0 r → wholly (length s) r ≡ Some p
          → ConditionMeans names n s p.set p.unknown
      go None h q = absurd (let z : ◌≡◌ {A = ℕ} 0 1 = cc in omega arith)
      go (Some q) h z = end q (eqb q.next (length s)) refl h z

  -- Where nothing is read, no condition writes the bytes.
  pub nothing_read : condition_of names n s ≡ None → (v : ℕ) (u : Bool)
      → ConditionMeans names n s v u → ⊥
  nothing_read e v u m =
      let read = means_read v u m in
      let z : ◌≡◌ {A = ℕ} 0 1 = cc in
      omega arith

  -- The letters and the flag that bytes mean are the only ones.
  pub means_unique : {v w : ℕ} {u t : Bool} → ConditionMeans names n s v u
      → ConditionMeans names n s w t
      → (v ≡ w) × (u ≡ t)
  means_unique {v} {w} {u} {t} a b =
      let first = means_read v u a in
      let second = means_read w t b in
      let same : some_part v u (length s) ≡ some_part w t (length s) = sym first ∙ second in
      (ap set_in same, ap unknown_in same)
    where
      set_in : Option Part → ℕ
      set_in None = 0
      set_in (Some p) = p.set

      unknown_in : Option Part → Bool
      unknown_in None = false
      unknown_in (Some p) = p.unknown

  -- The code gives letters exactly where the bytes are a condition over known names, and at most 8
  -- parentheses are open.
  judge_accepted : (v : ℕ) → judge names n s ≡ Ok v
      → Shallow s × ConditionMeans names n s v false
  unfolding judge
  judge_accepted v e = go (deep 0 0 s) (condition_of names n s) refl refl e
    where
      flagged : (w : ℕ) (u : Bool) → cond {A = Result ℕ ℕ} u (Err 13) (Ok w) ≡ Ok v
          → ConditionMeans names n s w u → ConditionMeans names n s v false
      flagged w true q m = absurd (let z : ◌≡◌ {A = ℕ} 0 1 = cc in omega arith)
      flagged w false q m =
          record { tree = m.tree; bytes = m.bytes; letters = m.letters ∙ (cc); flag = m.flag }

      go : (t : Bool) (r : Option Part) → deep 0 0 s ≡ t → condition_of names n s ≡ r
          → cond {A = Result ℕ ℕ} t (Err 11) (verdict_of r) ≡ Ok v
          → Shallow s × ConditionMeans names n s v false
      go true r d p q = absurd (let z : ◌≡◌ {A = ℕ} 0 1 = cc in omega arith)
      go false None d p q = absurd (let z : ◌≡◌ {A = ℕ} 0 1 = cc in omega arith)
      go false (Some part) d p q =
          (deep_false s d, flagged part.set part.unknown q (read_means part p))

  pub judge_shallow : (v : ℕ) → judge names n s ≡ Ok v → Shallow s
  judge_shallow v e = (judge_accepted v e).0

  pub judge_letters : (v : ℕ) → judge names n s ≡ Ok v → ConditionMeans names n s v false
  judge_letters v e = (judge_accepted v e).1

  pub judge_means : (v : ℕ) → Shallow s → ConditionMeans names n s v false
      → judge names n s ≡ Ok v
  unfolding judge
  judge_means v h m = rw (shallow_false s h, means_read v false m)

-- Two trees with the same bytes hold at the same letters, and have the same flag.
module _ (names : List Name) (c d : Condition choice) (same : text c ≡ text d) where
  trees_unique : (n : ℕ) → (set_of n (holds_at names c) ≡ set_of n (holds_at names d))
      × (unknown names c ≡ unknown names d)
  trees_unique n =
      means_unique names n (text d)
      (record { tree = c; bytes = same; letters = refl; flag = refl })
      (record { tree = d; bytes = refl; letters = refl; flag = refl })

  pub trees_letters : (l : ℕ) → holds_at names c l ≡ holds_at names d l
  trees_letters l =
      let n = suc l in
      sym (in_set_of n l (holds_at names c) (omega arith))
      ∙ rw (trees_unique n).0 (in_set_of n l (holds_at names d) (omega arith))

  pub trees_flag : unknown names c ≡ unknown names d
  trees_flag = (trees_unique 0).1
