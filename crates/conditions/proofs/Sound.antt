-- What is read is written by a condition with that meaning: one law for each part of the reading.
-- Assumes nothing.
use Prim.Native.Char.{code}
use Prim.Native.Nat.{ℕ, zero, suc, ◌+◌, ◌≤◌, ◌<◌}
use native.Mathlib.Omega.{arith}
use borrow.Author.Tests.{ltb-false, eqb-false}
use mathlib.Core.Bool.{Bool, true, false, ◌||◌, cond}
use mathlib.Core.List.{List, ◌∷◌, ◌++◌, append_assoc}
use mathlib.Core.Path.{◌≡◌, refl, sym, ◌∙◌}
use lib.Bits.{bit_and, bit_or}
use lib.Dec.{eqb, ltb}
use lib.ListN.{length, take, drop, length-drop, take-append-drop}
use lib.Seq.{drop-drop, length-take-le}
use Rattle.letters.specs.Letter.{set_of}
use Rattle.letters.proofs.Sets.{set_of_or, set_of_and, set_of_others, set_of_false}
use Rattle.table.specs.Name.{name_run}
use Rattle.table.specs.declared.Name.{Name}
use Rattle.conditions.specs.Condition.{Kind, choice, term, factor, Condition, text, name_of}
use Rattle.conditions.specs.Condition.{place, holds_at, unknown}
use Rattle.conditions.specs.Condition.Condition.{one_term, or, one_factor, and, negated, named}
use Rattle.conditions.specs.Condition.Condition.{never, always, grouped}
use Rattle.conditions.specs.Inner.Reading.{is_at, joined, others, closed, followed, signal}
use Rattle.conditions.specs.Inner.Reading.{name_at, digit_at, reads}
use Rattle.conditions.specs.declared.Part.{Part}
use Rattle.conditions.specs.Inner.Reading.{some_part}
use Rattle.std.specs.Prelude.{Option, Some, None}
use Rattle.conditions.proofs.Bytes.{is_at_cons, is_at_lt}
use Rattle.conditions.proofs.Names.{name_run_every}
use Rattle.table.proofs.Laws.{name_run_le}

-- The bytes from one place to another are written by a condition with that set and flag.
pub record Wrote (names : List Name) (n : ℕ) (s : List ℕ) (k : Kind) (at v : ℕ) (u : Bool)
    (next : ℕ) : Type 0 where
  pub tree : Condition k
  pub starts : at < next
  pub ends : next ≤ length s
  pub bytes : drop at s ≡ text tree ++ drop next s
  pub letters : set_of n (holds_at names tree) ≡ v
  pub flag : unknown names tree ≡ u

module _ (names : List Name) (n : ℕ) (s : List ℕ) where
  abbrev pub Sound : Kind → ℕ → Option Part → Type 0
  Sound k at (Some p) = Wrote names n s k at p.set p.unknown p.next
  Sound k at None = Unit {0}

  -- One or more parts joined by a byte: terms by `|`, factors by `&`.
  record Joining (k part : Kind) (b : ℕ) (f : ℕ → ℕ → ℕ) : Type 0 where
    one : Condition part → Condition k
    one_text : (t : Condition part) → text (one t) ≡ text t
    one_letters : (t : Condition part) → set_of n (holds_at names (one t))
        ≡ set_of n (holds_at names t)
    one_flag : (t : Condition part) → unknown names (one t) ≡ unknown names t
    more : Condition part → Condition k → Condition k
    more_text : (t : Condition part) (c : Condition k) → text (more t c) ≡ text t ++ b ∷ text c
    more_letters : (t : Condition part) (c : Condition k) → set_of n (holds_at names (more t c))
        ≡ f (set_of n (holds_at names t)) (set_of n (holds_at names c))
    more_flag : (t : Condition part) (c : Condition k) → unknown names (more t c)
        ≡ (unknown names t || unknown names c)

  terms : Joining choice term (code "|") bit_or
  unfolding text holds_at unknown
  terms = record {
    one = one_term;
    one_text = λ t. refl;
    one_letters = λ t. refl;
    one_flag = λ t. refl;
    more = or;
    more_text = λ t c. refl;
    more_letters = λ t c. sym (set_of_or n (holds_at names t) (holds_at names c));
    more_flag = λ t c. refl;
  }

  factors : Joining term factor (code "&") bit_and
  unfolding text holds_at unknown
  factors = record {
    one = one_factor;
    one_text = λ t. refl;
    one_letters = λ t. refl;
    one_flag = λ t. refl;
    more = and;
    more_text = λ t c. refl;
    more_letters = λ t c. sym (set_of_and n (holds_at names t) (holds_at names c));
    more_flag = λ t c. refl;
  }

  module _ {k part : Kind} {b : ℕ} {f : ℕ → ℕ → ℕ} (j : Joining k part b f) (at : ℕ) where
    joined_sound : (p : Part) (q : Option Part) → is_at s p.next b ≡ true
        → Sound part at (Some p) → Sound k (p.next + 1) q → Sound k at (joined f p.set p.unknown q)
    joined_sound p None e h g = tt
    joined_sound p (Some more) e h g = record {
      tree = j.more h.tree g.tree;
      starts = omega (arith, h.starts, g.starts);
      ends = g.ends;
      bytes = rw (j.more_text h.tree g.tree, append_assoc)
          (h.bytes ∙ rw (is_at_cons s p.next b e, g.bytes));
      letters = j.more_letters h.tree g.tree ∙ rw (h.letters, g.letters);
      flag = j.more_flag h.tree g.tree ∙ rw (h.flag, g.flag);
    }

    followed_sound : (r : Option Part) (rest : ℕ → Option Part) → Sound part at r
        → ((m : ℕ) → Sound k m (rest m)) → Sound k at (followed s b rest f r)
    followed_sound None rest h g = tt
    followed_sound (Some p) rest h g = go (is_at s p.next b) refl
      where
        go : (x : Bool) → is_at s p.next b ≡ x
            → Sound k at (cond x (joined f p.set p.unknown (rest (p.next + 1))) (Some p))
        go true e = joined_sound p (rest (p.next + 1)) e h (g (p.next + 1))
        go false e = record {
          tree = j.one h.tree;
          starts = h.starts;
          ends = h.ends;
          bytes = rw (j.one_text h.tree) h.bytes;
          letters = j.one_letters h.tree ∙ h.letters;
          flag = j.one_flag h.tree ∙ h.flag;
        }

  negated_sound : (at : ℕ) (r : Option Part) → is_at s at (code "!") ≡ true → Sound factor (at + 1) r
      → Sound factor at (others n r)
  unfolding text holds_at unknown
  negated_sound at None e h = tt
  negated_sound at (Some p) e h = record {
    tree = negated h.tree;
    starts = omega (arith, h.starts);
    ends = h.ends;
    bytes = is_at_cons s at (code "!") e ∙ rw h.bytes;
    letters = sym (set_of_others n (holds_at names h.tree)) ∙ rw h.letters;
    flag = h.flag;
  }

  grouped_sound : (at : ℕ) (r : Option Part) → is_at s at (code "(") ≡ true → Sound choice (at + 1) r
      → Sound factor at (closed s r)
  unfolding text holds_at unknown
  grouped_sound at None e h = tt
  grouped_sound at (Some p) e h = go (is_at s p.next (code ")")) refl
    where
      go : (b : Bool) → is_at s p.next (code ")") ≡ b
          → Sound factor at (cond b (some_part p.set p.unknown (p.next + 1)) None)
      go false q = tt
      go true q = record {
        tree = grouped h.tree;
        starts = omega (arith, h.starts);
        ends = omega (arith, is_at_lt s p.next (code ")") q);
        bytes = is_at_cons s at (code "(") e
            ∙ rw (h.bytes, append_assoc, is_at_cons s p.next (code ")") q);
        letters = h.letters;
        flag = h.flag;
      }

  name_sound : (at : ℕ) → Sound factor at (name_at names n s at (name_run (drop at s)))
  unfolding name_at text holds_at unknown
  name_sound at = go (eqb r 0) (ltb 8 r) refl refl
    where
      r : ℕ
      r = name_run (drop at s)

      w : List ℕ
      w = take r (drop at s)

      go : (a b : Bool) → eqb r 0 ≡ a → ltb 8 r ≡ b → Sound factor at
          (cond (a || b) None (signal names n s (place names (name_of w)) (at + r)))
      go true b p q = tt
      go false true p q = tt
      go false false p q =
          let le = name_run_le (drop at s) in
          let len = length-take-le r (drop at s) le in
          let some = eqb-false r 0 p in
          let few = ltb-false 8 r q in
          record {
            tree = named w (record {
              some = omega arith;
              few = omega arith;
              letters = name_run_every (drop at s);
            });
            starts = omega arith;
            ends = omega (arith, length-drop at s);
            bytes = sym (take-append-drop r (drop at s)) ∙ rw (drop-drop r at s);
            letters = refl;
            flag = refl;
          }

  digit_sound : (at : ℕ) → Sound factor at (digit_at names n s at)
  unfolding digit_at text holds_at unknown
  digit_sound at = go (is_at s at (code "0")) (is_at s at (code "1")) refl refl
    where
      go : (a b : Bool) → is_at s at (code "0") ≡ a → is_at s at (code "1") ≡ b → Sound factor at
          (cond a (some_part 0 false (at + 1)) (cond b (some_part (set_of n (λ _. true)) false (at + 1))
          (name_at names n s at (name_run (drop at s)))))
      go true b p q = record {
        tree = never;
        starts = omega arith;
        ends = omega (arith, is_at_lt s at (code "0") p);
        bytes = is_at_cons s at (code "0") p;
        letters = set_of_false n;
        flag = refl;
      }
      go false true p q = record {
        tree = always;
        starts = omega arith;
        ends = omega (arith, is_at_lt s at (code "1") q);
        bytes = is_at_cons s at (code "1") q;
        letters = refl;
        flag = refl;
      }
      go false false p q = name_sound at

  factor_sound : (at : ℕ) (r q : Option Part) → Sound factor (at + 1) r → Sound choice (at + 1) q
      → Sound factor at (cond (is_at s at (code "!")) (others n r)
      (cond (is_at s at (code "(")) (closed s q) (digit_at names n s at)))
  factor_sound at r q h g = go (is_at s at (code "!")) (is_at s at (code "(")) refl refl
    where
      go : (a b : Bool) → is_at s at (code "!") ≡ a → is_at s at (code "(") ≡ b
          → Sound factor at (cond a (others n r) (cond b (closed s q) (digit_at names n s at)))
      go true b i j = negated_sound at r i h
      go false true i j = grouped_sound at q j g
      go false false i j = digit_sound at

  pub reads_sound : (f at : ℕ) (k : Kind) → Sound k at (reads names n s f k at)
  unfolding reads
  reads_sound zero at k = tt
  reads_sound (suc f) at choice =
      followed_sound terms at (reads names n s f term at) (reads names n s f choice)
      (reads_sound f at term) (λ m. reads_sound f m choice)
  reads_sound (suc f) at term =
      followed_sound factors at (reads names n s f factor at) (reads names n s f term)
      (reads_sound f at factor) (λ m. reads_sound f m term)
  reads_sound (suc f) at factor =
      factor_sound at (reads names n s f factor (at + 1)) (reads names n s f choice (at + 1))
      (reads_sound f (at + 1) factor) (reads_sound f (at + 1) choice)
