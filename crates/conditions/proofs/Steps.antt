-- The steps of the reading, for the cycle of `choice`, `term` and `factor` and their loops: from
-- what the calls gave to what is read at a place. Assumes nothing.
use Prim.Native.Char.{code}
use Prim.Native.Nat.{ℕ, zero, suc, ◌+◌, ◌-◌, ◌*◌, ◌%◌, ◌≤◌, ◌<◌, max}
use native.Mathlib.Omega.{arith}
use mathlib.Core.Bool.{Bool, true, false, not, ◌||◌, cond, or_assoc, not-not}
use mathlib.Core.List.{List, [], ◌∷◌}
use mathlib.Core.Path.{◌≡◌, refl, sym, ap, subst, ◌∙◌}
use lib.Bits.{bit_and, bit_or}
use lib.Dec.{eqb}
use lib.ListN.{length, drop, length-drop}
use lib.Seq.{drop-drop}
use native.Mathlib.Nat.{add_assoc}
use native.Mathlib.Numerals.{add-one, one-add}
use Rattle.std.proofs.Common.{add-zero}
use Rattle.std.specs.List.{prefix_len}
use Rattle.std.proofs.lemmas.Bool.Decides.{nat_tests}
use Rattle.std.proofs.lemmas.List.Sums.{prefix_len-le-length}
use Rattle.letters.proofs.Sets.{set_of_ext, set_of_others, bit_or_assoc, bit_and_assoc}
use Rattle.table.specs.declared.Name.{Name}
use Rattle.conditions.specs.Condition.{Kind, choice, term, factor, holds_at}
use Rattle.conditions.specs.Inner.Reading.{is_at, joined, others, closed, followed, digit_at}
use Rattle.conditions.specs.Inner.Reading.{rank, reads, ReadsAs, Joins, wholly, condition_of}
use Rattle.conditions.specs.declared.Part.{Part}
use Rattle.conditions.specs.Inner.Reading.{some_part}
use Rattle.std.specs.Prelude.{Option, Some, None, IfSome}
use Rattle.conditions.proofs.Bytes.{begins, is_at_drop, is_at_lt}
use Rattle.conditions.proofs.Sound.{Sound, reads_sound}

-- An answer is meant where one step gives it, with any fuel that is enough for the step.
module _ {names : List Name} {n : ℕ} {s : List ℕ} {k : Kind} {at : ℕ} {r : Option Part} where
  step : ((f : ℕ) → 3 * (length s - at) + rank k ≤ f → r ≡ reads names n s (suc f) k at)
      → ReadsAs names n s k at r
  step h = record { reading = go }
    where
      go : (f : ℕ) → 3 * (length s - at) + rank k < f → r ≡ reads names n s f k at
      go zero p = absurd (omega arith)
      go (suc f) p = h f (omega arith)

  -- What is read is written by a condition, which has some bytes at least.
  sound : ReadsAs names n s k at r → Sound names n s k at r
  sound h =
      let f = suc (3 * (length s - at) + rank k) in
      subst (Sound names n s k at) (sym (h.reading f (omega arith))) (reads_sound names n s f at k)

pub reads_past : {names : List Name} {n : ℕ} {s : List ℕ} {k : Kind} {at : ℕ} (r : Option Part)
    → ReadsAs names n s k at r → IfSome r (λ p. at < p.next)
reads_past None h = tt
reads_past (Some p) h = (sound h).starts

-- Terms by `|`, factors by `&`.
pub choices : Joins choice term (code "|") bit_or
unfolding reads
choices = record { ranks = refl; reading = λ names n s f at. refl; turns = bit_or_assoc }

pub terms : Joins term factor (code "&") bit_and
unfolding reads
terms = record { ranks = refl; reading = λ names n s f at. refl; turns = bit_and_assoc }

-- The parts so far are joined to p: where the byte b stands past them, more of the same kind is
-- joined to them; else they are all.
pub record Begun (names : List Name) (n : ℕ) (s : List ℕ) (k : Kind) (b : ℕ) (g : ℕ → ℕ → ℕ)
    (at : ℕ) (p : Part) : Type 0 where
  pub starts : at < p.next
  pub stop : is_at s p.next b ≡ false → ReadsAs names n s k at (Some p)
  pub more : (q : Option Part) → is_at s p.next b ≡ true → ReadsAs names n s k (p.next + 1) q
      → ReadsAs names n s k at (joined g p.set p.unknown q)

module _ {names : List Name} {n : ℕ} {s : List ℕ} {k part : Kind} {b : ℕ} {g : ℕ → ℕ → ℕ}
    {at : ℕ} (joins : Joins k part b g) where
  once : {r : Option Part} → ReadsAs names n s part at r
      → (f : ℕ) → 3 * (length s - at) + rank k ≤ f
      → reads names n s (suc f) k at ≡ followed s b (reads names n s f k) g r
  once first f p =
      let ranks = joins.ranks in
      rw (joins.reading names n s f at, ← first.reading f (omega arith))

  pub joins_nothing : ReadsAs names n s part at None → ReadsAs names n s k at None
  joins_nothing first = step (λ f p. rw (once first f p))

  pub joins_first : {p : Part} → ReadsAs names n s part at (Some p) → Begun names n s k b g at p
  joins_first {p} first = record {
    starts = (sound first).starts;
    stop = λ t. step (λ f i. rw (once first f i, t));
    more = λ q t h. rest q t h;
  }
    where
      rest : (q : Option Part) → is_at s p.next b ≡ true → ReadsAs names n s k (p.next + 1) q
          → ReadsAs names n s k at (joined g p.set p.unknown q)
      rest q t h =
          let starts = (sound first).starts in
          let inside = is_at_lt s p.next b t in
          step (λ f i. rw (once first f i, t, ← h.reading f (omega arith)))

-- One part more: what it is joined to the parts so far.
abbrev pub with_part : (ℕ → ℕ → ℕ) → Part → Part → Part
with_part g p q = record {
  set = g p.set q.set;
  unknown = p.unknown || q.unknown;
  next = q.next;
}

module _ {names : List Name} {n : ℕ} {s : List ℕ} {k part : Kind} {b : ℕ} {g : ℕ → ℕ → ℕ}
    {at : ℕ} {p : Part} (joins : Joins k part b g) (begun : Begun names n s k b g at p)
    (here : is_at s p.next b ≡ true) where
  pub more_nothing : ReadsAs names n s part (p.next + 1) None → ReadsAs names n s k at None
  more_nothing second = begun.more None here (joins_nothing joins second)

  pub more_part : {q : Part} → ReadsAs names n s part (p.next + 1) (Some q)
      → Begun names n s k b g at (with_part g p q)
  more_part {q} second =
      let rest = joins_first joins second in
      record {
        starts = omega (arith, begun.starts, rest.starts);
        stop = λ x. begun.more (Some q) here (rest.stop x);
        more = λ r x h.
            subst (ReadsAs names n s k at) (turned r)
            (begun.more (joined g q.set q.unknown r) here (rest.more r x h));
      }
    where
      turned : (r : Option Part) → joined g p.set p.unknown (joined g q.set q.unknown r)
          ≡ joined g (g p.set q.set) (p.unknown || q.unknown) r
      turned None = refl
      turned (Some r) =
          rw (joins.turns p.set q.set r.set, or_assoc p.unknown q.unknown r.unknown)

-- The other letters of the other letters are the letters, where a condition means them.
others_twice : {names : List Name} {n : ℕ} {s : List ℕ} {k : Kind} {at : ℕ} (r : Option Part)
    → ReadsAs names n s k at r → others n (others n r) ≡ r
others_twice None h = refl
others_twice {names} {n} {s} {k} {at} (Some p) h =
    let holds = holds_at names (sound h).tree in
    let means = (sound h).letters in
    rw (← means, set_of_others n holds, set_of_others n (λ l. not (holds l)))
    (ap (λ (x : ℕ). some_part x p.unknown p.next) (set_of_ext n (λ l. not (not (holds l))) holds
    (λ l i. not-not (holds l))))

-- After a run of `!` from a place to another: what is read there is what is read here, or the other
-- letters, where their number is odd.
pub record Signs (names : List Name) (n : ℕ) (s : List ℕ) (at i : ℕ) (odd : Bool) : Type 0 where
  pub here : at ≤ i
  pub after : (r : Option Part) → ReadsAs names n s factor i r
      → ReadsAs names n s factor at (cond odd (others n r) r)

module _ {names : List Name} {n : ℕ} {s : List ℕ} {at : ℕ} {q : Option Part} where
  pub factor_negated : {r : Option Part} → is_at s at (code "!") ≡ true
      → ReadsAs names n s factor (at + 1) r
      → q ≡ others n r → ReadsAs names n s factor at q
  unfolding reads
  factor_negated t h e =
      let inside = is_at_lt s at (code "!") t in
      step (λ f p. rw (t, ← h.reading f (omega arith), e))

  pub factor_grouped : {r : Option Part} → is_at s at (code "!") ≡ false → is_at s at (code "(") ≡ true
      → ReadsAs names n s choice (at + 1) r → q ≡ closed s r → ReadsAs names n s factor at q
  unfolding reads
  factor_grouped u t h e =
      let inside = is_at_lt s at (code "(") t in
      step (λ f p. rw (u, t, ← h.reading f (omega arith), e))

  pub factor_digit : is_at s at (code "!") ≡ false → is_at s at (code "(") ≡ false
      → q ≡ digit_at names n s at
      → ReadsAs names n s factor at q
  unfolding reads
  factor_digit u t e = step (λ f p. rw (u, t, e))

-- The signs in front of what is left at a place: `signs_at` counts them.
abbrev sign_front : List ℕ → ℕ
sign_front xs = prefix_len (λ b. eqb b (code "!")) xs

sign_inside : (xs : List ℕ) (m : ℕ) → m < sign_front xs → begins (drop m xs) (code "!") ≡ true
sign_inside [] m h = absurd (omega arith)
sign_inside (x ∷ xs) m h = go (eqb x (code "!")) refl m h (sign_inside xs)
  where
    go : (t : Bool) → eqb x (code "!") ≡ t → (m : ℕ) → m < cond t (1 + sign_front xs) 0
        → ((k : ℕ) → k < sign_front xs → begins (drop k xs) (code "!") ≡ true)
        → begins (drop m (x ∷ xs)) (code "!") ≡ true
    go false e m h ih = absurd (omega arith)
    go true e zero h ih = e
    go true e (suc m) h ih = ih m (omega arith)

sign_past : (xs : List ℕ) → begins (drop (sign_front xs) xs) (code "!") ≡ false
sign_past [] = refl
sign_past (x ∷ xs) = go (eqb x (code "!")) refl (sign_past xs)
  where
    go : (t : Bool) → eqb x (code "!") ≡ t
        → begins (drop (sign_front xs) xs) (code "!") ≡ false
        → begins (drop (cond t (1 + sign_front xs) 0) (x ∷ xs)) (code "!") ≡ false
    go true e ih = rw one-add ih
    go false e ih = e

-- Where they end, and that they end within the bytes.
module _ (s : List ℕ) (at : ℕ) {signs : ℕ} (counted : signs ≡ sign_front (drop at s)) where
  pub signs_end : is_at s (at + signs) (code "!") ≡ false
  signs_end =
      is_at_drop s (at + signs) (code "!")
      ∙ rw (counted, ← drop-drop (sign_front (drop at s)) at s) (sign_past (drop at s))

  pub signs_within : at + signs ≤ max at (length s)
  signs_within = omega (
    arith,
    counted,
    prefix_len-le-length (λ b. eqb b (code "!")) (drop at s),
    length-drop at s,
  )

odd_more : (m : ℕ) → not (eqb (m % 2) 1) ≡ eqb ((m + 1) % 2) 1
odd_more m = grind (arith, nat_tests)

module _ {names : List Name} {n : ℕ} {s : List ℕ} {at : ℕ} where
  signs_more : {i : ℕ} {odd : Bool} → Signs names n s at i odd
      → is_at s i (code "!") ≡ true → Signs names n s at (i + 1) (not odd)
  signs_more {i} {odd} signs t = record {
    here = omega (arith, signs.here);
    after = λ r h. go odd r h (signs.after (others n r) (factor_negated t h refl));
  }
    where
      go : (x : Bool) (r : Option Part) → ReadsAs names n s factor (i + 1) r
          → ReadsAs names n s factor at (cond x (others n (others n r)) (others n r))
          → ReadsAs names n s factor at (cond (not x) (others n r) r)
      go false r h q = q
      go true r h q = subst (ReadsAs names n s factor at) (others_twice r h) q

  signs_passed : (m : ℕ) → m ≤ sign_front (drop at s)
      → Signs names n s at (at + m) (eqb (m % 2) 1)
  signs_passed zero h = rw add-zero (record { here = omega arith; after = λ r i. i })
  signs_passed (suc m) h =
      let sign : is_at s (at + m) (code "!") ≡ true =
      is_at_drop s (at + m) (code "!") ∙ rw (← drop-drop m at s) (sign_inside (drop at s) m (omega arith)) in
      let more = signs_more (signs_passed m (omega arith)) sign in
      rw (odd_more m, add_assoc at m 1, add-one m) at more

  module _ {signs : ℕ} (counted : signs ≡ sign_front (drop at s)) where
    all : Signs names n s at (at + signs) (eqb (signs % 2) 1)
    all = signs_passed signs (omega arith)

    pub signs_read : {r q : Option Part} → ReadsAs names n s factor (at + signs) r
        → q ≡ cond (eqb (signs % 2) 1) (others n r) r → ReadsAs names n s factor at q
    signs_read {r} h e = rw e (all.after r h)

    pub signs_lost : ReadsAs names n s factor (at + signs) None → ReadsAs names n s factor at None
    signs_lost h = go (eqb (signs % 2) 1) (all.after None h)
      where
        go : (t : Bool) → ReadsAs names n s factor at (cond {A = Option Part} t None None)
            → ReadsAs names n s factor at None
        go true q = q
        go false q = q

pub condition_of_reads : {names : List Name} {n : ℕ} {s : List ℕ} {r : Option Part}
    → ReadsAs names n s choice 0 r → wholly (length s) r ≡ condition_of names n s
unfolding condition_of
condition_of_reads {names} {n} {s} h = rw (← h.reading (3 * length s + 3) (omega arith))
