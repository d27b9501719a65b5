-- Lines and pieces put together again: `ended` against `lines`, `joined` against `split`.
-- Assumes nothing.
use Prim.Native.Nat.{ℕ, suc, ◌+◌, ◌*◌, ◌-◌, ◌<◌, ◌≤◌}
use borrow.Author.Tests.{eqb-true}
use native.Mathlib.Numerals.{unary_clauses}
use native.Mathlib.Omega.{arith}
use mathlib.Core.Bool.{Bool, true, false, cond, true≢false}
use mathlib.Core.List.{List, [], ◌∷◌, ◌++◌, append_assoc}
use mathlib.Core.Path.{◌≡◌, refl, sym, ap, ap₂, ◌∙◌}
use lib.Dec.{eqb}
use lib.ListN.{length, get_or, length-append}
use lib.Seq.{get_or-append_seam, get_or-append-add}
use Rattle.letters.specs.Lists.{every}
use Rattle.letters.proofs.Lists.{and_left, and_right}
use Rattle.text.specs.Lines.{LF, ended, joined, count, All, none, and, Free}
use Rattle.text.specs.Inner.Cut.{prefixed, lines, longer, split, front, after}
use Rattle.text.proofs.Splits.{count_append, split_length, split_front, split_append}
use Rattle.text.proofs.Splits.{front_append, after_append}

pub split_joined : (b : ℕ) (piece : List ℕ) (more : List (List ℕ)) → Free b (piece ∷ more)
    → split b (joined b (piece ∷ more)) ≡ piece ∷ more
unfolding joined
split_joined b piece [] (and h f) = split_front b piece h
split_joined b piece (next ∷ more) (and h f) =
    split_append b piece (joined b (next ∷ more)) h ∙ ap (◌∷◌ piece) (split_joined b next more f)

joined_byte : (b x : ℕ) (piece : List ℕ) (more : List (List ℕ))
    → joined b ((x ∷ piece) ∷ more) ≡ x ∷ joined b (piece ∷ more)
unfolding joined
joined_byte b x piece [] = refl
joined_byte b x piece (next ∷ more) = refl

pub joined_split : (b : ℕ) (xs : List ℕ) → joined b (split b xs) ≡ xs
unfolding split joined
joined_split b [] = refl
joined_split b (x ∷ xs) = go (eqb x b) refl (split b xs) (split_length b xs) (joined_split b xs)
  where
    go : (t : Bool) → eqb x b ≡ t → (pieces : List (List ℕ)) → length pieces ≡ suc (count b xs)
        → joined b pieces ≡ xs → joined b (cond t ([] ∷ pieces) (longer x pieces)) ≡ x ∷ xs
    go t e [] some h = absurd (omega arith)
    go true e (piece ∷ pieces) some h = ap₂ ◌∷◌ (sym (eqb-true x b e)) h
    go false e (piece ∷ pieces) some h = joined_byte b x piece pieces ∙ ap (◌∷◌ x) h

pub split_free : (b : ℕ) (xs : List ℕ) → Free b (split b xs)
unfolding split count
split_free b [] = and refl none
split_free b (x ∷ xs) = go (eqb x b) refl (split b xs) (split_free b xs)
  where
    go : (t : Bool) → eqb x b ≡ t → (pieces : List (List ℕ)) → Free b pieces
        → Free b (cond t ([] ∷ pieces) (longer x pieces))
    go true e pieces f = and refl f
    go false e [] f = none
    go false e (piece ∷ pieces) (and h f) = and {a = x ∷ piece} (rw e h) f

pub joined_free : (b c : ℕ) → eqb b c ≡ false → (pieces : List (List ℕ))
    → Free c pieces → count c (joined b pieces) ≡ 0
unfolding joined count
joined_free b c e [] f = refl
joined_free b c e (piece ∷ []) (and h f) = h
joined_free b c e (piece ∷ next ∷ more) (and h f) =
    let rest = joined_free b c e (next ∷ more) f in
    count_append c piece (b ∷ joined b (next ∷ more)) ∙ rw (h, e, rest)

-- The first line, and the others.
pub lines_cons : (xs : List ℕ) → 0 < length xs → lines xs ≡ front LF xs ∷ lines (after LF xs)
unfolding lines front after
lines_cons [] h = absurd (omega arith)
lines_cons (x ∷ xs) h = go (eqb x LF) xs (lines_cons xs)
  where
    go : (b : Bool) (ys : List ℕ) → (0 < length ys → lines ys ≡ front LF ys ∷ lines (after LF ys))
        → cond b ([] ∷ lines ys) (prefixed x (lines ys))
        ≡ cond b [] (x ∷ front LF ys) ∷ lines (cond b ys (after LF ys))
    go true ys ih = refl
    go false [] ih = refl
    go false (y ∷ ys) ih = ap (prefixed x) (ih (omega arith))

pub lines_some : (xs : List ℕ) → (length xs ≡ 0 → ⊥) → 1 ≤ length (lines xs)
lines_some xs some = rw (lines_cons xs (omega arith)) (omega arith)

lines_append : (line ys : List ℕ) → count LF line ≡ 0
    → lines (line ++ LF ∷ ys) ≡ line ∷ lines ys
lines_append line ys h =
    let some : 0 < length (line ++ LF ∷ ys) = rw length-append (omega arith) in
    lines_cons (line ++ LF ∷ ys) some
    ∙ ap₂ (λ (l ys : List ℕ). l ∷ lines ys) (front_append LF line ys h) (after_append LF line ys h)

pub lines_ended : (ls : List (List ℕ)) → Free LF ls → lines (ended ls) ≡ ls
unfolding ended lines
lines_ended [] none = refl
lines_ended (line ∷ more) (and h f) =
    lines_append line (ended more) h ∙ ap (◌∷◌ line) (lines_ended more f)

pub ended_lines : (xs : List ℕ) → (length xs ≡ 0 → ⊥) → get_or xs (length xs - 1) 0 ≡ LF
    → ended (lines xs) ≡ xs
unfolding ended lines
ended_lines [] some last = absurd (some refl)
ended_lines (x ∷ []) some last = rw last
ended_lines (x ∷ y ∷ ys) some last =
    go (eqb x LF) refl (lines (y ∷ ys)) (lines_cons (y ∷ ys) (omega arith))
    (ended_lines (y ∷ ys) (λ e. omega arith) (simp unary_clauses (simp unary_clauses at last)))
  where
    go : (t : Bool) → eqb x LF ≡ t → (ls : List (List ℕ))
        → ls ≡ front LF (y ∷ ys) ∷ lines (after LF (y ∷ ys)) → ended ls ≡ y ∷ ys
        → ended (cond t ([] ∷ ls) (prefixed x ls)) ≡ x ∷ y ∷ ys
    go true e ls l h = ap₂ ◌∷◌ (sym (eqb-true x LF e)) h
    go false e [] l h = absurd (let z = ap length l in omega arith)
    go false e (line ∷ ls) l h = ap (◌∷◌ x) h

pub lines_free : (xs : List ℕ) → (length xs ≡ 0 → ⊥) → get_or xs (length xs - 1) 0 ≡ LF
    → Free LF (lines xs)
unfolding lines count
lines_free [] some last = absurd (some refl)
lines_free (x ∷ []) some last = rw last (and refl none)
lines_free (x ∷ y ∷ ys) some last =
    go (eqb x LF) refl (lines (y ∷ ys)) (lines_cons (y ∷ ys) (omega arith))
    (lines_free (y ∷ ys) (λ e. omega arith) (simp unary_clauses (simp unary_clauses at last)))
  where
    go : (t : Bool) → eqb x LF ≡ t → (ls : List (List ℕ))
        → ls ≡ front LF (y ∷ ys) ∷ lines (after LF (y ∷ ys)) → Free LF ls
        → Free LF (cond t ([] ∷ ls) (prefixed x ls))
    go true e ls l f = and refl f
    go false e [] l f = absurd (let z = ap length l in omega arith)
    go false e (line ∷ ls) l (and h f) = and {a = x ∷ line} (rw e h) f

pub ended_append : (xs ys : List (List ℕ)) → ended (xs ++ ys) ≡ ended xs ++ ended ys
unfolding ended
ended_append [] ys = refl
ended_append (line ∷ xs) ys =
    ap (λ (more : List ℕ). line ++ LF ∷ more) (ended_append xs ys)
    ∙ sym (append_assoc line (LF ∷ ended xs) (ended ys))

pub ended_last : (line : List ℕ) (more : List (List ℕ)) → let xs = ended (line ∷ more) in
    get_or xs (length xs - 1) 0 ≡ LF
unfolding ended
ended_last line [] =
    let e : length (line ++ LF ∷ []) - 1 ≡ length line = rw length-append (omega arith) in
    ap (λ (k : ℕ). get_or (line ++ LF ∷ []) k 0) e ∙ get_or-append_seam line LF [] 0
ended_last line (next ∷ more) =
    let rest = ended (next ∷ more) in
    let some : 0 < length rest = rw length-append (omega arith) in
    let e : length (line ++ LF ∷ rest) - 1 ≡ length line + suc (length rest - 1) =
    rw length-append (omega arith)
    in
    ap (λ (k : ℕ). get_or (line ++ LF ∷ rest) k 0) e
    ∙ get_or-append-add line (LF ∷ rest) (suc (length rest - 1)) 0
    ∙ ended_last next more

-- Bytes that all pass a test: no other byte is among them.
pub passing_free : (test : ℕ → Bool) (b : ℕ) → test b ≡ false → (xs : List ℕ)
    → every test xs ≡ true → count b xs ≡ 0
unfolding every count
passing_free test b e [] h = refl
passing_free test b e (x ∷ xs) h =
    go (eqb x b) refl (passing_free test b e xs (and_right (test x) (every test xs) h))
  where
    go : (t : Bool) → eqb x b ≡ t → count b xs ≡ 0 → cond t (suc (count b xs)) (count b xs) ≡ 0
    go true same rest =
        absurd (true≢false (sym (and_left (test x) (every test xs) h)
        ∙ ap test (eqb-true x b same) ∙ e))
    go false other rest = rest

-- Pieces of few bytes, joined.
pub joined_length : (b k : ℕ) (pieces : List (List ℕ)) → All (λ piece. length piece ≤ k) pieces
    → length (joined b pieces) ≤ suc k * length pieces
unfolding joined
joined_length b k [] short = omega arith
joined_length b k (piece ∷ []) (and h short) = omega arith
joined_length b k (piece ∷ next ∷ more) (and h short) =
    let rest = joined_length b k (next ∷ more) short in
    rw length-append (omega arith)
