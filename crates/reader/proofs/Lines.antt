-- Lines, and the numbers that are told of the first ones. Assumes nothing.
use Prim.Native.Nat.{ℕ, suc, ◌+◌, ◌-◌, ◌<◌, ◌≤◌, min}
use native.Mathlib.Decide.{dec_le}
use native.Mathlib.Omega.{arith}
use mathlib.Core.Bool.{Bool, true, false, cond}
use mathlib.Core.List.{List, [], ◌∷◌}
use mathlib.Core.Path.{◌≡◌, refl, sym, ap, ◌∙◌}
use borrow.Author.Tests.{lt-ltb, le-ltb, eq-eqb, ne_eqb}
use lib.Dec.{eqb}
use lib.ListN.{length, get_or, take, drop, length-drop, drop_of_length-le}
use lib.Seq.{drop-drop}
use Rattle.text.specs.Lines.{LF, space, count}
use Rattle.text.specs.declared.Version.{Version}
use Rattle.text.specs.Inner.Cut.{lines, split, front, after}
use Rattle.text.proofs.Joins.{lines_cons}
use Rattle.text.proofs.Splits.{front_whole, after_drop}
use Rattle.text.proofs.Parts.{rest_whole}
use Rattle.header.proofs.SignalLaws.{length_none}
use Rattle.std.specs.Prelude.{Result, Ok, Err}
use Rattle.table.specs.declared.Refusal.{Refusal}
use Rattle.table.specs.declared.Signals.{Signals}
use Rattle.reader.specs.Reading.{refused_file}
use Rattle.reader.specs.Inner.File.{on_line, after_signals, body_answer, after_version}
use Rattle.reader.specs.Inner.File.{file_answer, read_answer}
use Rattle.header.specs.Inner.Header.{version_answer, signals_answer}

-- What was read of a line, by what `on_line` gives.
module _ {A : Type 0} (line : ℕ) where
  pub on_line_ok : (got : Result A ℕ) {r : Result A Refusal} {x : A} → r ≡ on_line line got
      → r ≡ Ok x → got ≡ Ok x
  on_line_ok (Ok y) {r} {x} is e = let same : y ≡ x = cc in ap Ok same
  on_line_ok (Err m) is e = absurd (let z : ◌≡◌ {A = ℕ} 0 1 = cc in omega arith)

  pub on_line_err : (got : Result A ℕ) {r : Result A Refusal} {x : Refusal} → r ≡ on_line line got
      → r ≡ Err x → (got ≡ Err x.number) × (x.line ≡ line)
  on_line_err (Ok y) is e = absurd (let z : ◌≡◌ {A = ℕ} 0 1 = cc in omega arith)
  on_line_err (Err m) {r} {x} is e =
      let same : record { number = m; line = line } ≡ x = cc in
      (ap (λ (y : Refusal). Err y.number) same, sym (ap (λ (y : Refusal). y.line) same))

after_none : (xs : List ℕ) → count LF xs ≡ 0 → after LF xs ≡ []
unfolding count after
after_none [] e = refl
after_none (x ∷ xs) e = go (eqb x LF) e (after_none xs)
  where
    go : (b : Bool) → cond b (suc (count LF xs)) (count LF xs) ≡ 0
        → (count LF xs ≡ 0 → after LF xs ≡ [])
        → cond b xs (after LF xs) ≡ []
    go true e ih = absurd (omega arith)
    go false e ih = ih e

after_rest : (xs : List ℕ) → after LF xs ≡ drop (length (front LF xs) + 1) xs
after_rest xs = go (dec_le 1 (count LF xs))
  where
    go : Dec (1 ≤ count LF xs) → after LF xs ≡ drop (length (front LF xs) + 1) xs
    go (yes h) = after_drop LF xs h
    go (no h) =
        let none : count LF xs ≡ 0 = omega arith in
        after_none xs none ∙ sym (rw (front_whole LF xs none)
        (drop_of_length-le xs {i = length xs + 1} (omega arith)))

-- The line at a place, and the lines after it.
pub lines_next : (l : List ℕ) (at : ℕ) → at < length l → let line = front LF (drop at l) in
    lines (drop at l) ≡ line ∷ lines (drop (at + length line + 1) l)
lines_next l at h =
    let line = front LF (drop at l) in
    let e : at + (length line + 1) ≡ at + length line + 1 = omega arith in
    lines_cons (drop at l) (rw length-drop (omega arith))
    ∙ ap (λ (ys : List ℕ). line ∷ lines ys)
    (after_rest (drop at l) ∙ drop-drop (length line + 1) at l
    ∙ ap (λ (k : ℕ). drop k l) e)

pub lines_end : (l : List ℕ) (at : ℕ) → length l ≤ at → lines (drop at l) ≡ []
unfolding lines
lines_end l at h = rw (drop_of_length-le l h)

-- What stands past a line, where nothing may.
pub drop_past : (l : List ℕ) (k : ℕ) → drop (min k (length l)) l ≡ drop k l
drop_past l k = go (dec_le k (length l))
  where
    go : Dec (k ≤ length l) → drop (min k (length l)) l ≡ drop k l
    go (yes h) = let e : min k (length l) ≡ k = omega arith in rw e
    go (no h) =
        let e : min k (length l) ≡ length l = omega arith in
        rw e (drop_of_length-le l {i = length l} (omega arith)
        ∙ sym (drop_of_length-le l {i = k} (omega arith)))

pub lines_first : (l : List ℕ) → 0 < length l
    → lines l ≡ front LF l ∷ lines (drop (length (front LF l) + 1) l)
lines_first l h = lines_cons l h ∙ ap (λ (ys : List ℕ). front LF l ∷ lines ys) (after_rest l)

-- `&l[from..]`, where `from` is what `past` gives at the end of the first line.
pub after_part : (l : List ℕ) (end from : ℕ) → end ≡ length (front LF l)
    → from ≡ min (end + 1) (length l)
    → take (length l - from) (drop from l) ≡ drop (length (front LF l) + 1) l
after_part l end from e f =
    rest_whole l from ∙ ap (λ (k : ℕ). drop k l) f ∙ drop_past l (end + 1)
    ∙ ap (λ (k : ℕ). drop (k + 1) l) e

-- From line 2 on, and from line 1 on.
module _ (rest : List ℕ) where
  abbrev first : List ℕ
  first = front LF rest

  abbrev others : List ℕ
  others = drop (length first + 1) rest

  module _ (version : Version) where
    pub body_none : length rest ≡ 0 → body_answer version (lines rest) ≡ refused_file 6 2
    unfolding body_answer lines
    body_none e = rw (length_none rest e)

    body_first : (length rest ≡ 0 → ⊥) → body_answer version (lines rest)
        ≡ after_signals version (signals_answer (split space first)) (lines others)
    unfolding body_answer
    body_first h = rw (lines_first rest (omega arith))

    pub body_read : (length rest ≡ 0 → ⊥) → (got : Result Signals ℕ)
        → got ≡ signals_answer (split space first)
        → body_answer version (lines rest) ≡ after_signals version got (lines others)
    body_read h got e =
        body_first h ∙ ap (λ (r : Result Signals ℕ). after_signals version r (lines others)) (sym e)

  file_first : (length rest ≡ 0 → ⊥)
      → file_answer (lines rest) ≡ after_version (version_answer first) (lines others)
  unfolding file_answer
  file_first h = rw (lines_first rest (omega arith))

  -- Numbers 1, 2 and 3, and the files that pass them.
  pub read_empty : length rest ≡ 0 → read_answer rest ≡ refused_file 1 0
  unfolding read_answer
  read_empty e = rw (eq-eqb (length rest) 0 e)

  pub read_long : (length rest ≡ 0 → ⊥) → 4096 < length rest → read_answer rest ≡ refused_file 2 0
  unfolding read_answer
  read_long h long = rw (ne_eqb (length rest) 0 h, lt-ltb 4096 (length rest) long)

  module _ (h : length rest ≡ 0 → ⊥) (short : length rest ≤ 4096) where
    pub read_open : (get_or rest (length rest - 1) 0 ≡ LF → ⊥) → read_answer rest ≡ refused_file 3 0
    unfolding read_answer
    read_open other =
        rw (
          ne_eqb (length rest) 0 h,
          le-ltb 4096 (length rest) short,
          ne_eqb (get_or rest (length rest - 1) 0) LF other,
        )

    pub read_lines : get_or rest (length rest - 1) 0 ≡ LF → read_answer rest ≡ file_answer (lines rest)
    unfolding read_answer
    read_lines same =
        rw (
          ne_eqb (length rest) 0 h,
          le-ltb 4096 (length rest) short,
          eq-eqb (get_or rest (length rest - 1) 0) LF same,
        )

    pub file_read : get_or rest (length rest - 1) 0 ≡ LF
        → (got : Result Version ℕ) → got ≡ version_answer first
        → read_answer rest ≡ after_version got (lines others)
    file_read same got e =
        read_lines same ∙ file_first h
        ∙ ap (λ (r : Result Version ℕ). after_version r (lines others)) (sym e)
