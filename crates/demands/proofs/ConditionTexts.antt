-- The text of a condition is the one that `IsConditionText` describes, and no other is. Assumes
-- nothing.
use Prim.Native.Nat.{ℕ, zero, suc, ◌+◌, ◌<◌}
use native.Mathlib.Decide.{ℕ_discrete}
use native.Mathlib.Nat.{zero-add}
use native.Mathlib.Omega.{arith}
use borrow.Author.Tests.{eq-eqb, ne_eqb}
use mathlib.Core.Bool.{Bool, true, false, cond, true≢false}
use mathlib.Core.List.{List, [], ◌∷◌, map}
use mathlib.Core.Path.{◌≡◌, refl, sym, ap, ap₂, ◌∙◌}
use lib.ListN.{length, get_or}
use lib.Pow.{pow_pos}
use lib.Seq.{ext_get_or}
use Rattle.letters.specs.Letter.{signal_on, letters, members}
use Rattle.letters.proofs.Described.{members_letters, letters_members, none_held, all_held}
use Rattle.letters.proofs.Described.{some_held, some_not_held, held_none, held_all}
use Rattle.table.specs.declared.Name.{Name}
use Rattle.text.specs.Lines.{joined}
use Rattle.text.specs.Words.{or_sign, and_sign, not_sign}
use Rattle.header.specs.Header.{no_name}
use Rattle.reader.specs.Grammar.{Each, none, and}
use Rattle.writer.specs.File.{name_text, literals, term_text, condition_text}
use Rattle.demands.specs.Further.Canonical.{IsTerm, IsConditionText, never, always, terms}

-- The pieces of a term, place by place.
literals_length : (k : ℕ) (names : List Name) (letter : ℕ)
    → length (literals k names letter) ≡ length names
unfolding literals
literals_length k [] letter = refl
literals_length k (name ∷ names) letter = ap suc (literals_length (suc k) names letter)

literals_at : (k : ℕ) (names : List Name) (letter i : ℕ) → i < length names
    → get_or (literals k names letter) i []
    ≡ cond (signal_on letter (k + i)) (name_text (get_or names i no_name))
    (not_sign ∷ name_text (get_or names i no_name))
unfolding literals
literals_at k [] letter i low = absurd (omega arith)
literals_at k (name ∷ names) letter zero low = let e : k + 0 ≡ k = omega arith in rw e
literals_at k (name ∷ names) letter (suc i) low =
    let e : k + suc i ≡ suc k + i = omega arith in
    rw e (literals_at (suc k) names letter i (omega arith))

module _ (names : List Name) where
  term_described : (letter : ℕ) → IsTerm names letter (term_text names letter)
  term_described letter = record {
    pieces = literals 0 names letter;
    are = refl;
    all = literals_length 0 names letter;
    on = λ k low e. literals_at 0 names letter k low ∙ rw (zero-add, e);
    off = λ k low e. literals_at 0 names letter k low ∙ rw (zero-add, e);
  }

  term_only : (letter : ℕ) (xs : List ℕ) → IsTerm names letter xs → xs ≡ term_text names letter
  term_only letter xs h =
      h.are
      ∙ ap (joined and_sign) (ext_get_or [] h.pieces (literals 0 names letter)
      (h.all ∙ sym (literals_length 0 names letter))
      (λ k low. go k (omega (arith, h.all)) (signal_on letter k) refl
      ∙ sym (literals_at 0 names letter k (omega (arith, h.all)) ∙ rw zero-add)))
    where
      go : (k : ℕ) → k < length names → (t : Bool) → signal_on letter k ≡ t
          → get_or h.pieces k []
          ≡ cond t (name_text (get_or names k no_name)) (not_sign ∷ name_text (get_or names k no_name))
      go k low true e = h.on k low e
      go k low false e = h.off k low e

  terms_described : (held : List ℕ) → Each (IsTerm names) held (map (term_text names) held)
  terms_described [] = none
  terms_described (letter ∷ held) = and (term_described letter) (terms_described held)

  pub terms_only : {held : List ℕ} {texts : List (List ℕ)} → Each (IsTerm names) held texts
      → texts ≡ map (term_text names) held
  terms_only none = refl
  terms_only (and {a} {b} h more) = ap₂ ◌∷◌ (term_only a b h) (terms_only more)

-- The text of a condition is the described one, and no other is.
module _ (names : List Name) (s set : ℕ) where
  abbrev held : List ℕ
  held = members (letters s) 0 set

  pub condition_described : IsConditionText names s set (condition_text names s set)
  unfolding condition_text
  condition_described =
      go (ℕ_discrete (length held) 0) (ℕ_discrete (length held) (letters s))
    where
      go : Dec (length held ≡ 0) → Dec (length held ≡ letters s)
          → IsConditionText names s set (condition_text names s set)
      go (yes e) d = rw (eq-eqb (length held) 0 e) (never (none_held set s e))
      go (no some) (yes e) =
          rw (ne_eqb (length held) 0 some, eq-eqb (length held) (letters s) e)
          (always (all_held set s e))
      go (no some) (no few) =
          let in-it = some_held set s some in
          let not_in = some_not_held set s few in
          rw (ne_eqb (length held) 0 some, ne_eqb (length held) (letters s) few)
          (terms in-it.0 not_in.0 (in-it.1, in-it.2) (not_in.1, not_in.2)
          (members_letters set s) (terms_described names held))

  pub condition_only : (xs : List ℕ) → IsConditionText names s set xs
      → condition_text names s set ≡ xs
  unfolding condition_text
  condition_only xs (never h) = rw (eq-eqb (length held) 0 (held_none set s h))
  condition_only xs (always h) =
      let all = held_all set s h in
      let some : length held ≡ 0 → ⊥ = λ e. omega (arith, pow_pos s) in
      rw (ne_eqb (length held) 0 some, eq-eqb (length held) (letters s) all)
  condition_only xs (terms {held = those} l m in-it not_in are each) =
      let some : length held ≡ 0 → ⊥ = λ e.
      true≢false (sym in-it.1 ∙ none_held set s e l in-it.0) in
      let few : length held ≡ letters s → ⊥ = λ e.
      true≢false (sym (all_held set s e m not_in.0) ∙ not_in.1) in
      rw (ne_eqb (length held) 0 some, ne_eqb (length held) (letters s) few)
      (ap (joined or_sign)
      (ap (map (term_text names)) (letters_members set s those are) ∙ sym (terms_only names each)))
