-- The text of a condition in the grammar: it holds at the letters of its set. A term's tree holds
-- at the term's letter alone, since each name stands at its own place; no parenthesis stands in it.
-- Assumes nothing.
use Prim.Native.Nat.{ℕ, suc, ◌+◌, ◌^◌, ◌≤◌, ◌<◌}
use native.Mathlib.Omega.{arith}
use borrow.Author.Tests.{ne_eqb, ltb-true}
use mathlib.Core.Bool.{Bool, true, false, not, ◌&&◌, ◌||◌, cond, and-true, or-false}
use mathlib.Core.List.Memᴰ
use mathlib.Core.List.{List, [], ◌∷◌, ◌++◌, map}
use mathlib.Core.Path.{◌≡◌, refl, sym, ap₂, subst, ◌∙◌}
use lib.ListN.{length}
use Rattle.letters.specs.Letter.{signal_on, letters, in_set, set_valid, bit_at}
use Rattle.letters.specs.Lists.{some}
use Rattle.letters.specs.Further.Described.{LettersOf}
use Rattle.letters.proofs.Alike.{alike, alike_self, alike_eqb}
use Rattle.letters.proofs.Described.{letters_members, some_member}
use Rattle.letters.proofs.Sets.{set_of_ext, set_eta}
use Rattle.table.specs.Name.{is_lowercase, all_distinct}
use Rattle.table.specs.declared.Name.{Name}
use Rattle.text.specs.Lines.{joined, count, Free, All, none as All-none, and as all-and}
use Rattle.text.specs.Words.{or_sign, and_sign, not_sign, open_sign}
use Rattle.text.proofs.Joins.{joined_free, passing_free}
use Rattle.conditions.specs.Condition.{IsName, name_of, place, Kind, choice, term, factor, Condition}
use Rattle.conditions.specs.Condition.{one_term, or, one_factor, and, negated, named, never, always}
use Rattle.conditions.specs.Condition.{text, holds_at, unknown}
use Rattle.conditions.specs.Judge.{IsCondition}
use Rattle.conditions.proofs.Depth.{free_shallow}
use Rattle.conditions.proofs.Names.{name_run_every}
use Rattle.conditions.proofs.Places.{Placed, here, words_placed}
use Rattle.reader.specs.Grammar.{Each}
use Rattle.writer.specs.File.{name_text, literals, term_text, condition_text}
use Rattle.demands.specs.Further.Canonical.{IsTerm, IsConditionText}
use Rattle.demands.specs.Further.Canonical.{never as Says-never, always as says-always}
use Rattle.demands.specs.Further.Canonical.{terms}
use Rattle.demands.proofs.ConditionTexts.{terms_only, condition_described}

-- No parenthesis stands in it.
literals_free : (k : ℕ) (names : List Name) (letter : ℕ) → Free open_sign (literals k names letter)
unfolding literals count
literals_free k [] letter = All-none
literals_free k (name ∷ names) letter =
    all-and (go (signal_on letter k)
    (passing_free is_lowercase open_sign refl (name_text name) (name_run_every name.chars)))
    (literals_free (suc k) names letter)
  where
    go : (t : Bool) → count open_sign (name_text name) ≡ 0
        → count open_sign (cond t (name_text name) (not_sign ∷ name_text name)) ≡ 0
    go true h = h
    go false h = h

terms_free : (names : List Name) (held : List ℕ) → Free open_sign (map (term_text names) held)
terms_free names [] = All-none
terms_free names (letter ∷ held) =
    all-and (joined_free and_sign open_sign refl (literals 0 names letter)
    (literals_free 0 names letter)) (terms_free names held)

text_free : {names : List Name} {s set : ℕ} {xs : List ℕ} → IsConditionText names s set xs
    → count open_sign xs ≡ 0
unfolding count
text_free (Says-never h) = refl
text_free (says-always h) = refl
text_free {names} (terms {held} {texts} l m in-it not_in are each) =
    joined_free or_sign open_sign refl texts (rw (terms_only names each) (terms_free names held))

-- A tree with these bytes, that holds where the test passes, and knows all its names.
record Tree (names : List Name) (kind : Kind) (xs : List ℕ) (test : ℕ → Bool) : Type 0 where
  tree : Condition kind
  bytes : text tree ≡ xs
  holds : (l : ℕ) → holds_at names tree l ≡ test l
  known : unknown names tree ≡ false

module _ (names : List Name) where
  literal_tree : (w : List ℕ) → IsName w → (k : ℕ) → place names (name_of w) ≡ k → k < length names
      → (t : Bool)
      → Tree names factor (cond t w (not_sign ∷ w)) (λ l. cond t (signal_on l k) (not (signal_on l k)))
  unfolding text holds_at unknown
  literal_tree w h k p low true = record {
    tree = named w h;
    bytes = refl;
    holds = λ l. rw p;
    known = rw p (ne_eqb k (length names) (λ e. omega arith));
  }
  literal_tree w h k p low false = record {
    tree = negated (named w h);
    bytes = refl;
    holds = λ l. rw p;
    known = rw p (ne_eqb k (length names) (λ e. omega arith));
  }

  term_tree : (letter k : ℕ) (more : List Name) → Placed names k (map name_text more)
      → 1 ≤ length more → k + length more ≤ length names
      → Tree names term (joined and_sign (literals k more letter)) (alike (length more) k letter)
  unfolding text holds_at unknown joined literals alike
  term_tree letter k [] p some few = absurd (omega arith)
  term_tree letter k (name ∷ []) (here h p rest) some few =
      let first = literal_tree (name_text name) h k p (omega arith) (signal_on letter k) in
      record {
        tree = one_factor first.tree;
        bytes = first.bytes;
        holds = λ l. first.holds l ∙ sym (and-true _);
        known = first.known;
      }
  term_tree letter k (name ∷ next ∷ more) (here h p rest) some few =
      let first = literal_tree (name_text name) h k p (omega arith) (signal_on letter k) in
      let others = term_tree letter (suc k) (next ∷ more) rest (omega arith) (omega arith) in
      record {
        tree = and first.tree others.tree;
        bytes = ap₂ (λ (xs ys : List ℕ). xs ++ and_sign ∷ ys) first.bytes others.bytes;
        holds = λ l. ap₂ ◌&&◌ (first.holds l) (others.holds l);
        known = rw (first.known, others.known);
      }

  module _ (placed : Placed names 0 (map name_text names)) (signals : 1 ≤ length names) where
    abbrev alike_at : ℕ → ℕ → Bool
    alike_at l letter = alike (length names) 0 letter l

    choice_tree : (letter : ℕ) (more : List ℕ)
        → Tree names choice (joined or_sign (map (term_text names) (letter ∷ more)))
        (λ l. some (alike_at l) (letter ∷ more))
    unfolding text holds_at unknown joined some
    choice_tree letter [] =
        let one = term_tree letter 0 names placed signals (omega arith) in
        record {
          tree = one_term one.tree;
          bytes = one.bytes;
          holds = λ l. one.holds l ∙ sym (or-false _);
          known = one.known;
        }
    choice_tree letter (next ∷ more) =
        let one = term_tree letter 0 names placed signals (omega arith) in
        let others = choice_tree next more in
        record {
          tree = or one.tree others.tree;
          bytes = ap₂ (λ (xs ys : List ℕ). xs ++ or_sign ∷ ys) one.bytes others.bytes;
          holds = λ l. ap₂ ◌||◌ (one.holds l) (others.holds l);
          known = rw (one.known, others.known);
        }

    abbrev s : ℕ
    s = length names

    module _ (set : ℕ) (fits : set_valid s set ≡ true) where
      tree_means : {xs : List ℕ} {test : ℕ → Bool} → Tree names choice xs test
          → count open_sign xs ≡ 0 → ((l : ℕ) → l < letters s → test l ≡ in_set set l)
          → IsCondition names (letters s) xs set
      tree_means {xs} t free is = record {
        shallow = free_shallow xs free;
        means = record {
          tree = t.tree;
          bytes = t.bytes;
          letters = set_of_ext (letters s) (holds_at names t.tree) (bit_at set)
              (λ l low. t.holds l ∙ is l low)
              ∙ set_eta (letters s) set (ltb-true set (2 ^ letters s) fits);
          flag = t.known;
        };
      }

      some_alike : (those : List ℕ) → LettersOf s set those → (l : ℕ) → l < letters s
          → some (alike_at l) those ≡ in_set set l
      some_alike those are l low =
          rw (← letters_members set s those are)
          (some_member set s (alike_at l) l low (alike_self s 0 l)
          (λ a high other. alike_eqb s a l high low ∙ ne_eqb a l other))

      text_means : {xs : List ℕ} → IsConditionText names s set xs → count open_sign xs ≡ 0
          → IsCondition names (letters s) xs set
      unfolding text holds_at unknown
      text_means (Says-never h) free =
          tree_means {test = λ _. false} (record {
            tree = one_term (one_factor never);
            bytes = refl;
            holds = λ l. refl;
            known = refl;
          }) free (λ l low. sym (h l low))
      text_means (says-always h) free =
          tree_means {test = λ _. true} (record {
            tree = one_term (one_factor always);
            bytes = refl;
            holds = λ l. refl;
            known = refl;
          }) free (λ l low. sym (h l low))
      text_means (terms {held = those} {texts} l m in-it not_in are each) free = go those are each
        where
          go : (those : List ℕ) → LettersOf s set those → Each (IsTerm names) those texts
              → IsCondition names (letters s) (joined or_sign texts) set
          go [] are each = absurd (Memᴰ.not-nil ((are.exactly l).1 in-it))
          go (letter ∷ more) are each =
              tree_means (rw (terms_only names each) (choice_tree letter more)) free
              (some_alike (letter ∷ more) are)

-- The condition of a set, over names that are kept.
pub condition_right : (names : List Name) → All IsName (map name_text names)
    → map name_of (map name_text names) ≡ names → all_distinct names ≡ true → 1 ≤ length names
    → (set : ℕ) → set_valid (length names) set ≡ true
    → IsCondition names (letters (length names)) (condition_text names (length names) set) set
condition_right names right same apart some set fits =
    let words = map name_text names in
    let placed : Placed names 0 words = subst (λ (ns : List Name). Placed ns 0 words) same
    (words_placed words right (rw same apart)) in
    let described = condition_described names (length names) set in
    text_means names placed some set fits described (text_free described)
