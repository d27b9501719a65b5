-- Lines 1 and 2 as they are described, against the tests that give them a number, both ways.
-- Assumes nothing.
use Prim.Native.Nat.{ℕ, ◌<◌, ◌≤◌}
use borrow.Author.Tests.{leb-true, le-leb, lt-leb, eqb-true}
use native.Mathlib.Omega.{arith}
use mathlib.Core.Bool.{Bool, true, false, ◌&&◌, cond, true≢false}
use mathlib.Core.List.{List, [], ◌∷◌, ◌++◌, map}
use mathlib.Core.Path.{◌≡◌, refl, sym, ap, ◌∙◌}
use lib.Dec.{eqb, leb}
use lib.ListN.{length, take, drop, take-append-drop, length-append, length-drop}
use Rattle.std.specs.Prelude.{Result, Ok, Err}
use Rattle.letters.specs.Lists.{every, same_bytes}
use Rattle.letters.proofs.Lists.{and_left, and_right, same_bytes_true, same_bytes_false}
use Rattle.letters.proofs.Lists.{same_bytes_refl}
use Rattle.table.specs.Limits.{most_signals}
use Rattle.table.specs.Name.{is_lowercase, all_distinct}
use Rattle.text.specs.Lines.{LF, space, joined, count, All, none, and, Free}
use Rattle.text.specs.Words.{PNP, version1, version_digits, signals_word}
use Rattle.text.specs.declared.Version.{Version}
use Rattle.text.specs.declared.Version.TheVariants.{First}
use Rattle.text.specs.Inner.Cut.{split}
use Rattle.text.proofs.Joins.{split_joined, joined_split, joined_free, passing_free}
use Rattle.conditions.specs.Condition.{IsName, name_of}
use Rattle.header.specs.Header.{is_digit16, IsHeader, version_line, IsSignals, names_from}
use Rattle.header.specs.Inner.Header.{version_answer, name_shaped, names_read, signals_answer}
use Rattle.table.specs.declared.Signals.{Signals}

-- Line 1.
abbrev shaped : List ℕ → Bool
shaped line = eqb (length line) 8 && same_bytes (take 4 line) PNP && every is_digit16 (drop 4 line)

shaped_header : (line : List ℕ) → shaped line ≡ true → IsHeader line (drop 4 line)
shaped_header line h =
    let eight = eqb (length line) 8 in
    let starts = same_bytes (take 4 line) PNP in
    let digits = every is_digit16 (drop 4 line) in
    let long = eqb-true (length line) 8 (and_left eight starts (and_left (eight && starts) digits
    h)) in
    record {
      line_is = sym (take-append-drop 4 line)
          ∙ ap (λ (xs : List ℕ). xs ++ drop 4 line) (same_bytes_true (take 4 line) PNP
          (and_right eight starts (and_left (eight && starts) digits h)));
      four = length-drop 4 line ∙ omega arith;
      digits = and_right (eight && starts) digits h;
    }

module _ (line digits : List ℕ) (header : IsHeader line digits) where
  header_shaped : shaped line ≡ true
  unfolding same_bytes
  header_shaped =
      let long : length (PNP ++ digits) ≡ 8 = length-append PNP digits ∙ omega (
        arith,
        header.four,
      ) in
      rw (header.line_is, long, header.digits)

  pub header_known : (version : Version) → digits ≡ version_digits version
      → version_answer line ≡ Ok version
  unfolding version_answer
  header_known First e =
      let same = same_bytes_refl version1 in
      rw (header_shaped, header.line_is, e, same)

  pub header_other : ((version : Version) → digits ≡ version_digits version → ⊥)
      → version_answer line ≡ Err 5
  unfolding version_answer
  header_other other =
      rw (header_shaped, header.line_is, same_bytes_false digits version1 (other First))

pub header_none : (line : List ℕ) → ((digits : List ℕ) → IsHeader line digits → ⊥)
    → version_answer line ≡ Err 4
unfolding version_answer
header_none line h = go (shaped line) refl
  where
    go : (t : Bool) → shaped line ≡ t
        → cond {A = Result Version ℕ} t (cond (same_bytes (drop 4 line) version1) (Ok First) (Err 5)) (Err 4)
        ≡ Err 4
    go true e = absurd (h (drop 4 line) (shaped_header line e))
    go false e = refl

-- What line 1 may be.
pub data Line1 (line : List ℕ) : Type 0 where
  known : (version : Version) → line ≡ version_line version → Line1 line
  other : (digits : List ℕ) → IsHeader line digits
      → ((version : Version) → digits ≡ version_digits version → ⊥) → Line1 line
  misshapen : ((digits : List ℕ) → IsHeader line digits → ⊥) → Line1 line

pub line1_found : (line : List ℕ) → Line1 line
line1_found line = go (shaped line) refl (same_bytes (drop 4 line) version1) refl
  where
    go : (t : Bool) → shaped line ≡ t → (u : Bool) → same_bytes (drop 4 line) version1 ≡ u
        → Line1 line
    go true e true f =
        known First ((shaped_header line e).line_is
        ∙ ap (◌++◌ PNP) (same_bytes_true (drop 4 line) version1 f))
    go true e false f = other (drop 4 line) (shaped_header line e) differs
      where
        differs : (version : Version) → drop 4 line ≡ version_digits version → ⊥
        differs First z = true≢false (sym (ap (λ (v : List ℕ). same_bytes v version1) z
            ∙ same_bytes_refl version1) ∙ f)
    go false e u f =
        misshapen (λ digits h. true≢false (sym (header_shaped line digits h) ∙ e))

pub header_right : (version : Version) → IsHeader (version_line version) (version_digits version)
unfolding every
header_right First = record { line_is = refl; four = refl; digits = refl }

-- Names.
pub shaped_name : (w : List ℕ) → name_shaped w ≡ true → IsName w
unfolding name_shaped
shaped_name w h =
    let some = leb 1 (length w) in
    let few = leb (length w) 8 in
    let size = and_left (some && few) (every is_lowercase w) h in
    record {
      some = leb-true 1 (length w) (and_left some few size);
      few = leb-true (length w) 8 (and_right some few size);
      letters = and_right (some && few) (every is_lowercase w) h;
    }

name_shaped_lem : (w : List ℕ) → IsName w → name_shaped w ≡ true
unfolding name_shaped
name_shaped_lem w h = rw (le-leb 1 (length w) h.some, le-leb (length w) 8 h.few, h.letters)

pub shaped_names : (names : List (List ℕ)) → every name_shaped names ≡ true → All IsName names
unfolding every
shaped_names [] h = none
shaped_names (w ∷ names) h =
    and (shaped_name w (and_left (name_shaped w) (every name_shaped names) h))
    (shaped_names names (and_right (name_shaped w) (every name_shaped names) h))

names_shaped : (names : List (List ℕ)) → All IsName names → every name_shaped names ≡ true
unfolding every
names_shaped names none = refl
names_shaped names (and {a} {more} h all) = rw (name_shaped_lem a h) (names_shaped more all)

names_free : (b : ℕ) → is_lowercase b ≡ false → (names : List (List ℕ)) → All IsName names
    → Free b names
names_free b e names none = none
names_free b e names (and {a} {more} h all) =
    and (passing_free is_lowercase b e a h.letters) (names_free b e more all)

-- Line 2.
abbrev pub signals_read : List (List ℕ) → Signals
signals_read names = record { count = length names; names = names_from names }

-- Whether line 2 has its shape.
abbrev words_shaped : List (List ℕ) → Bool
words_shaped [] = false
words_shaped (word ∷ names) =
    same_bytes word signals_word && leb 1 (length names) && every name_shaped names

module _ (line : List ℕ) (names : List (List ℕ)) (signals : IsSignals line names) where
  words_free : (b : ℕ) → is_lowercase b ≡ false → count b signals_word ≡ 0
      → Free b (signals_word ∷ names)
  words_free b e none_in = and none_in (names_free b e names signals.named)

  signals_split : split space line ≡ signals_word ∷ names
  unfolding count
  signals_split =
      ap (split space) signals.line_is
      ∙ split_joined space signals_word names (words_free space refl refl)

  pub signals_free : count LF line ≡ 0
  unfolding count
  signals_free =
      ap (count LF) signals.line_is
      ∙ joined_free space LF refl (signals_word ∷ names) (words_free LF refl refl)

  signals_shaped : words_shaped (split space line) ≡ true
  signals_shaped =
      rw (
        signals_split,
        same_bytes_refl signals_word,
        le-leb 1 (length names) signals.some,
        names_shaped names signals.named,
      )

  pub signals_names : signals_answer (split space line) ≡ names_read names
  unfolding signals_answer
  signals_names =
      rw (
        signals_split,
        same_bytes_refl signals_word,
        le-leb 1 (length names) signals.some,
        names_shaped names signals.named,
      )

  pub signals_many : most_signals < length names → signals_answer (split space line) ≡ Err 7
  unfolding names_read
  signals_many h = signals_names ∙ rw (lt-leb (length names) most_signals h)

  module _ (few : length names ≤ most_signals) where
    pub signals_twice : all_distinct (map name_of names) ≡ false
        → signals_answer (split space line) ≡ Err 8
    unfolding names_read
    signals_twice h = signals_names ∙ rw (le-leb (length names) most_signals few, h)

    pub signals_read_lem : all_distinct (map name_of names) ≡ true
        → signals_answer (split space line) ≡ Ok (signals_read names)
    unfolding names_read
    signals_read_lem h = signals_names ∙ rw (le-leb (length names) most_signals few, h)

pub shaped_signals : (line : List ℕ) → words_shaped (split space line) ≡ true
    → IsSignals line (drop 1 (split space line))
shaped_signals line h = go (split space line) (joined_split space line) h
  where
    go : (words : List (List ℕ)) → joined space words ≡ line → words_shaped words ≡ true
        → IsSignals line (drop 1 words)
    go [] j h = absurd (true≢false (sym h))
    go (word ∷ names) j h =
        let starts = same_bytes word signals_word in
        let some = leb 1 (length names) in
        let named = every name_shaped names in
        let front = and_left (starts && some) named h in
        record {
          line_is = sym j ∙ ap (λ (w : List ℕ). joined space (w ∷ names))
              (same_bytes_true word signals_word (and_left starts some front));
          some = leb-true 1 (length names) (and_right starts some front);
          named = shaped_names names (and_right (starts && some) named h);
        }

pub data Line2 (line : List ℕ) : Type 0 where
  signals : (names : List (List ℕ)) → IsSignals line names → Line2 line
  misshapen : ((names : List (List ℕ)) → IsSignals line names → ⊥) → Line2 line

pub line2_found : (line : List ℕ) → Line2 line
line2_found line = go (words_shaped (split space line)) refl
  where
    go : (t : Bool) → words_shaped (split space line) ≡ t → Line2 line
    go true e = signals (drop 1 (split space line)) (shaped_signals line e)
    go false e = misshapen (λ names s. true≢false (sym (signals_shaped line names s) ∙ e))

pub signals_misshapen : (words : List (List ℕ)) → words_shaped words ≡ false
    → signals_answer words ≡ Err 6
unfolding signals_answer
signals_misshapen [] h = refl
signals_misshapen (word ∷ names) h = rw h

pub signals_none : (line : List ℕ) → ((names : List (List ℕ)) → IsSignals line names → ⊥)
    → signals_answer (split space line) ≡ Err 6
signals_none line h = go (words_shaped (split space line)) refl
  where
    go : (t : Bool) → words_shaped (split space line) ≡ t
        → signals_answer (split space line) ≡ Err 6
    go true e = absurd (h _ (shaped_signals line e))
    go false e = signals_misshapen (split space line) e
