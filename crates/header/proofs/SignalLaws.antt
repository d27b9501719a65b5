-- Line 2, word by word: what the loop over its words keeps, and what it comes to. Assumes nothing.
use Prim.Native.Nat.{ℕ, zero, suc, ◌+◌, ◌-◌, ◌<◌, ◌≤◌}
use native.Mathlib.Decide.{dec_lt, dec_le}
use native.Mathlib.Numerals.{add-one}
use native.Mathlib.Omega.{arith}
use mathlib.Core.Bool.{Bool, true, false, cond, true≢false}
use mathlib.Core.List.{List, [], ◌∷◌, ◌++◌, map, map-append}
use mathlib.Core.Path.{◌≡◌, refl, sym, ap, ◌∙◌}
use borrow.Author.Tests.{lt-ltb, le-ltb, lt-leb, le-leb}
use lib.Dec.{eqb, ltb}
use lib.ListN.{length, get_or, take, drop, set, replicate, length-append, length-map, take-append-drop}
use lib.Seq.{take-append-le, set_at, take-append-add, take-suc, take_all, length-take-le}
use lib.Seq.{append_snoc, take_at, ext_get_or}
use native.Mathlib.Nat.{zero-add}
use Rattle.std.specs.List.{enumerate_from, slice_split}
use Rattle.std.proofs.lemmas.List.FromFn.{length-enumerate_from, get_or-enumerate_from}
use lib.ListN.{get_or-replicate}
use Rattle.std.specs.Prelude.{Result, Ok, Err}
use Rattle.letters.specs.Lists.{every, same_bytes}
use Rattle.letters.proofs.Lists.{every_append, every_at, same_bytes_true, same_bytes_refl}
use Rattle.table.specs.Limits.{most_signals}
use Rattle.table.specs.declared.Name.{Name}
use Rattle.table.specs.declared.Signals.{Signals}
use Rattle.text.specs.Lines.{count, space, joined}
use Rattle.text.specs.Words.{signals_word}
use Rattle.text.specs.Inner.Cut.{split}
use Rattle.text.proofs.Splits.{split_length, split_append, split_slice}
use Rattle.conditions.specs.Condition.{name_of}
use Rattle.header.specs.Header.{IsSignals, no_name, names_from}
use Rattle.header.specs.Inner.Header.{name_shaped, names_read, signals_answer}
use Rattle.header.specs.Inner.Gathering.{name_added, names_answer}
use Rattle.header.proofs.Shapes.{signals_none}

-- The names kept of the words so far: at most six, the other places 0.
abbrev pub kept_of : List (List ℕ) → List Name
kept_of ws = take most_signals (map name_of ws ++ replicate most_signals no_name)

take_replicate : {A : Type 0} (n m : ℕ) (x : A) → n ≤ m → take n (replicate m x) ≡ replicate n x
take_replicate zero m x h = refl
take_replicate (suc n) zero x h = absurd (omega arith)
take_replicate (suc n) (suc m) x h = ap (λ l. x ∷ l) (take_replicate n m x (omega arith))

-- Up to six names are kept whole.
pub kept_few : (ws : List (List ℕ)) → length ws ≤ most_signals → kept_of ws ≡ names_from ws
kept_few ws h =
    let kept = map name_of ws in
    let long = length-map ws name_of in
    let sum : most_signals ≡ length kept + (most_signals - length ws) = omega arith in
    ap (λ (k : ℕ). take k (kept ++ replicate most_signals no_name)) sum
    ∙ take-append-add kept (replicate most_signals no_name) (most_signals - length ws)
    ∙ ap (λ (l : List Name). kept ++ l)
    (take_replicate (most_signals - length ws) most_signals no_name (omega arith))

-- One element more at the first free place of m, or none where there is no such place.
pub added_few : {A : Type 0} (xs : List A) (x v : A) (n m : ℕ) → length xs ≡ n → n < m
    → set (xs ++ replicate (m - n) x) n v ≡ (xs ++ (v ∷ [])) ++ replicate (m - suc n) x
added_few xs x v n m e h =
    let free : m - n ≡ suc (m - suc n) = omega arith in
    rw free (set_at xs x (replicate (m - suc n) x) v n e
    ∙ sym (append_snoc xs v (replicate (m - suc n) x)))

added_many : {A : Type 0} (xs ys : List A) (v : A) (m : ℕ) → m ≤ length xs
    → take m (xs ++ ys) ≡ take m ((xs ++ (v ∷ [])) ++ ys)
added_many xs ys v m h =
    take-append-le m xs ys h
    ∙ sym (take-append-le m (xs ++ (v ∷ [])) ys (rw length-append (omega arith))
    ∙ take-append-le m xs (v ∷ []) h)

kept_added : (ws : List (List ℕ)) (w : List ℕ) → name_added (kept_of ws) (length ws) (name_of w)
    ≡ kept_of (ws ++ (w ∷ []))
kept_added ws w = go (dec_lt (length ws) most_signals)
  where
    long : length (map name_of ws) ≡ length ws
    long = length-map ws name_of

    more : map name_of (ws ++ (w ∷ [])) ≡ map name_of ws ++ (name_of w ∷ [])
    more = map-append name_of ws (w ∷ [])

    go : Dec (length ws < most_signals)
        → cond (ltb (length ws) most_signals) (set (kept_of ws) (length ws) (name_of w)) (kept_of ws)
        ≡ kept_of (ws ++ (w ∷ []))
    go (yes h) =
        let longer = length-append ws (w ∷ []) in
        let free : most_signals - length (ws ++ (w ∷ [])) ≡ most_signals - suc (length ws) =
        omega arith in
        rw (
          lt-ltb (length ws) most_signals h,
          kept_few ws (omega arith),
          kept_few (ws ++ (w ∷ []))
              (omega arith),
          more,
          free,
        )
        (added_few (map name_of ws) no_name (name_of w) (length ws) most_signals long h)
    go (no h) =
        rw (le-ltb (length ws) most_signals (omega arith), more)
        (added_many (map name_of ws) (replicate most_signals no_name) (name_of w) most_signals
        (omega (arith, long)))

pub length_none : {A : Type 0} (xs : List A) → length xs ≡ 0 → xs ≡ []
length_none [] e = refl
length_none (x ∷ xs) e = absurd (omega arith)

-- What line 2 begins with, and the words past that.
abbrev pub start : List ℕ
start = signals_word ++ space ∷ []

abbrev pub words : List ℕ → List (List ℕ)
words line = split space (drop 8 line)

module _ (line : List ℕ) where
  signals_start : (names : List (List ℕ)) → IsSignals line names
      → same_bytes (take 8 line) start ≡ true
  unfolding same_bytes joined
  signals_start [] s = absurd (let some = s.some in omega arith)
  signals_start (name ∷ []) s = rw s.line_is
  signals_start (name ∷ next ∷ more) s = rw s.line_is

  pub answer_start : same_bytes (take 8 line) start ≡ false
      → signals_answer (split space line) ≡ Err 6
  answer_start e = signals_none line (λ names s. true≢false (sym (signals_start names s) ∙ e))

  module _ (starts : same_bytes (take 8 line) start ≡ true) where
    words_are : split space line ≡ signals_word ∷ words line
    unfolding count
    words_are =
        ap (split space)
        (sym (take-append-drop 8 line)
        ∙ ap (λ (xs : List ℕ). xs ++ drop 8 line) (same_bytes_true (take 8 line) start starts))
        ∙ split_append space signals_word (drop 8 line) refl

    answer_words : signals_answer (split space line)
        ≡ cond (every name_shaped (words line)) (names_read (words line)) (Err 6)
    unfolding signals_answer
    answer_words =
        rw (
          words_are,
          same_bytes_refl signals_word,
          le-leb 1 (length (words line)) (rw (split_length space (drop 8 line)) (omega arith)),
        )

    -- Word k is no name.
    pub answer_name : (k : ℕ) → k < length (words line) → {word : List ℕ}
        → word ≡ get_or (words line) k word → name_shaped word ≡ false
        → signals_answer (split space line) ≡ Err 6
    answer_name k h {word} e bad = answer_words ∙ go (every name_shaped (words line)) refl
      where
        go : (t : Bool) → every name_shaped (words line) ≡ t
            → cond {A = Result Signals ℕ} t (names_read (words line)) (Err 6) ≡ Err 6
        go true all =
            absurd (true≢false (sym (every_at name_shaped (words line) k word all h)
            ∙ sym (ap name_shaped e) ∙ bad))
        go false all = refl

    -- All words are names: they are kept, and counted.
    module _ (right : every name_shaped (words line) ≡ true) {names : List Name}
        (kept : names ≡ kept_of (words line)) {n : ℕ} (counted : n ≡ length (words line)) where
      module _ (few : n ≤ most_signals) where
        same : names ≡ names_from (words line)
        same = kept ∙ kept_few (words line) (rw (← counted) few)

        taken : take n names ≡ map name_of (words line)
        taken = rw same (take_at (map name_of (words line)) _ n
            (length-map (words line) name_of ∙ sym counted))

      names_judged : names_read (words line) ≡ names_answer names n
      unfolding names_read
      names_judged = go (dec_le n most_signals)
        where
          go : Dec (n ≤ most_signals) → names_read (words line) ≡ names_answer names n
          go (yes few) =
              rw (
                ← same few,
                ← taken few,
                ← counted,
                le-leb n most_signals few,
                le-ltb most_signals n few,
              )
          go (no many) =
              rw (← counted, lt-leb n most_signals (omega arith), lt-ltb most_signals n (omega arith))

      pub answer_names : signals_answer (split space line) ≡ names_answer names n
      answer_names = answer_words ∙ rw right names_judged

-- A turn's number and word, of those that `split` and `enumerate` give.
pub turn_word : (rest : List ℕ) (i : ℕ) {n : ℕ} {word : List ℕ}
    → let all = enumerate_from 0 (slice_split (λ x. eqb x space) rest) in
    (i < length all) × ((n, word) ≡ get_or all i (n, word))
    → (n ≡ i) × (i < length (split space rest)) × (word ≡ get_or (split space rest) i word)
turn_word rest i {n} {word} t =
    let parts = slice_split (λ x. eqb x space) rest in
    let low : i < length parts = rw length-enumerate_from at t.0 in
    let here : (n, word) ≡ (0 + i, get_or parts i word) =
    t.1 ∙ get_or-enumerate_from 0 parts i (n, word) low in
    let same : parts ≡ split space rest = split_slice space rest in (
      ap (λ (p : ℕ × List ℕ). p.0) here ∙ zero-add i,
      rw same at low,
      rw same at (ap (λ (p : ℕ × List ℕ). p.1) here),
    )

pub all_words : (rest : List ℕ)
    → length (enumerate_from 0 (slice_split (λ x. eqb x space) rest)) ≡ length (split space rest)
all_words rest = length-enumerate_from 0 _ ∙ ap length (split_slice space rest)

pub words_counted : (rest : List ℕ) {n : ℕ} → n ≡ count space rest
    → n + 1 ≡ length (split space rest)
words_counted rest e = omega (arith, split_length space rest)

-- What is said of a word.
module _ (w : List ℕ) where
  told : (t : Bool) {r : Result Unit ℕ} → name_shaped w ≡ t → r ≡ cond (name_shaped w) (Ok tt) (Err 6)
      → r ≡ cond t (Ok tt) (Err 6)
  told t e is = rw e at is

  pub word_right : {r : Result Unit ℕ} → r ≡ cond (name_shaped w) (Ok tt) (Err 6) → r ≡ Ok tt
      → name_shaped w ≡ true
  word_right {r} is e = go (name_shaped w) refl
    where
      go : (t : Bool) → name_shaped w ≡ t → name_shaped w ≡ true
      go true f = f
      go false f = let no = told false f is in absurd (let z : ◌≡◌ {A = ℕ} 0 1 = cc in omega arith)

  pub word_wrong : {r : Result Unit ℕ} {m : ℕ} → r ≡ cond (name_shaped w) (Ok tt) (Err 6)
      → r ≡ Err m → (name_shaped w ≡ false) × (m ≡ 6)
  word_wrong {r} {m} is e = go (name_shaped w) refl
    where
      go : (t : Bool) → name_shaped w ≡ t → (name_shaped w ≡ false) × (m ≡ 6)
      go true f = let no = told true f is in absurd (let z : ◌≡◌ {A = ℕ} 0 1 = cc in omega arith)
      go false f = let no = told false f is in (f, cc)

-- A name of zeros is none.
pub name_zeros : (z : Name) → length z.chars ≡ 8
    → ((i d : ℕ) → i < 8 → get_or z.chars i d ≡ 0) → z ≡ no_name
name_zeros z long each =
    ap (λ (l : List ℕ). record { chars = l })
    (ext_get_or 0 z.chars (replicate 8 0) long
    (λ i low. each i 0 (omega arith) ∙ sym (get_or-replicate 8 i 0 0 (omega arith))))

-- The loop over the words: the first k of them are names, and kept.
pub record Named (ws : List (List ℕ)) (k : ℕ) (names : List Name) : Type 0 where
  pub right : every name_shaped (take k ws) ≡ true
  pub kept : names ≡ kept_of (take k ws)

pub named_none : (ws : List (List ℕ)) → Named ws 0 (replicate most_signals no_name)
unfolding every
named_none ws = record { right = refl; kept = refl }

pub named_next : (ws : List (List ℕ)) (k : ℕ) (names : List Name) → Named ws k names
    → k < length ws → {word : List ℕ} → word ≡ get_or ws k word → name_shaped word ≡ true
    → Named ws (k + 1) (name_added names k (name_of word))
unfolding every
named_next ws k names p h {word} e good =
    let more : take (k + 1) ws ≡ take k ws ++ (word ∷ []) =
    rw (add-one, take-suc ws k word h, ← e) in
    let long : length (take k ws) ≡ k = length-take-le k ws (omega arith) in
    record {
      right = rw (more, every_append name_shaped (take k ws) (word ∷ []), p.right, good);
      kept = rw (more, ← kept_added (take k ws) word, long, p.kept);
    }

pub named_all : (ws : List (List ℕ)) (k : ℕ) (names : List Name) → Named ws k names
    → k ≡ length ws → (every name_shaped ws ≡ true) × (names ≡ kept_of ws)
named_all ws k names p e =
    let all : take k ws ≡ ws = take_all k ws (omega arith) in
    (rw all at p.right, rw all at p.kept)
