-- A row's line: its fields one by one, the loop that gathers their values, and the row of these.
-- Assumes nothing.
use Prim.Native.Nat.{ℕ, zero, suc, ◌+◌, ◌-◌, ◌≤◌, ◌<◌}
use native.Mathlib.Decide.{dec_lt}
use native.Mathlib.Nat.{add-zero}
use native.Mathlib.Omega.{arith}
use mathlib.Core.Bool.{true}
use mathlib.Core.List.{List, [], ◌∷◌, ◌++◌, append-nil}
use mathlib.Core.Path.{◌≡◌, refl, sym, ap, ◌∙◌}
use lib.ListN.{length, get_or, take, drop, set, replicate, length-take, length-drop}
use lib.ListN.{drop_of_length-le, take-append-drop}
use lib.Seq.{drop-drop, set_at, append_snoc}
use Rattle.std.specs.Prelude.{Option, Some, None, Result, Ok, Err}
use Rattle.std.proofs.lemmas.List.{length_push}
use Rattle.letters.specs.Lists.{same_bytes}
use Rattle.letters.proofs.Lists.{same_bytes_true}
use Rattle.table.specs.Limits.{most_ticks}
use Rattle.table.specs.Inner.Fields.{bound_at}
use Rattle.table.specs.declared.Name.{Name}
use Rattle.text.specs.Lines.{count, comma}
use Rattle.text.specs.Words.{rule_word}
use Rattle.text.specs.Inner.Cut.{split, front}
use Rattle.text.specs.Inner.Bounds.{bound_of}
use Rattle.text.proofs.Bounds.{bound_of_value_small}
use Rattle.text.proofs.Splits.{split_cons, split_length, split_front, front_whole, count_after}
use Rattle.text.proofs.Splits.{after_drop, front_length, front_short}
use Rattle.rows.specs.Inner.Row.{ticks_field, field_of, fields_of, before, all_values, BoundsFit}

module _ (names : List Name) (n : ℕ) where
  -- A bound's value is small.
  field_small : (k : ℕ) (xs : List ℕ) (v : ℕ) → bound_at k ≡ true → field_of names n k xs ≡ Ok v
      → v ≤ most_ticks
  unfolding field_of
  field_small k xs v bound e = go (bound_of xs) refl (rw bound at e)
    where
      go : (b : Option ℕ) → bound_of xs ≡ b → ticks_field b ≡ Ok v → v ≤ most_ticks
      go (Some t) is e = let same : t ≡ v = cc in rw (← same) (bound_of_value_small xs t is)
      go None is e = absurd (let z : ◌≡◌ {A = ℕ} 0 1 = cc in omega arith)

  values_small : (pieces : List (List ℕ)) (k i : ℕ) (values : List ℕ)
      → all_values (fields_of names n k pieces) ≡ Ok values → bound_at (k + i) ≡ true
      → get_or values i 0 ≤ most_ticks
  unfolding fields_of all_values
  values_small [] k i values e bound = let none : [] ≡ values = cc in rw (← none) (omega arith)
  values_small (xs ∷ pieces) k i values e bound =
      go (field_of names n k xs) refl (all_values (fields_of names n (k + 1) pieces)) refl e i bound
      (values_small pieces (k + 1))
    where
      go : (f : Result ℕ ℕ) → field_of names n k xs ≡ f → (r : Result (List ℕ) ℕ)
          → all_values (fields_of names n (k + 1) pieces) ≡ r
          → all_values (field_of names n k xs ∷ fields_of names n (k + 1) pieces) ≡ Ok values
          → (i : ℕ) → bound_at (k + i) ≡ true
          → ((j : ℕ) (rest : List ℕ) → all_values (fields_of names n (k + 1) pieces) ≡ Ok rest
          → bound_at (k + 1 + j) ≡ true → get_or rest j 0 ≤ most_ticks)
          → get_or values i 0 ≤ most_ticks
      go (Err m) p r q e i bound ih =
          let all : Err m ≡ Ok values = rw p at e in
          absurd (let z : ◌≡◌ {A = ℕ} 0 1 = cc in omega arith)
      go (Ok v) p (Err m) q e i bound ih =
          let all : Err m ≡ Ok values = rw (p, q) at e in
          absurd (let z : ◌≡◌ {A = ℕ} 0 1 = cc in omega arith)
      go (Ok v) p (Ok rest) q e zero bound ih =
          let all : Ok (v ∷ rest) ≡ Ok values = rw (p, q) at e in
          let same : v ∷ rest ≡ values = cc in
          rw (← same) (field_small k xs v (rw add-zero at bound) p)
      go (Ok v) p (Ok rest) q e (suc i) bound ih =
          let all : Ok (v ∷ rest) ≡ Ok values = rw (p, q) at e in
          let same : v ∷ rest ≡ values = cc in
          let there : k + suc i ≡ k + 1 + i = omega arith in
          rw (← same) (ih i rest q (rw there at bound))

  fields_length : (pieces : List (List ℕ)) (k : ℕ)
      → length (fields_of names n k pieces) ≡ length pieces
  unfolding fields_of
  fields_length [] k = refl
  fields_length (xs ∷ pieces) k = ap suc (fields_length pieces (k + 1))

-- The values of the bounds fit in a byte.
pub bounds_fit : (names : List Name) (n : ℕ) (pieces : List (List ℕ)) (values : List ℕ)
    → all_values (fields_of names n 0 pieces) ≡ Ok values → BoundsFit values
bounds_fit names n pieces values e =
    (low 3 refl, low 4 refl, low 5 refl, low 6 refl, low 10 refl, low 11 refl)
  where
    low : (i : ℕ) → bound_at (0 + i) ≡ true → get_or values i 0 < 256
    low i bound = omega (arith, values_small names n pieces 0 i values e bound)

-- Values in front of those that are left.
abbrev prefixed : List ℕ → Result (List ℕ) ℕ → Result (List ℕ) ℕ
prefixed vs (Ok rest) = Ok (vs ++ rest)
prefixed vs (Err m) = Err m

prefixed_more : (vs : List ℕ) (v : ℕ) (r : Result (List ℕ) ℕ)
    → prefixed vs (before v r) ≡ prefixed (vs ++ (v ∷ [])) r
prefixed_more vs v (Ok rest) = ap Ok (sym (append_snoc vs v rest))
prefixed_more vs v (Err m) = refl

-- The first piece is the front.
split_first : (b : ℕ) (xs : List ℕ) → split b xs ≡ front b xs ∷ drop 1 (split b xs)
split_first b xs = go (dec_lt 0 (count b xs))
  where
    go : Dec (0 < count b xs) → split b xs ≡ front b xs ∷ drop 1 (split b xs)
    go (yes more) = rw (split_cons b xs more)
    go (no none) =
        let last : count b xs ≡ 0 = omega arith in rw (split_front b xs last, front_whole b xs last)

-- The loop that gathers the values of a line's fields. Its invariant, `Gathered`, stands before
-- field k, which begins at `at`.
module _ (names : List Name) (n : ℕ) (line : List ℕ) where
  abbrev fields : List (Result ℕ ℕ)
  fields = fields_of names n 0 (split comma (drop 5 line))

  pub record Here (at k : ℕ) : Type 0 where
    -- The field begins within the line.
    pub within : at ≤ length line
    -- There are as many commas left as fields after this one.
    pub commas : count comma (drop at line) + k ≡ 11
    -- The rest of the line holds the fields from this one on.
    pub rest : drop k fields ≡ fields_of names n k (split comma (drop at line))

  pub record Gathered (values : List ℕ) (at k : ℕ) : Type 0 where
    -- There are twelve fields.
    pub few : k ≤ 12
    -- Where there is a field left to read, it is here.
    pub here : k < 12 → Here at k
    -- The fields before this one hold these values, which stand in the array, and zeros after them.
    pub held : List ℕ
    pub long : length held ≡ k
    pub clean : all_values fields ≡ prefixed held (all_values (drop k fields))
    pub stored : values ≡ held ++ replicate (12 - k) 0

  pub gathered_none : 5 ≤ length line → count comma (drop 5 line) ≡ 11
      → Gathered (replicate 12 0) 5 0
  gathered_none long commas = record {
    few = omega arith;
    here = λ h. record { within = long; commas = omega arith; rest = refl };
    held = [];
    long = refl;
    clean = whole (all_values fields);
    stored = refl;
  }
    where
      whole : (r : Result (List ℕ) ℕ) → r ≡ prefixed [] r
      whole (Ok rest) = refl
      whole (Err m) = refl

  module _ (at k : ℕ) (here : Here at k) where
    abbrev field : Result ℕ ℕ
    field = field_of names n k (front comma (drop at line))

    -- The field is the first of those that are left, and ends within the line.
    field_first : drop k fields ≡ field ∷ drop (k + 1) fields
    unfolding fields_of
    field_first =
        let first = here.rest ∙ ap (fields_of names n k) (split_first comma (drop at line)) in
        first ∙ ap (◌∷◌ field) (sym (ap (drop 1) first) ∙ drop-drop 1 k fields)

    pub here_front : at + length (front comma (drop at line)) ≤ length line
    here_front = omega (arith, here.within, length-drop at line, front_length comma (drop at line))

    -- The next field begins after the comma.
    here_next : k + 1 < 12 → Here (at + length (front comma (drop at line)) + 1) (k + 1)
    unfolding fields_of
    here_next more =
        let xs = drop at line in
        let some : 0 < count comma xs = omega (arith, here.commas) in
        let size = length (front comma xs) in
        let next : at + (size + 1) ≡ at + size + 1 = omega arith in
        let after-it = after_drop comma xs some ∙ drop-drop (length (front comma xs) + 1) at line in
        let there = rw next at after-it in
        let first = here.rest ∙ ap (fields_of names n k) (split_cons comma xs some) in
        record {
          within = omega (arith, here.within, length-drop at line, front_short comma xs some);
          commas = rw (← there) (omega (arith, here.commas, count_after comma xs some));
          rest = rw (← there) (sym (drop-drop 1 k fields) ∙ ap (drop 1) first);
        }

    -- A turn that finds a value.
    pub gathered_next : {v : ℕ} → field ≡ Ok v → (values : List ℕ) → k < 12 → Gathered values at k
        → Gathered (set values k v) (at + length (front comma (drop at line)) + 1) (k + 1)
    unfolding all_values
    gathered_next {v} value values h now =
        let left : 12 - k ≡ suc (12 - (k + 1)) = omega arith in
        record {
          few = omega arith;
          here = here_next;
          held = now.held ++ (v ∷ []);
          long = length_push now.held v ∙ omega (arith, now.long);
          clean = now.clean ∙ rw (field_first, value)
              (prefixed_more now.held v (all_values (drop (k + 1) fields)));
          stored = rw (now.stored, left)
              (set_at now.held 0 (replicate (12 - (k + 1)) 0) v k now.long
              ∙ sym (append_snoc now.held v (replicate (12 - (k + 1)) 0)));
        }

    -- A turn that finds a fault.
    pub gathered_fault : {m : ℕ} → field ≡ Err m → (values : List ℕ) → Gathered values at k
        → all_values fields ≡ Err m
    unfolding all_values
    gathered_fault fault values now = now.clean ∙ rw (field_first, fault)

  -- The end.
  pub gathered_all : (values : List ℕ) (at k : ℕ) → count comma (drop 5 line) ≡ 11 → 12 ≤ k
      → Gathered values at k → all_values fields ≡ Ok values
  unfolding all_values
  gathered_all values at k commas h now =
      let size = fields_length names n (split comma (drop 5 line)) 0
      ∙ split_length comma (drop 5 line) in
      let none : 12 - k ≡ 0 = omega arith in
      let past : drop k fields ≡ [] = drop_of_length-le fields {i = k} (omega arith) in
      let all : values ≡ now.held = now.stored ∙ rw (none, append-nil) in
      now.clean ∙ rw (past, append-nil, all)

-- The commas of a row's line all stand after `rule `.
module _ (line : List ℕ) (rule : same_bytes (take 5 line) rule_word ≡ true) where
  rule_take : take 5 line ≡ rule_word
  rule_take = same_bytes_true (take 5 line) rule_word rule

  pub rule_length : 5 ≤ length line
  rule_length = omega (arith, length-take 5 line, ap length rule_take)

  pub rule_commas : count comma (drop 5 line) ≡ count comma line
  unfolding count
  rule_commas = sym (ap (count comma) (sym (take-append-drop 5 line)) ∙ rw rule_take)
