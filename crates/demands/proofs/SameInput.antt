-- What the answer depends on: "whatever scratch and trace buffer held before, the signals and rows
-- alone choose the verdict". Assumes nothing.
use Prim.Native.Nat.{ℕ, ◌≤◌}
use native.Mathlib.Omega.{arith}
use mathlib.Core.Bool.{true, true≢false}
use mathlib.Core.List.{List}
use mathlib.Core.Path.{◌≡◌, refl, sym, ◌∙◌}
use lib.ListN.{length, take}
use Rattle.table.specs.Valid.{table_valid, rows_of}
use Rattle.table.specs.declared.Table.{Table}
use Rattle.traces.specs.Inner.Verdicts.{Trapped, Sound}
use Rattle.lists.specs.Room.{zeros}
use Rattle.verdict.specs.Found.{values_of, sound_found, trapped_found}
use Rattle.verdict.proofs.Buffer.{written_front}
use Rattle.search.specs.Lent.{Lent, Searched, room_of, system_of, cleared, traced}
use Rattle.search.specs.Inner.Computed.{search_answer}
use Rattle.demands.specs.Searching.{Fit, SameLengths, SameScratch, search_values}
use Rattle.demands.specs.Inner.Answers.{with_entries, lists_in, ComputedAnswer}
use Rattle.demands.specs.Inner.Answers.ComputedAnswer.{is17, is20, is21, is_sound, is_trapped}
use Rattle.demands.proofs.Answers.{one_of_five, answer_is}
use Rattle.demands.proofs.Described.{lists_right}
use Rattle.demands.proofs.NeverFires.{lists_only}
use Rattle.demands.proofs.SearchLaws.{fit_cases}

-- Lent memory with the same room, and trace buffers of one length: the answers differ at most in
-- how long the lists are, in what 17 leaves, and in the trace buffer behind the trace.
module _ (table : Table) (one other : Lent) (room : room_of one ≡ room_of other)
    (buffer : length one.trace ≡ length other.trace) where
  record SameAnswer (a : Searched) : Type 0 where
    found : a.found ≡ (search_answer table other).found
    front : take (values_of a.found).length a.lent.trace
        ≡ take (values_of a.found).length (search_answer table other).lent.trace
    scratch : SameLengths one other → table_valid table ≡ true
        → SameScratch a.lent (search_answer table other).lent

  same_answer : {a b : Searched} → ComputedAnswer table other b → a.found ≡ b.found
      → take (values_of a.found).length a.lent.trace
      ≡ take (values_of a.found).length b.lent.trace
      → (SameLengths one other → table_valid table ≡ true → SameScratch a.lent b.lent)
      → SameAnswer a
  same_answer is found front scratch =
      let same = answer_is table other is in
      record {
        found = rw same found;
        front = rw same front;
        scratch = λ lengths passes. rw same (scratch lengths passes);
      }

  same_fit : {n : ℕ} → Fit table one n → Fit table other n
  same_fit f = record { passes = f.passes; count = f.count; room = rw room at f.room }

  same_cleared : SameLengths one other → SameScratch (cleared one) (cleared other)
  same_cleared lengths = record { states = rw lengths.states; lost = rw lengths.lost }

  same_entries : SameLengths one other
      → SameScratch (with_entries table one) (with_entries table other)
  same_entries lengths =
      record { states = rw (room, lengths.states); lost = rw (room, lengths.lost) }

  other_answer : {a : Searched} → ComputedAnswer table one a → SameAnswer a
  other_answer (is17 p) =
      same_answer (is17 p) refl refl (λ lengths q. absurd (true≢false (sym q ∙ p)))
  other_answer (is20 p m) =
      same_answer (is20 p (rw room at m)) refl refl (λ lengths q. same_cleared lengths)
  other_answer (is21 f t l) =
      same_answer (is21 (same_fit f) t (omega (arith, buffer))) refl refl
      (λ lengths q. same_entries lengths)
  other_answer (is_sound f s) =
      same_answer (is_sound (same_fit f) s) (rw room) refl (λ lengths q. same_entries lengths)
  other_answer (is_trapped {w = w} f t l) =
      let fits : length w ≤ length other.trace = omega (arith, buffer) in
      same_answer (is_trapped (same_fit f) t fits) (rw room)
      (written_front w one.trace l ∙ sym (written_front w other.trace fits))
      (λ lengths q.
      let same = same_entries lengths in record { states = same.states; lost = same.lost })

  pub room_chooses : (search_answer table one).found ≡ (search_answer table other).found
  room_chooses = (other_answer (one_of_five table one)).found

  pub room_shows : take (search_values table one).length (search_answer table one).lent.trace
      ≡ take (search_values table one).length (search_answer table other).lent.trace
  room_shows = (other_answer (one_of_five table one)).front

  same_lists_held : SameLengths one other → table_valid table ≡ true
      → SameScratch (search_answer table one).lent (search_answer table other).lent
  same_lists_held = (other_answer (one_of_five table one)).scratch

-- So it is with lists of the same lengths.
module _ (table : Table) (one other : Lent) (lengths : SameLengths one other) where
  same_room : room_of one ≡ room_of other
  unfolding room_of
  same_room = rw (lengths.states, lengths.lost)

  pub same_found : (search_answer table one).found ≡ (search_answer table other).found
  same_found = room_chooses table one other same_room lengths.trace

  pub same_scratch : table_valid table ≡ true
      → SameScratch (search_answer table one).lent (search_answer table other).lent
  same_scratch = same_lists_held table one other same_room lengths.trace lengths

-- The index is all 0 afterwards, or as it was.
module _ (table : Table) (lent : Lent) where
  pub index_emptied : table_valid table ≡ true
      → (search_answer table lent).lent.index ≡ zeros lent.index
  index_emptied passes = go (one_of_five table lent)
    where
      go : {a : Searched} → ComputedAnswer table lent a → a.lent.index ≡ zeros lent.index
      go (is17 p) = absurd (true≢false (sym passes ∙ p))
      go (is20 p m) = refl
      go (is21 f t l) = refl
      go (is_sound f s) = refl
      go (is_trapped f t l) = refl

-- Tables with the same signals and rows, and lent memory that holds the entries and the trace.
module _ (one other : Table) (lent held : Lent) (n : ℕ) (fit : Fit one lent n)
    (passes : table_valid other ≡ true) (signals : one.signals ≡ other.signals)
    (rows : rows_of one ≡ rows_of other) (room : n ≤ room_of held)
    (short : (w : List ℕ) (k : ℕ) → Trapped (system_of one) w k
    → (length w ≤ length lent.trace) × (length w ≤ length held.trace)) where
  -- What the other search answers, against an answer of the one.
  record SameChoice (a : Searched) : Type 0 where
    found : a.found ≡ (search_answer other held).found
    front : take (values_of a.found).length a.lent.trace
        ≡ take (values_of a.found).length (search_answer other held).lent.trace

  other_fit : Fit other held n
  other_fit = record {
    passes = passes;
    count = rw (signals, rows) at fit.count;
    room = room;
  }

  same_lists : lists_in one lent ≡ lists_in other held
  same_lists =
      lists_only one.signals (rows_of one) (lists_in one lent) (lists_in other held)
      (lists_right one lent n fit) (rw (signals, rows) (lists_right other held n other_fit))

  sound_choice : Sound (system_of one)
      → SameChoice
      (record { found = sound_found n (lists_in one lent); lent = with_entries one lent })
  sound_choice s =
      let same = answer_is other held (is_sound other_fit (rw (signals, rows) at s)) in
      record { found = rw (same, same_lists); front = refl }

  trapped_choice : (w : List ℕ) (k : ℕ) → Trapped (system_of one) w k
      → SameChoice (record {
        found = trapped_found n (lists_in one lent) w k;
        lent = traced w (with_entries one lent);
      })
  trapped_choice w k t =
      let fits = short w k t in
      let same = answer_is other held (is_trapped other_fit (rw (signals, rows) at t) fits.1) in
      record {
        found = rw (same, same_lists);
        front = rw same (written_front w lent.trace fits.0
            ∙ sym (written_front w held.trace fits.1));
      }

  same_choice : SameChoice (search_answer one lent)
  same_choice = fit_cases one lent n fit SameChoice
      (λ w k t l. absurd (omega (arith, (short w k t).0)))
      sound_choice (λ w k t l. trapped_choice w k t)

  pub rows_choose : (search_answer one lent).found ≡ (search_answer other held).found
  rows_choose = same_choice.found

  pub rows_show : take (search_values one lent).length (search_answer one lent).lent.trace
      ≡ take (search_values one lent).length (search_answer other held).lent.trace
  rows_show = same_choice.front
