-- The scratch under a verdict, or under 21: the entries. Assumes nothing.
use Prim.Native.Nat.{ℕ, ◌≤◌, ◌<◌}
use native.Mathlib.Decide.{ℕ_discrete}
use native.Mathlib.Omega.{arith}
use mathlib.Core.List.{List}
use mathlib.Core.Logic.◌⊎◌.{inl, inr}
use mathlib.Core.Path.{◌≡◌, refl, sym, ap, ◌∙◌}
use lib.ListN.{length, get_or, length-replicate}
use Rattle.table.specs.declared.Table.{Table}
use Rattle.traces.specs.System.{System}
use Rattle.traces.specs.Inner.Lawful.{Lawful}
use Rattle.traces.specs.Inner.Entries.{Entries, trace_of, Finished}
use Rattle.traces.specs.Inner.Explore.{Entry, listed, entry_at}
use Rattle.traces.specs.Inner.Least.{lost_within}
use Rattle.traces.specs.Inner.Lists.{column}
use Rattle.letters.specs.Lists.{ZeroFrom}
use Rattle.traces.specs.Inner.Numbers.{LostNumbers}
use Rattle.traces.proofs.Doomed.{lives_not_doomed}
use Rattle.traces.proofs.Back.{trace_zero}
use Rattle.traces.proofs.Count.{count_unique}
use Rattle.traces.proofs.Explore.{explore_finished, explore_fits, explore_count}
use Rattle.traces.proofs.Explored.{entry_leads, entry_step, entry_order, entry_earliest}
use Rattle.traces.proofs.Explored.{reached_entry, entries_closed}
use Rattle.traces.proofs.LostNumbers.{losts_computed}
use Rattle.traces.proofs.Scratch.{column_length, column_at, column_beyond}
use Rattle.search.specs.Inner.Same.{same_phases}
use Rattle.successors.specs.State.{packed}
use Rattle.lists.specs.Room.{zeros}
use Rattle.verdict.proofs.Buffer.{written_length}
use Rattle.search.specs.Lent.{Lent, Searched, room_of, system_of}
use Rattle.search.specs.Inner.Computed.{entries_within, search_answer}
use Rattle.search.proofs.Room.{room_states, room_lost}
use Rattle.demands.specs.Searching.{Fit, SameLengths, SameScratch, LostOrZero, EntryHeld}
use Rattle.demands.specs.Searching.{ScratchHeld}
use Rattle.demands.specs.Inner.Answers.{with_entries, ComputedAnswer}
use Rattle.demands.specs.Inner.Answers.ComputedAnswer.{is17, is20, is21, is_sound, is_trapped}
use Rattle.demands.proofs.Answers.{system_lawful, phases_differ, one_of_five}

-- The lost number computed for a finished entry: 0 if it is not doomed.
number_lost : (X : System) (law : Lawful X) (E : Entries X) → Finished X E → (e : ℕ)
    → e < E.count → LostOrZero X (E.state e) (lost_within X E.count (E.state e))
number_lost X law E x e h = go (ℕ_discrete (lost_within X E.count (E.state e)) 0)
  where
    computed : LostNumbers X E.count E.state (λ d. lost_within X E.count (E.state d))
    computed = losts_computed X law E.count E.state (entries_closed X law E x)

    go : Dec (lost_within X E.count (E.state e) ≡ 0)
        → LostOrZero X (E.state e) (lost_within X E.count (E.state e))
    go (yes z) = inl (z, lives_not_doomed X (E.state e) (computed.lives e h z))
    go (no z) = inr (computed.doomed e h (omega arith))

-- The entries that the search makes.
abbrev entries_in : (table : Table) → Lent → Entries (system_of table)
entries_in table lent = listed (system_of table) (entries_within (room_of lent) table)

module _ (table : Table) (lent : Lent) (n : ℕ) (fit : Fit table lent n) where
  -- All reached states are entered, n of them.
  pub few : (entries_in table lent).count ≤ room_of lent
  few = explore_fits (system_of table) same_phases (phases_differ table) (system_lawful table) n
      (room_of lent) fit.count fit.room

  all_finished : Finished (system_of table) (entries_in table lent)
  all_finished = explore_finished (system_of table) same_phases (phases_differ table)
      (system_lawful table) (room_of lent) few

  as_many : (entries_in table lent).count ≡ n
  as_many = count_unique (system_of table) _ n
      (explore_count (system_of table) same_phases (phases_differ table) (system_lawful table)
      (room_of lent) few)
      fit.count

  -- What a list holds at an entry's place, and beyond the entries.
  module _ (f : Entry (system_of table) → ℕ) (l : List ℕ) (long : room_of lent ≤ length l) where
    place_at : (e : ℕ) → e < n → get_or (column f (length l) (entries_within (room_of lent) table)) e 0
        ≡ f (entry_at (system_of table) (entries_within (room_of lent) table) e)
    place_at e h = column_at f (length l) (entries_within (room_of lent) table)
        (omega (arith, few)) e (omega (arith, as_many))

    place_end : ZeroFrom 0 n (column f (length l) (entries_within (room_of lent) table))
    place_end e h q =
        let few = few in
        let count = as_many in
        let size = column_length f (length l) (entries_within (room_of lent) table) (omega arith) in
        column_beyond f (length l) (entries_within (room_of lent) table) (omega arith) e
        (omega arith) (omega arith)

  -- Lent memory whose scratch holds the entries.
  module _ (held : Lent) (same : SameScratch held (with_entries table lent)) where
    state_is : (e : ℕ) → e < n → get_or held.states e 0 ≡ packed ((entries_in table lent).state e)
    state_is e h = ap (λ (l : List ℕ). get_or l e 0) same.states
        ∙ place_at (λ d. packed d.state) lent.states (room_states lent) e h

    lost_is : (e : ℕ) → e < n → get_or held.lost e 0
        ≡ lost_within (system_of table) (entries_in table lent).count ((entries_in table lent).state e)
    lost_is e h = ap (λ (l : List ℕ). get_or l e 0) same.lost
        ∙ place_at
        (λ d. lost_within (system_of table) (entries_in table lent).count d.state)
        lent.lost (room_lost lent) e h

    entry_held : (e : ℕ) → e < n
        → EntryHeld table (entries_in table lent).state (trace_of (entries_in table lent)) held e
    entry_held e h =
        let E = entries_in table lent in
        let low : e < E.count = omega (arith, as_many) in
        let way = entry_leads (system_of table) (system_lawful table) E _ _ all_finished e low in
        record {
          fine = way.fine;
          leads = way.leads;
          earliest = entry_earliest (system_of table) (system_lawful table) E all_finished e low;
          number = state_is e h;
          first = λ z. (
            rw z (trace_zero E),
            ap E.state z ∙ all_finished.first,
          );
          later = λ z. (
            E.before e,
            E.letter e,
            all_finished.falls e z low,
            entry_step (system_of table) (system_lawful table) E _ _ all_finished e z low,
          );
          lost = rw (lost_is e h)
              (number_lost (system_of table) (system_lawful table) E all_finished e low);
        }

    pub scratch_held : ScratchHeld table n held
    scratch_held =
        let E = entries_in table lent in
        let reached = reached_entry (system_of table) (system_lawful table) E all_finished in
        record {
          state = E.state;
          trace = trace_of E;
          entry = entry_held;
          every = λ s r. (
            (reached s r).0,
            omega (arith, (reached s r).1, as_many),
            (reached s r).2,
          );
          once = λ e f h q. all_finished.different e f h (omega (arith, as_many));
          order = λ e f h q.
              entry_order (system_of table) (system_lawful table) E _ _ all_finished f e h
              (omega (arith, as_many));
          states_end = rw same.states
              (place_end (λ d. packed d.state) lent.states (room_states lent));
          lost_end = rw same.lost
              (place_end
              (λ d. lost_within (system_of table) E.count d.state)
              lent.lost (room_lost lent));
        }

-- Every answer leaves the lists as long as they were.
zeroed : (l : List ℕ) → length l ≡ length (zeros l)
zeroed l = sym (length-replicate (length l) 0)

module _ (table : Table) (lent : Lent) where
  pub filled_lengths : (n : ℕ) → Fit table lent n → SameLengths lent (with_entries table lent)
  filled_lengths n fit =
      let low = few table lent n fit in
      record {
        states = sym (column_length (λ d. packed d.state) (length lent.states)
            (entries_within (room_of lent) table) (omega (arith, room_states lent)));
        lost = sym (column_length
            (λ d. lost_within (system_of table) (entries_in table lent).count d.state)
            (length lent.lost) (entries_within (room_of lent) table)
            (omega (arith, room_lost lent)));
        index = zeroed lent.index;
        trace = refl;
      }

  pub lengths_kept : SameLengths lent (search_answer table lent).lent
  lengths_kept = go (one_of_five table lent)
    where
      go : {a : Searched} → ComputedAnswer table lent a → SameLengths lent a.lent
      go (is17 p) =
          record { states = refl; lost = refl; index = refl; trace = refl }
      go (is20 p m) = record {
        states = zeroed lent.states;
        lost = zeroed lent.lost;
        index = zeroed lent.index;
        trace = refl;
      }
      go (is21 f t l) = filled_lengths _ f
      go (is_sound f s) = filled_lengths _ f
      go (is_trapped {w = w} f t l) =
          let s = filled_lengths _ f in
          record {
            states = s.states;
            lost = s.lost;
            index = s.index;
            trace = sym (written_length w lent.trace l);
          }
