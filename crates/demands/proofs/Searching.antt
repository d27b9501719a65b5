-- What is promised of the search, each with its proof. Assumes nothing.
use Prim.Native.Nat.{ℕ, suc, ◌^◌, ◌<◌, ◌≤◌}
use mathlib.Core.Bool.{true, false}
use mathlib.Core.List.{List}
use mathlib.Core.Logic.{◌⊎◌, ◌↔◌}
use mathlib.Core.Path.{◌≡◌}
use lib.ListN.{length}
use Rattle.table.specs.Valid.{table_valid, rows_of}
use Rattle.table.specs.declared.Table.{Table}
use Rattle.traces.specs.System.{System}
use Rattle.traces.specs.Trace.{run, Unbroken, Reached}
use Rattle.traces.specs.Doomed.{Doomed}
use Rattle.traces.specs.Count.{ReachedMany}
use Rattle.traces.specs.Inner.Entries.{Entries, Finished}
use Rattle.traces.specs.Inner.Lists.{FirstLeads}
use Rattle.traces.specs.Inner.Verdicts.{Trapped, Sound}
use Rattle.traces.proofs.Lists.{predecessor_exact}
use Rattle.traces.proofs.Verdict.{trapped_not_sound}
use Rattle.step.specs.declared.Phase.{Phase}
use Rattle.successors.specs.State.{packed}
use Rattle.successors.specs.Further.Unpacked.{unpacked}
use Rattle.verdict.specs.Found.{Verdict, refused_found, sound_found, trapped_found}
use Rattle.search.specs.Lent.{Lent, room_of, system_of, cleared, traced}
use Rattle.search.specs.Inner.Computed.{search_answer}
use Rattle.search.specs.Further.Bound.{most_states}
use Rattle.demands.specs.Searching.{Dead, EarliestDead, CanGoOn, Fit, SameLengths}
use Rattle.demands.specs.Searching.{SameScratch, ScratchHeld, search_values}
use Rattle.demands.specs.Further.Doomed.{EarliestDoomed}
use Rattle.demands.specs.Inner.Answers.{with_entries, lists_in}
use Rattle.demands.specs.Inner.Answers.ComputedAnswer.{is17, is20}
use Rattle.demands.proofs.Answers.{answer_is}
use Rattle.demands.proofs.VerdictMeaning as Meaning
use Rattle.demands.proofs.SearchLaws as Laws
use Rattle.demands.proofs.Entries as Entries
use Rattle.search.proofs.Bound as Bound
use Rattle.demands.proofs.EarliestTrap as EarliestTrap
use Rattle.demands.proofs.StateNumbers as Numbers
use Rattle.demands.proofs.ScratchLaws as ScratchLaws

module _ (table : Table) (lent : Lent) where
  -- "A refusal gives number and line: .. else 0." Every list keeps its length.
  pub search_line : (search_values table lent).line ≡ 0
  search_line = (Laws.search_says table lent).line

  -- "A refused search gives no list."
  pub refused_unlisted : (number : ℕ) → (search_values table lent).number ≡ suc number
      → (search_values table lent).never ≡ 0
  refused_unlisted = (Laws.search_says table lent).none

  pub search_lengths : SameLengths lent (search_answer table lent).lent
  search_lengths = Entries.lengths_kept table lent

  -- 17: "a table value .. that no accepted file has"; "lent memory is unchanged".
  pub refused_17 : table_valid table ≡ false
      → search_answer table lent ≡ record { found = refused_found 17; lent = lent }
  refused_17 p = answer_is table lent (is17 p)

  pub says_17 : (search_values table lent).number ≡ 17 → table_valid table ≡ false
  says_17 = (Laws.search_says table lent).by_17

  -- 20: "If the states don't fit, and only then, the search says so." "20 sets all scratch to 0."
  pub refused_20 : table_valid table ≡ true → ReachedMany (system_of table) (suc (room_of lent))
      → search_answer table lent ≡ record { found = refused_found 20; lent = cleared lent }
  refused_20 p m = answer_is table lent (is20 p m)

  pub says_20 : (search_values table lent).number ≡ 20
      → ReachedMany (system_of table) (suc (room_of lent))
  says_20 = (Laws.search_says table lent).by_20

  -- The states of an accepted table fit, or they do not.
  pub fit_or_many : table_valid table ≡ true
      → ((n : ℕ) × Fit table lent n) ⊎ ReachedMany (system_of table) (suc (room_of lent))
  fit_or_many = Laws.fit_or_many table lent

  -- "The count of configurations .. never exceeds the product over the rows of 1 + Tmax + Lmax +
  -- Amax."
  pub count_most : (search_values table lent).count ≤ most_states (rows_of table)
  count_most = (Laws.search_says table lent).most

-- "A state is the phases of all rows, as one number of 64 bits": each reached state's number is one
-- of 64 bits, and gives the state back.
module _ (table : Table) (passes : table_valid table ≡ true) (phases : List Phase)
    (reached : Reached (system_of table) phases) where
  pub number_fits : packed phases < 2 ^ 64
  number_fits = Numbers.number_fits table passes phases reached

  pub number_state : unpacked (rows_of table) (packed phases) ≡ phases
  number_state = Numbers.number_state table passes phases reached

-- Demand 3. What trapped and sound mean, in the demand's own words, over any system.
module _ (X : System) where
  pub trapped_means : (w : List ℕ) (k : ℕ) → Trapped X w k ↔ EarliestDead X w k
  trapped_means w k = (Meaning.trapped_earliest X w k, Meaning.earliest_trapped X w k)

  -- An "unbroken trace" with "a number of ticks after which every extension is broken" is one into
  -- a doomed state.
  pub dead_means : (w : List ℕ) → ((k : ℕ) × Dead X w k)
      ↔ (Unbroken X w × Doomed X (run X X.start w))
  dead_means w = (
    λ d. (d.1.fine, Meaning.dead_doomed X w d.0 d.1),
    λ u. (u.1.ticks, Meaning.doomed_dead X w u.0 u.1),
  )

  pub sound_means : Sound X ↔ CanGoOn X
  sound_means = (Meaning.sound_goes_on X, Meaning.goes_on_sound X)

  pub never_both : (w : List ℕ) (k : ℕ) → Trapped X w k → Sound X → ⊥
  never_both = trapped_not_sound X

-- Document 02, ask 7: predecessor and letter are found "again from the states". Of all entries that
-- have a letter to a state, breaking no row, the predecessor is the first, and of its letters to
-- that state the letter is the least: so it is in the finished entries of any system.
pub predecessor_exactly : {X : System} {E : Entries X} → Finished X E → {e : ℕ} → 0 < e
    → e < E.count → (p l : ℕ) → ((E.before e ≡ p) × (E.letter e ≡ l)) ↔ FirstLeads X E e p l
predecessor_exactly = predecessor_exact

-- What `ScratchHeld` says of lists of given lengths fixes every element of them.
pub scratch_only : (table : Table) (n : ℕ) (one other : Lent) → SameLengths one other
    → ScratchHeld table n one → ScratchHeld table n other → SameScratch one other
scratch_only table n one other lengths x y = ScratchLaws.scratch_same table n x y lengths

-- "For any accepted table whose states reached by unbroken traces fit the lent scratch", n of them.
module _ (table : Table) (lent : Lent) (n : ℕ) (fit : Fit table lent n) where
  -- Sound over states, and the whole answer: "under sound the first two are 0", and the trace
  -- buffer "is unchanged". What it says of traces is `sound_exactly`.
  pub says_sound : (search_values table lent).verdict ≡ Verdict.says_sound → Sound (system_of table)
  says_sound = (Laws.search_says table lent).by_sound

  pub sound_answer : Sound (system_of table)
      → search_answer table lent
      ≡ record { found = sound_found n (lists_in table lent); lent = with_entries table lent }
  sound_answer = Laws.sound_answer table lent n fit

  -- Trapped, and 21: there is a trap, and its trace fits the buffer or does not. The whole answer
  -- is `trapped_answer` and `refused_21` below.
  pub says_trapped : (search_values table lent).verdict ≡ Verdict.says_trapped
      → (w : List ℕ) × (k : ℕ) × Trapped (system_of table) w k × (length w ≤ length lent.trace)
  says_trapped = (Laws.search_says table lent).by_trapped

  pub says_21 : (search_values table lent).number ≡ 21
      → (w : List ℕ) × (k : ℕ) × Trapped (system_of table) w k × (length lent.trace < length w)
  says_21 = (Laws.search_says table lent).by_21

  -- The scratch under a verdict, and under 21: the columns of the entries; and what each place
  -- holds.
  pub scratch_columns : SameScratch (search_answer table lent).lent (with_entries table lent)
  scratch_columns = Laws.scratch_is table lent n fit

  pub scratch_held : ScratchHeld table n (search_answer table lent).lent
  scratch_held = Entries.scratch_held table lent n fit (search_answer table lent).lent
      scratch_columns

  -- "If any entry is doomed the verdict is trapped with the earliest doomed entry's trace."
  pub earliest_doomed : (w : List ℕ) (k : ℕ) → Trapped (system_of table) w k
      → EarliestDoomed n scratch_held.trace (search_answer table lent).lent.lost w k
  earliest_doomed =
      EarliestTrap.earliest_doomed table n (search_answer table lent).lent scratch_held

  module _ (w : List ℕ) (k : ℕ) (trapped : Trapped (system_of table) w k) where
    -- "The trace buffer holds it from the front, the rest unchanged."
    pub trapped_answer : length w ≤ length lent.trace
        → search_answer table lent ≡ record {
          found = trapped_found n (lists_in table lent) w k;
          lent = traced w (with_entries table lent);
        }
    trapped_answer = Laws.trapped_answer table lent n fit w k trapped

    pub shown_exactly : ((search_values table lent).verdict ≡ Verdict.says_trapped)
        ↔ (length w ≤ length lent.trace)
    shown_exactly = Laws.shown_exactly table lent n fit w k trapped

    -- A buffer as long as the room holds every trace that is shown.
    pub trace_low : length w < n
    trace_low = Bound.trace_low table fit.count trapped

    -- "A trapped table is refused instead exactly when that trace is longer than its buffer."
    pub refused_21 : length lent.trace < length w
        → search_answer table lent
        ≡ record { found = refused_found 21; lent = with_entries table lent }
    refused_21 = Laws.refused_answer table lent n fit w k trapped

    pub refused_exactly : ((search_values table lent).number ≡ 21)
        ↔ (length lent.trace < length w)
    refused_exactly = Laws.refused_exactly table lent n fit w k trapped
