-- What the promises about the search speak of.
use Rattle.std.specs.Prelude.{ℕ, suc, ◌≤◌, ◌<◌, true, false, List, [], ◌∷◌, ◌++◌, ◌⊎◌, ◌≡◌, length, get_or}
use Rattle.table.specs.Valid.{table_valid, rows_of}
use Rattle.table.specs.declared.Row.{Row}
use Rattle.table.specs.declared.Table.{Table}
use Rattle.traces.specs.System.{System}
use Rattle.traces.specs.Trace.{AllBelow, run, Unbroken, Reached}
use Rattle.traces.specs.Order.{Earlier, NotAfter}
use Rattle.traces.specs.Doomed.{Doomed, Lost}
use Rattle.traces.specs.Count.{ReachedMany, ReachedCount}
use Rattle.letters.specs.Lists.{ZeroFrom}
use Rattle.letters.specs.Sets.{IsSet}
use Rattle.step.specs.declared.Phase.{Phase}
use Rattle.step.specs.Tick.{start_phases}
use Rattle.step.specs.Fires.{Fires}
use Rattle.successors.specs.State.{packed}
use Rattle.lists.specs.Room.{zeros}
use Rattle.verdict.specs.declared.RowLists.{RowLists}
use Rattle.verdict.specs.Found.{Values, values_of, refused_found, sound_found, trapped_found}
use Rattle.search.specs.Lent.{Lent, Searched, room_of, system_of, cleared, traced}
use Rattle.search.specs.Inner.Computed.{search_answer}

-- Number and values of what a search finds.
abbrev pub search_values : Table → Lent → Values
search_values table lent = values_of (search_answer table lent).found

-- Demand 3 in its own words, over traces. "Some unbroken trace has a number of ticks after which
-- every extension is broken": w is such a trace and n such a number. "An extension of a trace by n
-- ticks is that trace and n letters more, whichever they are."
pub record Dead (X : System) (w : List ℕ) (n : ℕ) : Type 0 where
  pub fine : Unbroken X w
  pub broken : (v : List ℕ) → length v ≡ n → AllBelow X.letters v
      → X.broken (run X X.start (w ++ v)) ≡ true

-- "Trapped shows such a trace: every other such trace is longer, or as long with a larger letter
-- where the two first differ. With it goes one such number, and every other for that trace is
-- larger."
pub record EarliestDead (X : System) (w : List ℕ) (k : ℕ) : Type 0 where
  pub such : Dead X w k
  pub earliest : (v : List ℕ) (n : ℕ) → Dead X v n → NotAfter w v
  pub least : (n : ℕ) → Dead X w n → k ≤ n

-- "Every unbroken trace can go on unbroken for every number of ticks."
pub record CanGoOn (X : System) : Type 0 where
  pub on : (w : List ℕ) → Unbroken X w → (n : ℕ)
      → (v : List ℕ) × (length v ≡ n) × Unbroken X (w ++ v)

-- "An accepted table is any table value that number 17 lets by"; "the states fit if there are no
-- more different ones than the room": n of them.
pub record Fit (table : Table) (lent : Lent) (n : ℕ) : Type 0 where
  pub passes : table_valid table ≡ true
  pub count : ReachedCount (system_of table) n
  pub room : n ≤ room_of lent

-- Document 02, ask 2: "List, in file order, each row whose trigger is realised in no unbroken
-- trace, and no other": bit i of the set is row i + 1.
pub record RightLists (s : ℕ) (rows : List Row) (lists : RowLists) : Type 0 where
  pub never : IsSet (length rows) (λ i. Fires s rows i → ⊥) lists.never

-- Lent memory of the same size, whatever it holds.
pub record SameLengths (one other : Lent) : Type 0 where
  pub states : length one.states ≡ length other.states
  pub lost : length one.lost ≡ length other.lost
  pub index : length one.index ≡ length other.index
  pub trace : length one.trace ≡ length other.trace

-- The two scratch lists hold the same.
pub record SameScratch (one other : Lent) : Type 0 where
  pub states : one.states ≡ other.states
  pub lost : one.lost ≡ other.lost

-- "The lost number (0 if not doomed)."
abbrev pub LostOrZero : (X : System) → X.State → ℕ → Type 0
LostOrZero X s n = ((n ≡ 0) × (Doomed X s → ⊥)) ⊎ Lost X s n

-- What scratch holds of entry e, with `state` and `trace` giving the states of the entries and
-- their earliest traces. Document 02, ask 7: "Scratch holds states and lost numbers in the same
-- order."
pub record EntryHeld (table : Table) (state : ℕ → List Phase) (trace : ℕ → List ℕ) (lent : Lent)
    (e : ℕ)
    : Type 0 where
  pub fine : Unbroken (system_of table) (trace e)
  pub leads : run (system_of table) (system_of table).start (trace e) ≡ state e
  pub earliest : (v : List ℕ) → Unbroken (system_of table) v
      → run (system_of table) (system_of table).start v ≡ state e → NotAfter (trace e) v
  pub number : get_or lent.states e 0 ≡ packed (state e)
  -- "Entry 0 is all waiting."
  pub first : e ≡ 0 → (trace e ≡ []) × (state e ≡ start_phases (rows_of table))
  -- "The predecessor is the state after the entry's earliest trace without its last letter, and the
  -- letter is that last one": both are found again, and stand in no list.
  pub later : 0 < e → (before : ℕ) × (letter : ℕ) × (before < e)
      × (trace e ≡ trace before ++ (letter ∷ []))
  pub lost : LostOrZero (system_of table) (state e) (get_or lent.lost e 0)

-- "States reached by unbroken traces are entered once each, in the order of their earliest trace:
-- shorter first, then by the first letter that is smaller." n entries.
pub record ScratchHeld (table : Table) (n : ℕ) (lent : Lent) : Type 0 where
  pub state : ℕ → List Phase
  pub trace : ℕ → List ℕ
  pub entry : (e : ℕ) → e < n → EntryHeld table state trace lent e
  pub every : (s : List Phase) → Reached (system_of table) s
      → (e : ℕ) × (e < n) × (state e ≡ s)
  pub once : (e f : ℕ) → e < f → f < n → state e ≡ state f → ⊥
  pub order : (e f : ℕ) → e < f → f < n → Earlier (trace e) (trace f)
  -- "Scratch beyond the entries is set to 0, to the end of each list."
  pub states_end : ZeroFrom 0 n lent.states
  pub lost_end : ZeroFrom 0 n lent.lost

-- Lent memory under a verdict, and under 21 ("21 leaves it as under a verdict"): the lists as long
-- as they were, the scratch with n entries, the index all 0, and the trace buffer as it was.
pub record Entered (table : Table) (n : ℕ) (lent held : Lent) : Type 0 where
  pub lengths : SameLengths lent held
  pub scratch : ScratchHeld table n held
  pub index : held.index ≡ zeros lent.index
  pub trace : held.trace ≡ lent.trace

-- "The search tests 17, 20, 21": all that a call can answer, and what each answer says.
pub data RightAnswer (table : Table) (lent : Lent) : Searched → Type 0 where
  is17 : table_valid table ≡ false
      → RightAnswer table lent (record { found = refused_found 17; lent = lent })
  is20 : table_valid table ≡ true → ReachedMany (system_of table) (suc (room_of lent))
      → RightAnswer table lent (record { found = refused_found 20; lent = cleared lent })
  is21 : {n k : ℕ} {w : List ℕ} {held : Lent} → Fit table lent n
      → EarliestDead (system_of table) w k
      → length lent.trace < length w → Entered table n lent held
      → RightAnswer table lent (record { found = refused_found 21; lent = held })
  is_sound : {n : ℕ} {lists : RowLists} {held : Lent} → Fit table lent n → CanGoOn (system_of table)
      → RightLists table.signals (rows_of table) lists → Entered table n lent held
      → RightAnswer table lent (record { found = sound_found n lists; lent = held })
  is_trapped : {n k : ℕ} {w : List ℕ} {lists : RowLists} {held : Lent} → Fit table lent n
      → EarliestDead (system_of table) w k → length w ≤ length lent.trace
      → RightLists table.signals (rows_of table) lists → Entered table n lent held
      → RightAnswer table lent (record { found = trapped_found n lists w k; lent = traced w held })
