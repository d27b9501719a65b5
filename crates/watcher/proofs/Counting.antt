-- What is counted tick by tick is how often each event happens. Assumes nothing.
use Prim.Native.Nat.{ℕ, zero, suc, ◌+◌, ◌<◌, ◌≤◌}
use native.Mathlib.Decide.{dec_lt}
use native.Mathlib.Nat.{zero-add}
use native.Mathlib.Omega.{arith}
use mathlib.Core.List.{List, [], ◌∷◌, ◌++◌}
use mathlib.Core.Path.{◌≡◌, refl, sym, ap, ◌∙◌}
use lib.ListN.{length, get_or, length-replicate, get_or-replicate}
use lib.ListN.{get_or-eq_default}
use lib.Seq.{ext_get_or}
use Rattle.table.specs.Limits.{most_rows}
use Rattle.letters.specs.Letter.{bit}
use Rattle.table.specs.declared.Row.{Row}
use Rattle.traces.specs.Trace.{run}
use Rattle.step.specs.declared.Phase.{Phase}
use Rattle.step.specs.declared.Events.{Events}
use Rattle.step.specs.Tick.{tick, table_system}
use Rattle.step.specs.Events.{no_events, tick_events, trace_events, Event, happens, times_of}
use Rattle.step.proofs.RowEvents.{times_few}
use Rattle.watcher.specs.declared.Counts.{Counts}
use Rattle.watcher.specs.Counts.{count_of, no_counts}
use Rattle.watcher.specs.Inner.Counts.{add_events, add_all, counts_over}
use Rattle.watcher.specs.Inner.Tables.{zero_counts}

-- One tick's events are added to each count.
added_count : (counts : Counts) (events : Events) (event : Event)
    → count_of (add_events counts events) event ≡ count_of counts event + bit (happens events event)
added_count counts events Event.started = refl
added_count counts events Event.realised = refl
added_count counts events Event.aborted = refl
added_count counts events Event.acting = refl
added_count counts events Event.completed = refl
added_count counts events Event.broken = refl

no_count : (event : Event) → count_of no_counts event ≡ 0
no_count Event.started = refl
no_count Event.realised = refl
no_count Event.aborted = refl
no_count Event.acting = refl
no_count Event.completed = refl
no_count Event.broken = refl

no_event : (event : Event) → bit (happens no_events event) ≡ 0
no_event Event.started = refl
no_event Event.realised = refl
no_event Event.aborted = refl
no_event Event.acting = refl
no_event Event.completed = refl
no_event Event.broken = refl

pub added_length : (all : List Counts) (events : List Events)
    → length (add_all all events) ≡ length all
unfolding add_all
added_length [] events = refl
added_length (counts ∷ all) [] = refl
added_length (counts ∷ all) (e ∷ events) = ap suc (added_length all events)

added_place : (all : List Counts) (events : List Events) (i : ℕ) → i < length all
    → i < length events
    → get_or (add_all all events) i no_counts
    ≡ add_events (get_or all i no_counts) (get_or events i no_events)
unfolding add_all
added_place [] events i h k = absurd (omega arith)
added_place (counts ∷ all) [] i h k = absurd (omega arith)
added_place (counts ∷ all) (e ∷ events) zero h k = refl
added_place (counts ∷ all) (e ∷ events) (suc i) h k =
    added_place all events i (omega arith) (omega arith)

-- The counts of row j with one tick's events more. A list of all of them has been added to.
abbrev pub added_at : List Counts → List Events → ℕ → Counts
added_at counts events j = add_events (get_or counts j no_counts) (get_or events j no_events)

pub added_over : (counts : List Counts) (events : List Events) (all : List Counts)
    → length all ≡ length counts → length counts ≡ most_rows → length events ≡ most_rows
    → ((j : ℕ) → j < most_rows → get_or all j no_counts ≡ added_at counts events j)
    → all ≡ add_all counts events
added_over counts events all long c e are =
    ext_get_or no_counts all (add_all counts events) (long ∙ sym (added_length counts events))
    (λ j low. are j (omega arith) ∙ sym (added_place counts events j (omega arith) (omega arith)))

added_at_lem : (all : List Counts) (events : List Events) (i : ℕ) (event : Event) → i < length all
    → count_of (get_or (add_all all events) i no_counts) event
    ≡ count_of (get_or all i no_counts) event + bit (happens (get_or events i no_events) event)
unfolding add_all
added_at_lem [] events i event h = absurd (omega arith)
added_at_lem (counts ∷ all) [] i event h =
    let none = no_event event in omega (arith, none)
added_at_lem (counts ∷ all) (e ∷ events) zero event h = added_count counts e event
added_at_lem (counts ∷ all) (e ∷ events) (suc i) event h = added_at_lem all events i event (omega arith)

counts_at : (all : List Counts) (ticks : List (List Events)) (i : ℕ) (event : Event)
    → i < length all
    → count_of (get_or (counts_over all ticks) i no_counts) event
    ≡ count_of (get_or all i no_counts) event + times_of event i ticks
unfolding counts_over times_of
counts_at all [] i event h = omega arith
counts_at all (events ∷ ticks) i event h =
    let rest = counts_at (add_all all events) ticks i event (rw (added_length all events) h) in
    let first = added_at_lem all events i event h in
    omega (arith, rest, first)

-- From no tick on each count is how often the event happens,
pub times_counted : (ticks : List (List Events)) (i : ℕ) (event : Event) → i < most_rows
    → count_of (get_or (counts_over zero_counts ticks) i no_counts) event ≡ times_of event i ticks
times_counted ticks i event h =
    counts_at zero_counts ticks i event (rw (length-replicate {A = Counts} most_rows no_counts) h)
    ∙ ap (λ (c : Counts). count_of c event + times_of event i ticks)
    (get_or-replicate most_rows i no_counts no_counts h)
    ∙ ap (λ (k : ℕ). k + times_of event i ticks) (no_count event)
    ∙ zero-add (times_of event i ticks)

counts_length : (all : List Counts) (ticks : List (List Events))
    → length (counts_over all ticks) ≡ length all
unfolding counts_over
counts_length all [] = refl
counts_length all (events ∷ ticks) =
    counts_length (add_all all events) ticks ∙ added_length all events

-- and at most as often as there are ticks.
pub counts_few : (ticks : List (List Events)) (i : ℕ) (event : Event)
    → count_of (get_or (counts_over zero_counts ticks) i no_counts) event ≤ length ticks
counts_few ticks i event = go (dec_lt i most_rows)
  where
    long : length (counts_over zero_counts ticks) ≡ most_rows
    long = counts_length zero_counts ticks ∙ length-replicate {A = Counts} most_rows no_counts

    go : Dec (i < most_rows)
        → count_of (get_or (counts_over zero_counts ticks) i no_counts) event ≤ length ticks
    go (yes h) = rw (times_counted ticks i event h) (times_few event i ticks)
    go (no h) =
        let beyond = get_or-eq_default (counts_over zero_counts ticks) no_counts {n = i}
        (omega (arith, long)) in
        rw (beyond, no_count event) (omega arith)

-- The last tick of a trace is added last.
events_snoc : (rows : List Row) (phases : List Phase) (s : ℕ) (w : List ℕ) (l : ℕ)
    → trace_events rows phases (w ++ (l ∷ []))
    ≡ trace_events rows phases w
    ++ (tick_events rows l (run (table_system s rows) phases w) ∷ [])
unfolding trace_events run
events_snoc rows phases s [] l = refl
events_snoc rows phases s (k ∷ w) l =
    ap (λ (m : List (List Events)). tick_events rows k phases ∷ m)
    (events_snoc rows (tick rows k phases) s w l)

over_snoc : (all : List Counts) (ticks : List (List Events)) (events : List Events)
    → counts_over all (ticks ++ (events ∷ [])) ≡ add_all (counts_over all ticks) events
unfolding counts_over
over_snoc all [] events = refl
over_snoc all (first ∷ ticks) events = over_snoc (add_all all first) ticks events

pub counts_snoc : (s : ℕ) (rows : List Row) (phases : List Phase) (w : List ℕ) (l : ℕ)
    (all : List Counts)
    → counts_over all (trace_events rows phases (w ++ (l ∷ [])))
    ≡ add_all (counts_over all (trace_events rows phases w))
    (tick_events rows l (run (table_system s rows) phases w))
counts_snoc s rows phases w l all =
    ap (counts_over all) (events_snoc rows phases s w l)
    ∙ over_snoc all (trace_events rows phases w)
    (tick_events rows l (run (table_system s rows) phases w))
