-- The other calls of the watcher: a tick of a table value, and a trace that is played. Assumes
-- nothing.
use Prim.Native.Nat.{ℕ, suc, ◌+◌, ◌<◌, ◌≤◌}
use native.Mathlib.Nat.{lt_of_lt_of_le}
use native.Mathlib.Omega.{arith}
use mathlib.Core.Bool.{Bool, true}
use mathlib.Core.List.{List, [], ◌∷◌}
use mathlib.Core.Path.{◌≡◌, refl, sym, ap, ap₂, ◌∙◌}
use borrow.Author.Tests.{lt-ltb}
use lib.ListN.{length, get_or}
use Rattle.letters.specs.Letter.{letters, letter_valid, bit}
use Rattle.letters.specs.Lists.{every}
use Rattle.table.specs.Limits.{most_rows}
use Rattle.table.specs.Refusal.{refused_at}
use Rattle.table.specs.Further.Numbers.{number_of, line_of}
use Rattle.table.specs.Valid.{table_valid, rows_of}
use Rattle.table.specs.declared.Row.{Row}
use Rattle.table.specs.declared.Table.{Table}
use Rattle.std.specs.Prelude.{Ok}
use Rattle.table.proofs.Laws.{table_valid_rows, rows_valid_count}
use Rattle.traces.specs.Trace.{AllBelow, run}
use Rattle.step.specs.declared.Phase.{Phase}
use Rattle.step.specs.declared.Phase.TheVariants.{Waiting}
use Rattle.step.specs.declared.Events.{Events}
use Rattle.step.specs.Events.{trace_events, Event, times_of, is_open}
use Rattle.step.specs.Tick.{tick, table_system}
use Rattle.step.proofs.RowEvents.{times_few, trace_sums}
use Rattle.step.specs.Valid.{phases_valid}
use Rattle.watcher.specs.declared.Played.{Played}
use Rattle.pass.specs.declared.Ticked.{Ticked}
use Rattle.pass.specs.declared.Watch.{Watch}
use Rattle.pass.specs.Watch.{phases_of, watch_of}
use Rattle.pass.specs.Answer.{first_number, answered, refused_with, moved_on, tick_answer}
use Rattle.watcher.specs.Counts.{count_of, no_counts}
use Rattle.watcher.specs.Inner.Tables.{table_tick, stopped_by, played_over, table_play}
use Rattle.watcher.proofs.Counting.{times_counted}
use Rattle.pass.proofs.Records.{watch_phases, phases_watch}
use Rattle.pass.proofs.Starts.{number_is, line_is, refused_is}
use Rattle.demands.specs.Watching.{record_after, events_over, CallValid}
use Rattle.demands.proofs.WatchLaws.{tick_taken, after_run, after_accepted, fits_long}

-- All letters of a trace are letters of the table.
pub letters_valid : (s : ℕ) (w : List ℕ) → AllBelow (letters s) w → every (letter_valid s) w ≡ true
unfolding every
letters_valid s [] h = refl
letters_valid s (l ∷ w) h = rw (lt-ltb l (letters s) h.0) (letters_valid s w h.1)

-- What the calls for the letters of a trace say is what the step rules give.
pub events_over_lem : (s : ℕ) (rows : List Row) (watch : Watch) (w : List ℕ) → CallValid s rows watch
    → AllBelow (letters s) w
    → events_over s rows watch w ≡ trace_events rows (phases_of watch) w
unfolding events_over trace_events record_after
events_over_lem s rows watch [] ok h = refl
events_over_lem s rows watch (l ∷ w) ok h =
    let taken = tick_taken s rows watch l ok h.0 in
    ap₂ (λ (events : List Events) (more : List (List Events)). events ∷ more)
    (ap (λ (t : Ticked). t.reply.events) taken)
    (events_over_lem s rows (tick_answer s rows watch l).watch w
    (after_accepted s rows watch (l ∷ []) ok (h.0, tt)) h.1
    ∙ ap (λ (t : Ticked). trace_events rows (phases_of t.watch) w) taken
    ∙ ap (λ (ps : List Phase). trace_events rows ps w)
    (phases_watch (tick rows l (phases_of watch))))

over_length : (s : ℕ) (rows : List Row) (watch : Watch) (w : List ℕ)
    → length (events_over s rows watch w) ≡ length w
unfolding events_over
over_length s rows watch [] = refl
over_length s rows watch (l ∷ w) = ap suc (over_length s rows (tick_answer s rows watch l).watch w)

module _ (table : Table) (watch : Watch) where
  abbrev state : Bool
  state = phases_valid (rows_of table) (phases_of watch)

  pub tick_as_rows : (l : ℕ) → table_valid table ≡ true
      → table_tick table watch l ≡ tick_answer table.signals (rows_of table) watch l
  unfolding table_tick tick_answer
  tick_as_rows l passes =
      ap (λ (b : Bool). answered (first_number b state (letter_valid table.signals l))
      (moved_on (rows_of table) l watch) (refused_with watch))
      (passes ∙ sym (table_valid_rows table passes))

  module _ (w : List ℕ) where
    abbrev stopped : ℕ → Played
    stopped n = stopped_by (refused_at n 0) watch

    abbrev first : ℕ
    first = first_number (table_valid table) state (every (letter_valid table.signals) w)

    module _ (passes : table_valid table ≡ true) (fits : state ≡ true)
        (low : AllBelow (letters table.signals) w) where
      valid : CallValid table.signals (rows_of table) watch
      valid = record { rules = table_valid_rows table passes; state = fits }

      taken : table_play table watch w ≡ played_over table watch w
      unfolding table_play answered
      taken = rw (passes, fits, letters_valid table.signals w low)

      pub play_taken : (table_play table watch w).outcome ≡ Ok tt
      play_taken = ap (λ (p : Played). p.outcome) taken

      pub play_follows : (table_play table watch w).watch
          ≡ record_after table.signals (rows_of table) watch w
      play_follows = ap (λ (p : Played). p.watch) taken
          ∙ ap watch_of (sym (after_run table.signals (rows_of table) watch w valid low))
          ∙ watch_phases (record_after table.signals (rows_of table) watch w)

      pub play_counts : (i : ℕ) → i < most_rows → (event : Event)
          → count_of (get_or (table_play table watch w).counts i no_counts) event
          ≡ times_of event i (events_over table.signals (rows_of table) watch w)
      play_counts i small event =
          ap (λ (p : Played). count_of (get_or p.counts i no_counts) event) taken
          ∙ times_counted (trace_events (rows_of table) (phases_of watch) w) i event small
          ∙ ap (times_of event i)
          (sym (events_over_lem table.signals (rows_of table) watch w valid low))

      pub play_most : (i : ℕ) → i < most_rows → (event : Event)
          → count_of (get_or (table_play table watch w).counts i no_counts) event ≤ length w
      play_most i small event =
          rw (play_counts i small event)
          (rw (over_length table.signals (rows_of table) watch w) at
          (times_few event i (events_over table.signals (rows_of table) watch w)))

      pub play_sums : (i : ℕ) → i < length (rows_of table)
          → let counts = get_or (table_play table watch w).counts i no_counts in
          counts.realised + bit (is_open (get_or (phases_of watch) i Waiting))
          ≡ counts.completed + counts.broken
          + bit (is_open (get_or (phases_of (table_play table watch w).watch) i Waiting))
      play_sums i used =
          let rows = rows_of table in
          let ticks = trace_events rows (phases_of watch) w in
          let small : i < most_rows =
          lt_of_lt_of_le used
          (rows_valid_count table.signals rows valid.rules).1 in
          let placed = lt_of_lt_of_le used (fits_long rows (phases_of watch) fits) in
          let realised = times_counted ticks i Event.realised small in
          let completed = times_counted ticks i Event.completed small in
          let broken = times_counted ticks i Event.broken small in
          rw (taken, phases_watch (run (table_system table.signals rows) (phases_of watch) w))
          (omega (
            arith,
            realised,
            completed,
            broken,
            trace_sums table.signals rows (phases_of watch) w i used placed,
          ))

    -- The first number, no line; what a refusal leaves.
    pub play_number : number_of (table_play table watch w).outcome ≡ first
    unfolding table_play
    play_number = number_is (played_over table watch w) stopped first
        (λ (p : Played). number_of p.outcome) refl (λ k. refl)

    pub play_line : line_of (table_play table watch w).outcome ≡ 0
    unfolding table_play
    play_line = line_is (played_over table watch w) stopped first
        (λ (p : Played). line_of p.outcome) refl (λ k. refl)

    pub play_refused : (n : ℕ) → number_of (table_play table watch w).outcome ≡ suc n
        → table_play table watch w ≡ stopped first
    unfolding table_play
    play_refused n e =
        refused_is (played_over table watch w) stopped first n (sym play_number ∙ e)

  module _ (l : ℕ) where
    abbrev number : ℕ
    number = first_number (table_valid table) state (letter_valid table.signals l)

    abbrev done : Ticked
    done = moved_on (rows_of table) l watch

    pub tick_number : number_of (table_tick table watch l).reply.outcome ≡ number
    unfolding table_tick
    tick_number = number_is done (refused_with watch) number
        (λ (t : Ticked). number_of t.reply.outcome) refl (λ k. refl)

    pub tick_line : line_of (table_tick table watch l).reply.outcome ≡ 0
    unfolding table_tick
    tick_line = line_is done (refused_with watch) number
        (λ (t : Ticked). line_of t.reply.outcome) refl (λ k. refl)

    pub tick_refused : (n : ℕ) → number_of (table_tick table watch l).reply.outcome ≡ suc n
        → table_tick table watch l ≡ refused_with watch number
    unfolding table_tick
    tick_refused n e = refused_is done (refused_with watch) number n (sym tick_number ∙ e)
