-- The starred cases of "First boards", by computation over the definitions. Assumes nothing.
use Prim.Native.Nat.{ℕ, ◌≤◌, ◌<◌}
use native.Mathlib.Omega.{arith}
use mathlib.Core.Bool.{true, false≢true, ◌&&◌}
use mathlib.Core.List.{List, [], ◌∷◌}
use mathlib.Core.Path.{◌≡◌, refl, ◌∙◌}
use borrow.Author.Tests.{eqb-true, le-leb}
use lib.Dec.{eqb, lit≤}
use lib.ListN.{length, get_or}
use Rattle.letters.specs.Letter.{bit_at, set_of}
use Rattle.letters.specs.Lists.{every, some, same_bytes}
use Rattle.letters.proofs.Lists.{and_left, and_right, every_at, same_bytes_true}
use Rattle.text.specs.Lines.{All}
use Rattle.text.specs.Lines.All.{none, and}
use Rattle.table.specs.Valid.{table_valid, rows_of}
use Rattle.table.specs.declared.Row.{Row}
use Rattle.table.specs.declared.Table.{Table}
use Rattle.traces.specs.System.{System}
use Rattle.traces.specs.Trace.{run}
use Rattle.traces.specs.Inner.Entries.{back, trace_of}
use Rattle.traces.specs.Inner.Explore.{has, enter, visit, explore}
use Rattle.traces.specs.Inner.Passing.{some_below, some_passes}
use Rattle.traces.specs.Inner.Least.{pass_below, breaks_in, lost_within}
use Rattle.traces.specs.Inner.Judgement.{Judgement, RightJudgement, verdict_from, judge}
use Rattle.traces.specs.Inner.Judgement.Judgement.{too_many, sound, trapped}
use Rattle.traces.specs.Inner.Judgement.RightJudgement.{sound_right, trapped_right}
use Rattle.traces.proofs.Explore.{explore_fits}
use Rattle.traces.proofs.Judgement.{judge_right}
use Rattle.step.specs.Phase.{code_of, is_broken}
use Rattle.step.specs.Step.{action_check, delay_check, trigger_check, start_check, step_row}
use Rattle.step.specs.Events.{action_events, delay_events, trigger_events, start_events, row_events}
use Rattle.step.specs.Events.{tick_events, trace_events}
use Rattle.step.specs.Valid.{phase_valid, is_waiting, phases_valid}
use Rattle.step.specs.Inner.Firing.{fires_at}
use Rattle.step.specs.Tick.{tick, table_system}
use Rattle.step.proofs.Systems.{table_lawful}
use Rattle.pass.specs.Answer.{answered}
use Rattle.pass.specs.Watch.{start_watch}
use Rattle.watcher.specs.Inner.Counts.{add_all, counts_over}
use Rattle.watcher.specs.Inner.Tables.{table_play}
use Rattle.search.specs.Inner.Same.{kind_of, elapsed, same_phase, same_phases}
use Rattle.verdict.specs.Found.{sound_found, trapped_found}
use Rattle.search.specs.Lent.{Lent, room_of, system_of, traced}
use Rattle.search.specs.Inner.Computed.{never_within, judged, search_answer}
use Rattle.search.proofs.Same.{phases_decided}
use Rattle.demands.specs.Examples.Cases.{P, Case, CaseMeans, trapped_with, is_right, starred}
use Rattle.demands.specs.Examples.Cases.{report, delayed, EventCaseMeans, event_cases}
use Rattle.demands.specs.Examples.Cases.{no_rows, ListCaseMeans, list_cases, pressed_case}
use Rattle.demands.specs.Examples.Cases.{played_rows, played_trace, played_counts}
use Rattle.demands.specs.Examples.Cases.Case.{after, traps}
use Rattle.demands.specs.Inner.Answers.{with_entries, lists_in}
use Rattle.demands.specs.Searching.{Fit, RightLists}
use Rattle.demands.specs.Inner.Answers.ComputedAnswer.{is_sound}
use Rattle.demands.proofs.Answers.{answer_is, right_judged}
use Rattle.demands.proofs.Described.{entries_entered, lists_right}
use Rattle.demands.proofs.NeverFires.{never_right, lists_only}

pub starred_right : every is_right starred ≡ true
unfolding every is_right starred run code_of step_row start_check trigger_check delay_check action_check
    bit_at set_of trapped_with judge verdict_from lost_within breaks_in pass_below trace_of back explore
    visit enter has same_phases same_phase kind_of elapsed tick some is_broken same_bytes never_within
    some_passes some_below fires_at tick_events row_events start_events trigger_events delay_events
    action_events
starred_right = refl

-- What is computed with enough room is right; and so the lists of the cases of asks 2 and 4.
pub computed_right : (rows : List Row) (room never : ℕ)
    → length (explore (table_system 2 rows) same_phases room) ≤ room
    → never_within room 2 rows ≡ never → RightLists 2 rows (record { never = never })
computed_right rows room never few is = rw is at (never_right 2 rows room few)

pub lists_worked : All ListCaseMeans list_cases
unfolding list_cases run code_of step_row start_check trigger_check delay_check action_check bit_at set_of
    explore visit enter has same_phases same_phase kind_of elapsed tick some is_broken never_within
    some_passes some_below fires_at tick_events row_events start_events trigger_events delay_events
    action_events
lists_worked =
    and (computed_right _ 8 _ (lit≤ tt) refl) (and (computed_right _ 8 _ (lit≤ tt) refl)
    (and (computed_right _ 8 _ (lit≤ tt) refl) (and (computed_right _ 8 _ (lit≤ tt) refl)
    (and (computed_right _ 8 _ (lit≤ tt) refl) (and (computed_right _ 8 _ (lit≤ tt) refl)
    (and (computed_right _ 8 _ (lit≤ tt) refl) (and (computed_right _ 8 _ (lit≤ tt) refl)
    none)))))))

-- What happened in the cases of asks 1 and 4.
pub events_worked : All EventCaseMeans event_cases
unfolding event_cases run code_of step_row start_check trigger_check delay_check action_check bit_at set_of
    row_events start_events trigger_events delay_events action_events
events_worked =
    and (refl, refl) (and (refl, refl) (and (refl, refl) (and (refl, refl) (and (refl, refl)
    (and (refl, refl) (and (refl, refl) (and (refl, refl) (and (refl, refl) (and (refl, refl)
    (and (refl, refl) (and (refl, refl) (and (refl, refl) (and (refl, refl) (and (refl, refl)
    none))))))))))))))

-- How often each of it happened.
pub counts_worked : (table : Table) → table_valid table ≡ true → table.signals ≡ 2
    → rows_of table ≡ played_rows → (table_play table start_watch played_trace).counts ≡ played_counts
unfolding table_play answered phases_valid phase_valid is_waiting every counts_over add_all trace_events tick_events row_events
    start_events trigger_events delay_events action_events tick step_row start_check trigger_check
    delay_check action_check bit_at set_of
counts_worked table passes signals is = rw (passes, signals, is)

-- The test of an answer tells what it is.
trapped_is : (w : List ℕ) (k n : ℕ) (r : Judgement) → trapped_with w k n r ≡ true → r ≡ trapped n w k
unfolding trapped_with
trapped_is w k n too_many h = absurd (false≢true h)
trapped_is w k n (sound m) h = absurd (false≢true h)
trapped_is w k n (trapped m v j) h =
    let front = and_left (same_bytes v w && eqb j k) (eqb m n) h in
    let trace = same_bytes_true v w (and_left (same_bytes v w) (eqb j k) front) in
    let ticks = eqb-true j k (and_right (same_bytes v w) (eqb j k) front) in
    let count = eqb-true m n (and_right (same_bytes v w && eqb j k) (eqb m n) h) in
    cc

-- What is right of a trapped table stays right at every room that holds the states.
trapped_room : (X : System) (room other : ℕ) (w : List ℕ) (k n : ℕ) → n ≤ other
    → RightJudgement X room (trapped n w k) → RightJudgement X other (trapped n w k)
trapped_room X room other w k n h (trapped_right c q t) = trapped_right c h t

-- The two parts of the test.
table_traps : (rows : List Row) (w : List ℕ) (k n : ℕ) → is_right (traps rows w k n) ≡ true
    → trapped_with w k n (judge (table_system 2 rows) same_phases 8) ≡ true
unfolding is_right
table_traps rows w k n h =
    and_left (trapped_with w k n (judge (table_system 2 rows) same_phases 8)) _ h

table_never : (rows : List Row) (w : List ℕ) (k n : ℕ) → is_right (traps rows w k n) ≡ true
    → never_within 8 2 rows ≡ 0
unfolding is_right
table_never rows w k n h = eqb-true (never_within 8 2 rows) 0
    (and_right (trapped_with w k n (judge (table_system 2 rows) same_phases 8)) _ h)

at_eight : (rows : List Row) (w : List ℕ) (k n : ℕ) → is_right (traps rows w k n) ≡ true
    → RightJudgement (table_system 2 rows) 8 (trapped n w k)
at_eight rows w k n h =
    let X = table_system 2 rows in
    rw (trapped_is w k n (judge X same_phases 8) (table_traps rows w k n h)) at
    (judge_right X 8 (table_lawful 2 rows) same_phases (phases_decided 2 rows))

few_at_eight : (rows : List Row) (w : List ℕ) (k n : ℕ) → is_right (traps rows w k n) ≡ true
    → length (explore (table_system 2 rows) same_phases 8) ≤ 8
few_at_eight rows w k n h = go (at_eight rows w k n h)
  where
    go : RightJudgement (table_system 2 rows) 8 (trapped n w k)
        → length (explore (table_system 2 rows) same_phases 8) ≤ 8
    go (trapped_right c low t) =
        explore_fits (table_system 2 rows) same_phases (phases_decided 2 rows) (table_lawful 2 rows) n
        8 c low

table_right : (rows : List Row) (w : List ℕ) (k n : ℕ) → is_right (traps rows w k n) ≡ true
    → (room : ℕ) → n ≤ room → RightJudgement (table_system 2 rows) room (trapped n w k)
table_right rows w k n h room fits =
    let X = table_system 2 rows in
    trapped_room X 8 room w k n fits (at_eight rows w k n h)

-- The whole answer, with the scratch computed.
module _ (rows : List Row) (w : List ℕ) (k n : ℕ) (h : is_right (traps rows w k n) ≡ true)
    (table : Table) (lent : Lent) (passes : table_valid table ≡ true) (signals : table.signals ≡ 2)
    (is : rows_of table ≡ rows) (room : n ≤ room_of lent) where
  rightly : RightJudgement (system_of table) (room_of lent) (trapped n w k)
  rightly = rw (signals, is) (table_right rows w k n h (room_of lent) room)

  fit : Fit table lent n
  fit = go rightly
    where
      go : RightJudgement (system_of table) (room_of lent) (trapped n w k) → Fit table lent n
      go (trapped_right c low t) = record { passes = passes; count = c; room = low }

  lists_are : lists_in table lent ≡ no_rows
  lists_are =
      lists_only table.signals (rows_of table) (lists_in table lent) no_rows
      (lists_right table lent n fit) (rw (signals, is)
      (computed_right rows 8 0 (few_at_eight rows w k n h) (table_never rows w k n h)))

  table_is : length w ≤ length lent.trace
      → search_answer table lent
      ≡ record { found = trapped_found n no_rows w k; lent = traced w (with_entries table lent) }
  unfolding judged
  table_is short = right_judged table lent passes (trapped n w k) rightly
      ∙ rw (le-leb (length w) (length lent.trace) short, lists_are)

table_means : (rows : List Row) (w : List ℕ) (k n : ℕ) → is_right (traps rows w k n) ≡ true
    → CaseMeans (traps rows w k n)
table_means rows w k n h table lent passes signals is room short = (
  with_entries table lent,
  entries_entered table lent n (fit rows w k n h table lent passes signals is room),
  table_is rows w k n h table lent passes signals is room short,
)

-- The whole answer for a sound table, by what is computed of its rows at a room of 8.
module _ (rows : List Row) (n never : ℕ) (answers : judge (table_system 2 rows) same_phases 8 ≡ sound n)
    (right : RightLists 2 rows (record { never = never })) (table : Table) (lent : Lent)
    (passes : table_valid table ≡ true) (signals : table.signals ≡ 2) (is : rows_of table ≡ rows)
    (room : n ≤ room_of lent) where
  sound_at_eight : RightJudgement (table_system 2 rows) 8 (sound n)
  sound_at_eight =
      rw answers at
      (judge_right (table_system 2 rows) 8 (table_lawful 2 rows) same_phases (phases_decided 2 rows))

  pub sound_fit : Fit table lent n
  sound_fit = go sound_at_eight
    where
      go : RightJudgement (table_system 2 rows) 8 (sound n) → Fit table lent n
      go (sound_right c low s) =
          record { passes = passes; count = rw (signals, is) c; room = room }

  pub sound_is : search_answer table lent
      ≡ record { found = sound_found n (record { never = never }); lent = with_entries table lent }
  sound_is = go sound_at_eight
    where
      go : RightJudgement (table_system 2 rows) 8 (sound n) → search_answer table lent
          ≡ record { found = sound_found n (record { never = never }); lent = with_entries table lent }
      go (sound_right c low s) =
          answer_is table lent (is_sound sound_fit (rw (signals, is) s))
          ∙ rw (lists_only table.signals (rows_of table) (lists_in table lent)
          (record { never = never }) (lists_right table lent n sound_fit) (rw (signals, is) right))

pub right_means : (case : Case) → is_right case ≡ true → CaseMeans case
unfolding is_right
right_means (after row letters code) h = eqb-true _ code h
right_means (traps rows w k n) h = table_means rows w k n h

-- So each starred case holds, and of a table it holds at every room that holds the states.
pub starred_means : (i : ℕ) → i < length starred → CaseMeans (get_or starred i (after P [] 0))
starred_means i h = right_means _ (every_at is_right starred i (after P [] 0) starred_right h)

-- The table of ask 4.
pressed_right : is_right pressed_case ≡ true
unfolding is_right run step_row start_check trigger_check delay_check action_check bit_at set_of
    trapped_with judge verdict_from lost_within breaks_in pass_below trace_of back explore visit enter
    has same_phases same_phase kind_of elapsed tick some is_broken same_bytes never_within some_passes
    some_below fires_at tick_events row_events start_events trigger_events delay_events action_events
pressed_right = refl

pub pressed_means : CaseMeans pressed_case
pressed_means = right_means pressed_case pressed_right

-- "The report's table: trapped, trace 1, lost 1, two states."
pub report_right : (room : ℕ) → 2 ≤ room
    → RightJudgement (table_system 2 report) room (trapped 2 (1 ∷ []) 1)
unfolding starred
report_right room fits =
    table_right report (1 ∷ []) 1 2 (every_at is_right starred 14 (after P [] 0) starred_right
    (omega arith)) room fits

module _ (table : Table) (lent : Lent) (passes : table_valid table ≡ true)
    (signals : table.signals ≡ 2) (short : 1 ≤ length lent.trace) where
  pub report_trapped : rows_of table ≡ report → 2 ≤ room_of lent
      → search_answer table lent ≡ record {
        found = trapped_found 2 no_rows (1 ∷ []) 1;
        lent = traced (1 ∷ []) (with_entries table lent);
      }
  unfolding starred
  report_trapped is room =
      table_is report (1 ∷ []) 1 2 (every_at is_right starred 14 (after P [] 0) starred_right
      (omega arith))
      table lent passes signals is room short

  -- "One row `a,a,a,0,0,0,3,0,0,0,0,0`: trapped, trace 1, lost 3, four states."
  pub delayed_trapped : rows_of table ≡ delayed → 4 ≤ room_of lent
      → search_answer table lent ≡ record {
        found = trapped_found 4 no_rows (1 ∷ []) 3;
        lent = traced (1 ∷ []) (with_entries table lent);
      }
  unfolding starred
  delayed_trapped is room =
      table_is delayed (1 ∷ []) 3 4 (every_at is_right starred 15 (after P [] 0) starred_right
      (omega arith))
      table lent passes signals is room short
