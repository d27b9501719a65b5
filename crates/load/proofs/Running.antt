-- What holds while a load is run, and what it gives. Assumes nothing.
use Prim.Native.Nat.{ℕ, ◌+◌, ◌<◌, ◌≤◌}
use native.Mathlib.Decide.{dec_lt}
use native.Mathlib.Numerals.{add-one}
use native.Mathlib.Omega.{arith}
use mathlib.Core.Bool.{Bool, true, false, cond}
use mathlib.Core.List.{List, [], ◌∷◌, ◌++◌}
use mathlib.Core.Path.{◌≡◌, refl, sym, ap, ◌∙◌}
use borrow.Author.Tests.{lt-ltb, leb-true, le-leb}
use lib.Dec.{leb}
use lib.ListN.{length, get_or, replicate}
use lib.Seq.{ext_get_or}
use Rattle.letters.specs.Letter.{letters}
use Rattle.table.specs.Limits.{most_rows}
use Rattle.table.specs.Refusal.{refused_at}
use Rattle.table.specs.Row.{no_row}
use Rattle.table.specs.Valid.{rows_of, table_valid}
use Rattle.std.specs.Prelude.{Result, Ok, Err}
use Rattle.table.specs.declared.Row.{Row}
use Rattle.table.specs.declared.Table.{Table}
use Rattle.table.proofs.Laws.{table_valid_rows, rows_valid_count}
use Rattle.traces.specs.System.{System}
use Rattle.traces.specs.Trace.{run}
use Rattle.traces.proofs.Runs.{run_snoc}
use Rattle.step.specs.declared.Phase.{Phase}
use Rattle.step.specs.declared.Phase.TheVariants.{Waiting}
use Rattle.step.specs.Events.{no_events, tick_events, is_open}
use Rattle.step.specs.Tick.{tick as tick_rows, table_system}
use Rattle.step.specs.Valid.{phases_valid}
use Rattle.step.proofs.RowEvents.{events_at, events_beyond}
use Rattle.step.proofs.Rows.{tick_at, tick_beyond}
use Rattle.step.proofs.Systems.{run_at, run_beyond, run_length, run_valid}
use Rattle.pass.specs.declared.Ticked.{Ticked}
use Rattle.pass.specs.declared.Watch.{Watch}
use Rattle.pass.specs.Watch.{phases_of, start_watch}
use Rattle.pass.specs.Answer.{answered, moved_on}
use Rattle.watcher.specs.Inner.Tables.{table_tick}
use Rattle.pass.proofs.Records.{phases_watch, phase_at_lem}
use Rattle.pass.proofs.Starts.{start_valid, start_phase}
use Rattle.load.specs.declared.Ran.{Ran}
use Rattle.load.specs.Figures.{Totals}
use Rattle.load.specs.Load.{next_number, numbers_from, letter_of, load_of, no_totals}
use Rattle.load.specs.Load.{totals_over}
use Rattle.load.specs.Load.{longest_run, not_run, run_answer}
use Rattle.load.specs.Inner.Tally.{Room, AllRoom, with_tick, ticked_at, AllTicked}
use Rattle.load.proofs.Letters.{number_after, load_length, load_snoc, letter_below}
use Rattle.load.proofs.RowTotals.{totals_snoc, totals_most}
use Rattle.load.proofs.RowTotals.{over_length, over_at, over_beyond, over_none}

-- The first `tick` ticks of a run are done: the number is the one after them, the record of phases
-- too, and the totals are those of their letters.
pub record Running (table : Table) (start ticks number : ℕ) (watch : Watch)
    (totals : List Totals) (tick : ℕ) : Type 0
  where
    pub rules : table_valid table ≡ true
    pub few : ticks ≤ longest_run
    pub number_is : number ≡ number_after start tick
    pub moved : phases_of watch
        ≡ run (table_system table.signals (rows_of table)) (phases_of start_watch)
        (load_of table.signals start tick)
    pub counted : totals
        ≡ totals_over table.signals (rows_of table) (load_of table.signals start tick)

-- Number 0 lets a run by.
pub lets_by : (valid : Bool) (ticks : ℕ)
    → ◌≡◌ {A = ℕ} (cond valid (cond (leb ticks longest_run) 0 22) 17) 0
    → (valid ≡ true) × (ticks ≤ longest_run)
lets_by true ticks e = (refl, go (leb ticks longest_run) refl e)
  where
    go : (b : Bool) → leb ticks longest_run ≡ b → ◌≡◌ {A = ℕ} (cond b 0 22) 0
        → ticks ≤ longest_run
    go true few e = leb-true ticks longest_run few
    go false few e = absurd (omega arith)
lets_by false ticks e = absurd (omega arith)

-- What is said of a run whose table is valid or not, which has few ticks or not: it is taken with
-- number 0, and refused with any other.
abbrev judged : Bool → Bool → Result (Unit {0}) ℕ
judged valid few = cond valid (cond few (Ok tt) (Err 22)) (Err 17)

taken_by : (valid few : Bool) (u : Unit {0}) → judged valid few ≡ Ok u
    → ◌≡◌ {A = ℕ} (cond valid (cond few 0 22) 17) 0
taken_by true true u e = refl
taken_by true false u e = absurd (let z : ◌≡◌ {A = ℕ} 0 1 = cc in omega arith)
taken_by false few u e = absurd (let z : ◌≡◌ {A = ℕ} 0 1 = cc in omega arith)

refused_by : (valid few : Bool) (done : Ran) (number : ℕ) → judged valid few ≡ Err number
    → not_run (refused_at number 0)
    ≡ answered (cond valid (cond few 0 22) 17) done (λ n. not_run (refused_at n 0))
unfolding answered
refused_by true true done number e = absurd (let z : ◌≡◌ {A = ℕ} 0 1 = cc in omega arith)
refused_by true false done number e =
    ap (λ (n : ℕ). not_run (refused_at n 0)) (let is : ◌≡◌ {A = ℕ} number 22 = cc in is)
refused_by false few done number e =
    ap (λ (n : ℕ). not_run (refused_at n 0)) (let is : ◌≡◌ {A = ℕ} number 17 = cc in is)

pub rows_few : (table : Table) → table_valid table ≡ true → length (rows_of table) ≤ most_rows
rows_few table rules =
    (rows_valid_count table.signals (rows_of table) (table_valid_rows table rules)).1

module _ (table : Table) (start ticks : ℕ) where
  abbrev s : ℕ
  s = table.signals

  abbrev rows : List Row
  rows = rows_of table

  abbrev X : System
  X = table_system s rows

  pub running_starts : {u : Unit {0}} → judged (table_valid table) (leb ticks longest_run) ≡ Ok u
      → Running table start ticks start start_watch (replicate most_rows no_totals) 0
  unfolding number_after numbers_from run
  running_starts {u} e =
      let passed = lets_by (table_valid table) ticks
      (taken_by (table_valid table) (leb ticks longest_run) u e) in
      record {
        rules = passed.0;
        few = passed.1;
        number_is = refl;
        moved = refl;
        counted = sym (over_none s rows (rows_few table passed.0));
      }

  pub running_refused : {number : ℕ} → judged (table_valid table) (leb ticks longest_run) ≡ Err number
      → not_run (refused_at number 0) ≡ run_answer table start ticks
  unfolding run_answer
  running_refused {number} e = refused_by (table_valid table) (leb ticks longest_run) _ number e

  module _ {number : ℕ} {watch : Watch} {totals : List Totals} {tick : ℕ}
      (p : Running table start ticks number watch totals tick) where
    abbrev w : List ℕ
    w = load_of s start tick

    abbrev phases : List Phase
    phases = run X (phases_of start_watch) w

    -- No total is larger than there were ticks.
    pub running_room : tick < ticks → AllRoom totals
    running_room more j = rw p.counted (go (dec_lt j (length rows)))
      where
        go : Dec (j < length rows) → Room (get_or (totals_over s rows w) j no_totals)
        go (yes used) =
            let most = totals_most s (get_or rows j no_row) w in
            let ticked = load_length s start tick in
            rw (over_at s rows w j used) (record {
              realised = omega (arith, most.realised, ticked, p.few);
              completed = omega (arith, most.completed, ticked, p.few);
              breaks = omega (arith, most.breaks, ticked, p.few);
            })
        go (no unused) = rw (over_beyond s rows w j (omega arith)) (record {
          realised = omega arith;
          completed = omega arith;
          breaks = omega arith;
        })

    pub running_ends : ticks ≤ tick → tick ≤ ticks
        → record { outcome = Ok tt; totals = totals } ≡ run_answer table start ticks
    unfolding run_answer answered
    running_ends high low =
        let all : tick ≡ ticks = omega arith in
        rw (p.rules, le-leb ticks longest_run p.few)
        (ap (λ (t : List Totals). record { outcome = Ok tt; totals = t })
        (p.counted ∙ ap (λ (k : ℕ). totals_over s rows (load_of s start k)) all))

    -- The next tick.
    module _ (more : tick < ticks) {next letter : ℕ} {ticked : Ticked} {all : List Totals}
        (changed : next ≡ next_number number) (is : letter ≡ letter_of s next)
        (told : ticked ≡ table_tick table watch letter)
        (added : AllTicked totals ticked.reply.events ticked.watch all) where
      letter_low : letter < letters s
      letter_low = rw is (letter_below s next)

      taken : ticked ≡ moved_on rows letter watch
      unfolding table_tick answered
      taken =
          let fits : phases_valid rows (phases_of watch) ≡ true =
          rw p.moved (run_valid s rows (phases_of start_watch) w
          (start_valid rows (rows_few table p.rules))) in
          told ∙ rw (p.rules, fits, lt-ltb letter (letters s) letter_low)

      -- The phases after it, and what happened.
      after : phases_of ticked.watch ≡ tick_rows rows letter phases
      after = ap (λ (t : Ticked). phases_of t.watch) taken
          ∙ phases_watch (tick_rows rows letter (phases_of watch))
          ∙ ap (tick_rows rows letter) p.moved

      events : ticked.reply.events ≡ tick_events rows letter phases
      events = ap (λ (t : Ticked). t.reply.events) taken
          ∙ ap (tick_events rows letter) p.moved

      placed : (j : ℕ) → j < most_rows → j < length phases
      placed j low = rw (run_length s rows (phases_of start_watch) w) low

      -- The load's letters up to it.
      letters_on : load_of s start (tick + 1) ≡ w ++ (letter ∷ [])
      unfolding number_after
      letters_on =
          ap (load_of s start) (add-one tick) ∙ load_snoc s start tick
          ∙ ap (λ (l : ℕ). w ++ (l ∷ []))
          (sym (is ∙ ap (letter_of s) (changed ∙ ap next_number p.number_is)))

      -- The totals of row j then.
      ticked_at_lem : (j : ℕ) → j < most_rows
          → ticked_at totals ticked.reply.events ticked.watch j
          ≡ with_tick (get_or (totals_over s rows w) j no_totals)
          (get_or (tick_events rows letter phases) j no_events)
          (get_or (tick_rows rows letter phases) j Waiting)
      ticked_at_lem j low = rw (phase_at_lem ticked.watch j, after, events, p.counted)

      total_at : (j : ℕ) → j < most_rows → Dec (j < length rows)
          → with_tick (get_or (totals_over s rows w) j no_totals)
          (get_or (tick_events rows letter phases) j no_events)
          (get_or (tick_rows rows letter phases) j Waiting)
          ≡ get_or (totals_over s rows (w ++ (letter ∷ []))) j no_totals
      unfolding is_open
      total_at j low (yes used) =
          let row = get_or rows j no_row in
          rw (
            over_at s rows w j used,
            over_at s rows (w ++ (letter ∷ [])) j used,
            events_at rows letter phases j used (placed j low),
            tick_at rows letter phases j used (placed j low),
            run_at s rows (phases_of start_watch) w j used low,
            start_phase j,
          ) (sym (totals_snoc s row w letter))
      total_at j low (no unused) =
          let beyond : length rows ≤ j = omega arith in
          rw (
            over_beyond s rows w j beyond,
            over_beyond s rows (w ++ (letter ∷ [])) j beyond,
            events_beyond rows letter phases j beyond,
            tick_beyond rows letter phases j beyond,
            run_beyond s rows (phases_of start_watch) w j beyond,
            start_phase j,
          )

      pub running_next : Running table start ticks next ticked.watch all (tick + 1)
      unfolding number_after
      running_next = record {
        rules = p.rules;
        few = p.few;
        number_is = changed ∙ ap next_number p.number_is
            ∙ ap (number_after start) (sym (add-one tick));
        moved = after ∙ sym (run_snoc X (phases_of start_watch) w letter)
            ∙ ap (run X (phases_of start_watch)) (sym letters_on);
        counted =
            ext_get_or no_totals all (totals_over s rows (load_of s start (tick + 1)))
            (added.long ∙ sym (over_length s rows (load_of s start (tick + 1))
            (rows_few table p.rules)))
            (λ j low.
            let small : j < most_rows = rw added.long at low in
            added.are j small ∙ ticked_at_lem j small ∙ total_at j small (dec_lt j (length rows))
            ∙ ap (λ (v : List ℕ). get_or (totals_over s rows v) j no_totals) (sym letters_on));
      }
