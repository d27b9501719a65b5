-- The answers for a table value: one tick, and a trace of them. Assumes nothing.
use Prim.Native.Nat.{ℕ, ◌+◌, ◌^◌, ◌<◌, ◌≤◌}
use native.Mathlib.Numerals.{add-one}
use native.Mathlib.Omega.{arith}
use mathlib.Core.Bool.{Bool, true, false}
use mathlib.Core.List.{List, [], ◌∷◌, ◌++◌}
use mathlib.Core.Path.{◌≡◌, refl, sym, ap, ap₂, ◌∙◌}
use borrow.Author.Tests.{lt-ltb}
use lib.ListN.{length, get_or, take}
use lib.Pow.{pow_pos}
use lib.Seq.{length-take-le, take_all, take-suc}
use Rattle.letters.specs.Letter.{letters, letter_valid}
use Rattle.letters.specs.Lists.{every}
use Rattle.letters.proofs.Lists.{every_at, every_append}
use Rattle.table.specs.Valid.{rows_of, table_valid}
use Rattle.table.specs.declared.Table.{Table}
use Rattle.table.specs.Refusal.{refused_at}
use Rattle.table.specs.Refusal.{Outcome}
use Rattle.table.specs.declared.Refusal.{Refusal}
use Rattle.table.proofs.Laws.{table_valid_rows}
use Rattle.traces.specs.System.{System}
use Rattle.traces.specs.Trace.{run}
use Rattle.traces.proofs.Runs.{run_snoc, not_both}
use Rattle.step.specs.declared.Phase.{Phase}
use Rattle.step.specs.Tick.{tick, table_system}
use Rattle.step.specs.Events.{tick_events, trace_events}
use Rattle.step.specs.Valid.{phases_valid}
use Rattle.step.proofs.RowEvents.{trace_events_lem}
use Rattle.step.proofs.Systems.{run_valid}
use Rattle.std.specs.Prelude.{Ok, Err}
use Rattle.watcher.specs.declared.Counts.{Counts}
use Rattle.watcher.specs.declared.Played.{Played}
use Rattle.pass.specs.declared.Ticked.{Ticked}
use Rattle.pass.specs.declared.Watch.{Watch}
use Rattle.pass.specs.Watch.{phases_of, watch_of}
use Rattle.pass.specs.Answer.{first_number, refused_with, answered, moved_on, tick_answer}
use Rattle.watcher.specs.Inner.Counts.{AllRoom, add_all, counts_over}
use Rattle.watcher.specs.Inner.Tables.{table_tick, zero_counts, stopped_by, played_over}
use Rattle.watcher.specs.Inner.Tables.{table_play}
use Rattle.watcher.proofs.Counting.{counts_few, counts_snoc}
use Rattle.pass.proofs.Records.{watch_phases, phases_watch}

-- A tick of the rows of a table value that number 17 lets by.
pub table_answer : (table : Table) (watch : Watch) (letter : ℕ) → table_valid table ≡ true
    → tick_answer table.signals (rows_of table) watch letter ≡ table_tick table watch letter
unfolding tick_answer table_tick
table_answer table watch letter fits =
    ap (λ (b : Bool). answered (first_number b (phases_valid (rows_of table) (phases_of watch))
    (letter_valid table.signals letter))
    (moved_on (rows_of table) letter watch) (refused_with watch))
    (table_valid_rows table fits ∙ sym fits)

pub table_refused : (table : Table) (watch : Watch) (letter : ℕ) → table_valid table ≡ false
    → refused_with watch 17 ≡ table_tick table watch letter
unfolding table_tick answered
table_refused table watch letter fails = rw fails

-- An accepted call passed all three tests, and gives what is done.
accepts : (a b c : Bool) (done : Ticked) (watch : Watch)
    → (answered (first_number a b c) done (refused_with watch)).reply.outcome ≡ Ok tt
    → (a ≡ true) × (b ≡ true) × (c ≡ true)
unfolding answered
accepts true true true done watch h = (refl, refl, refl)
accepts true true false done watch h = absurd (let z : ◌≡◌ {A = ℕ} 0 1 = cc in omega arith)
accepts true false c done watch h = absurd (let z : ◌≡◌ {A = ℕ} 0 1 = cc in omega arith)
accepts false b c done watch h = absurd (let z : ◌≡◌ {A = ℕ} 0 1 = cc in omega arith)

-- A call that was refused although its letters are right was refused for the rules or the state.
refuses_early : (a b c d : Bool) (done : Ticked) (other : Played) (watch : Watch) (r : Refusal)
    → done.reply.outcome ≡ Ok tt → c ≡ true
    → (answered (first_number a b c) done (refused_with watch)).reply.outcome ≡ Err r
    → stopped_by (Err r) watch
    ≡ answered (first_number a b d) other (λ n. stopped_by (refused_at n 0) watch)
unfolding answered
refuses_early true true true d done other watch r k l h =
    absurd (let z : (Ok tt) ≡ Err r = sym k ∙ h in
    let w : ◌≡◌ {A = ℕ} 0 1 = cc in omega arith)
refuses_early true true false d done other watch r k l h =
    absurd (let z : ◌≡◌ {A = ℕ} 0 1 = cc in omega arith)
refuses_early true false c d done other watch r k l h =
    ap (λ (o : Outcome). stopped_by o watch) (sym h)
refuses_early false b c d done other watch r k l h =
    ap (λ (o : Outcome). stopped_by o watch) (sym h)

-- A call with the right rules and state that was refused has a letter that is too large.
refuses_letter : (a b c : Bool) (done : Ticked) (watch : Watch) (r : Refusal)
    → done.reply.outcome ≡ Ok tt → a ≡ true → b ≡ true
    → (answered (first_number a b c) done (refused_with watch)).reply.outcome ≡ Err r
    → (c ≡ false) × (Err r ≡ refused_at 19 0)
unfolding answered
refuses_letter true true true done watch r k p q h =
    absurd (let z : (Ok tt) ≡ Err r = sym k ∙ h in
    let w : ◌≡◌ {A = ℕ} 0 1 = cc in omega arith)
refuses_letter true true false done watch r k p q h = (refl, sym h)
refuses_letter true false c done watch r k p q h =
    absurd (let z : ◌≡◌ {A = ℕ} 0 1 = cc in omega arith)
refuses_letter false b c done watch r k p q h =
    absurd (let z : ◌≡◌ {A = ℕ} 0 1 = cc in omega arith)

-- What holds while the first i letters of a trace have been played.
pub record Playing (table : Table) (watch : Watch) (trace : List ℕ) (last : Watch)
    (counts : List Counts) (i : ℕ) : Type 0
  where
    pub rules : table_valid table ≡ true
    pub state : phases_valid (rows_of table) (phases_of watch) ≡ true
    pub letters : every (letter_valid table.signals) (take i trace) ≡ true
    pub moved : last ≡ watch_of (run (table_system table.signals (rows_of table)) (phases_of watch)
        (take i trace))
    pub counted : counts ≡ counts_over zero_counts (trace_events (rows_of table) (phases_of watch)
        (take i trace))

zero_fits : (s : ℕ) → letter_valid s 0 ≡ true
zero_fits s = lt-ltb 0 (letters s) (pow_pos s)

module _ (table : Table) (watch : Watch) (trace : List ℕ) where
  abbrev X : System
  X = table_system table.signals (rows_of table)

  -- the tick that only tests 17 and 18
  pub playing_refused : (r : Refusal) → (table_tick table watch 0).reply.outcome ≡ Err r
      → stopped_by (Err r) watch ≡ table_play table watch trace
  unfolding table_tick table_play
  playing_refused r h =
      refuses_early (table_valid table) (phases_valid (rows_of table) (phases_of watch))
      (letter_valid table.signals 0)
      (every (letter_valid table.signals) trace)
      (moved_on (rows_of table) 0 watch)
      (played_over table watch trace) watch r refl (zero_fits table.signals) h

  starts : (table_tick table watch 0).reply.outcome ≡ Ok tt
      → Playing table watch trace watch zero_counts 0
  unfolding table_tick every run trace_events counts_over
  starts h =
      let passed = accepts (table_valid table) (phases_valid (rows_of table) (phases_of watch))
      (letter_valid table.signals 0) _ watch h in
      record {
        rules = passed.0;
        state = passed.1;
        letters = refl;
        moved = sym (watch_phases watch);
        counted = refl;
      }

  pub playing_starts : {tested : Ticked} → tested ≡ table_tick table watch 0
      → tested.reply.outcome ≡ Ok tt → Playing table watch trace watch zero_counts 0
  playing_starts is taken = starts (ap (λ (t : Ticked). t.reply.outcome) (sym is) ∙ taken)

  module _ (last : Watch) (counts : List Counts) (i : ℕ)
      (p : Playing table watch trace last counts i) where
    abbrev phases : List Phase
    phases = run X (phases_of watch) (take i trace)

    last_phases : phases_of last ≡ phases
    last_phases = ap phases_of p.moved ∙ phases_watch phases

    last_fits : phases_valid (rows_of table) (phases_of last) ≡ true
    last_fits = rw last_phases (run_valid table.signals (rows_of table) (phases_of watch)
        (take i trace) p.state)

    -- no event has happened more often than there were ticks
    pub playing_room : i < length trace → length trace < 2 ^ 64 → AllRoom counts
    playing_room h k = rw p.counted (λ j event.
        let few = counts_few (trace_events (rows_of table) (phases_of watch) (take i trace)) j event in
        let many = trace_events_lem (rows_of table) (phases_of watch) (take i trace) in
        let low = length-take-le i trace (omega arith) in
        omega (arith, few, many, low))

    module _ (h : i < length trace) where
      abbrev l : ℕ
      l = get_or trace i 0

      abbrev ticked : Ticked
      ticked = table_tick table last l

      goes_on : ticked.reply.outcome ≡ Ok tt
          → Playing table watch trace ticked.watch (add_all counts ticked.reply.events)
          (i + 1)
      unfolding table_tick answered every
      goes_on e =
          let done = moved_on (rows_of table) l last in
          let passed = accepts (table_valid table) (phases_valid (rows_of table) (phases_of last))
          (letter_valid table.signals l) done last e in
          let more : take (i + 1) trace ≡ take i trace ++ (l ∷ []) =
          ap (λ (k : ℕ). take k trace) (add-one i) ∙ take-suc trace i 0 h in
          rw (passed.0, passed.1, passed.2) (record {
            rules = p.rules;
            state = p.state;
            letters = rw (
              more,
              every_append (letter_valid table.signals) (take i trace) (l ∷ []),
              p.letters,
              passed.2,
            );
            moved = ap watch_of (ap (tick (rows_of table) l) last_phases
                ∙ sym (run_snoc X (phases_of watch) (take i trace) l)
                ∙ ap (run X (phases_of watch)) (sym more));
            counted = ap₂ add_all p.counted (ap (tick_events (rows_of table) l) last_phases)
                ∙ sym (counts_snoc table.signals (rows_of table) (phases_of watch) (take i trace)
                l zero_counts)
                ∙ ap (λ (w : List ℕ). counts_over zero_counts (trace_events (rows_of table)
                (phases_of watch) w)) (sym more);
          })

      pub playing_next : {next : Ticked} {all : List Counts} → next ≡ ticked
          → next.reply.outcome ≡ Ok tt → all ≡ add_all counts next.reply.events
          → Playing table watch trace next.watch all (i + 1)
      playing_next is taken added =
          rw (added, is) (goes_on (ap (λ (t : Ticked). t.reply.outcome) (sym is) ∙ taken))

      pub playing_stops : (r : Refusal) → ticked.reply.outcome ≡ Err r
          → stopped_by (Err r) watch ≡ table_play table watch trace
      unfolding table_tick table_play answered
      playing_stops r e = go (every (letter_valid table.signals) trace) refl
        where
          too_large : (letter_valid table.signals l ≡ false) × (Err r ≡ refused_at 19 0)
          too_large =
              refuses_letter (table_valid table) (phases_valid (rows_of table) (phases_of last))
              (letter_valid table.signals l)
              (moved_on (rows_of table) l last) last r refl p.rules last_fits e

          go : (b : Bool) → every (letter_valid table.signals) trace ≡ b
              → stopped_by (Err r) watch ≡ table_play table watch trace
          go true all = absurd (not_both _
              (every_at (letter_valid table.signals) trace i 0 all h) too_large.0)
          go false all = rw (p.rules, p.state, all)
              (ap (λ (o : Outcome). stopped_by o watch) too_large.1)

    pub playing_ends : length trace ≤ i
        → record { outcome = Ok tt; watch = last; counts = counts }
        ≡ table_play table watch trace
    unfolding table_play answered
    playing_ends h =
        let all = take_all i trace h in
        rw (p.rules, p.state, rw all at p.letters)
        (ap₂ (λ (w : Watch) (c : List Counts).
        record { outcome = Ok tt; watch = w; counts = c })
        (p.moved ∙ ap (λ (w : List ℕ). watch_of (run X (phases_of watch) w)) all)
        (p.counted ∙ ap (λ (w : List ℕ). counts_over zero_counts (trace_events (rows_of table)
        (phases_of watch) w)) all))
