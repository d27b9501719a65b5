-- A pass over the rows, from the first to the last, gives what the step rules and the numbers 17,
-- 18 and 19 say. Assumes nothing.
use Prim.Native.Nat.{ℕ, ◌+◌, ◌<◌, ◌≤◌}
use native.Mathlib.Decide.{dec_le}
use native.Mathlib.Numerals.{add-one}
use native.Mathlib.Omega.{arith}
use mathlib.Core.Bool.{Bool, true, false, ◌&&◌, cond, and_assoc, and_comm, and-true}
use mathlib.Core.List.{List, [], ◌∷◌, ◌++◌, map}
use mathlib.Core.Path.{◌≡◌, refl, sym, ap, ap₂, ◌∙◌}
use borrow.Author.Tests.{lt-ltb, le-ltb}
use lib.Dec.{ltb}
use lib.ListN.{length, get_or, set, take, drop, replicate, length-append, drop_of_length-le}
use lib.Seq.{set_at, get_or_at, append_snoc, drop-cons}
use Rattle.letters.specs.Letter.{letter_valid}
use Rattle.letters.specs.Lists.{every}
use Rattle.table.specs.Limits.{most_rows}
use Rattle.table.specs.Row.{row_valid, no_row}
use Rattle.table.specs.Valid.{rows_valid}
use Rattle.table.proofs.Laws.{counts_many}
use Rattle.table.specs.declared.Row.{Row}
use Rattle.std.specs.Prelude.{Ok}
use Rattle.step.specs.declared.Phase.{Phase}
use Rattle.step.specs.declared.Phase.TheVariants.{Waiting}
use Rattle.step.specs.Step.{step_row}
use Rattle.step.specs.Tick.{tick}
use Rattle.step.specs.declared.Events.{Events}
use Rattle.step.specs.Events.{no_events, row_events, tick_events}
use Rattle.step.specs.Valid.{phase_valid, is_waiting, phases_valid}
use Rattle.pass.specs.declared.Watch.{Watch}
use Rattle.pass.specs.declared.Ticked.{Ticked}
use Rattle.pass.specs.declared.Pass.{Pass}
use Rattle.pass.specs.Watch.{phases_of}
use Rattle.pass.specs.Answer.{first_number, answered, nothing_happened, refused_with}
use Rattle.pass.specs.Answer.{moved_on, tick_answer}
use Rattle.pass.specs.Inner.Pass.{phase_at, begun, moved, row_taken, pass_over, passed}
use Rattle.pass.specs.Inner.Pass.{finished}

-- A loop's turn at row i, and its end.
pub pass_next : (rows : List Row) (i : ℕ) (pass : Pass) → i < length rows
    → pass_over (drop i rows) i pass
    ≡ pass_over (drop (i + 1) rows) (i + 1) (row_taken pass i (get_or rows i no_row))
unfolding pass_over
pass_next rows i pass h = rw (drop-cons rows i no_row, ← add-one i)

pub pass_end : (rows : List Row) (i : ℕ) (pass : Pass) → length rows ≤ i
    → pass_over (drop i rows) i pass ≡ pass
unfolding pass_over
pass_end rows i pass h = rw (drop_of_length-le rows h)

-- Row i below the limit, as `row_taken` takes it.
taken : Pass → ℕ → Row → Pass
taken pass i row = record {
  signals = pass.signals;
  letter = pass.letter;
  rules = pass.rules && row_valid pass.signals row;
  phases = pass.phases && phase_valid row (phase_at pass.watch i);
  watch = moved pass.watch i row pass.letter;
  events = set pass.events i (row_events row pass.letter (phase_at pass.watch i));
}

taken_low : (pass : Pass) (i : ℕ) (row : Row) → i < most_rows
    → row_taken pass i row ≡ taken pass i row
unfolding row_taken taken
taken_low pass i row h = rw (lt-ltb i most_rows h)

taken_high : (pass : Pass) (i : ℕ) (row : Row) → most_rows ≤ i → row_taken pass i row ≡ pass
unfolding row_taken
taken_high pass i row h = rw (le-ltb i most_rows h)

-- Rows beyond the limit change nothing.
pass_high : (rows : List Row) (i : ℕ) (pass : Pass) → most_rows ≤ i → pass_over rows i pass ≡ pass
unfolding pass_over
pass_high [] i pass h = refl
pass_high (row ∷ rows) i pass h = rw (taken_high pass i row h)
    (pass_high rows (i + 1) pass (omega arith))

-- Once the rules are turned down they stay so.
taken_down : (pass : Pass) (i : ℕ) (row : Row) → pass.rules ≡ false
    → (row_taken pass i row).rules ≡ false
unfolding row_taken taken
taken_down pass i row h = go (ltb i most_rows)
  where
    go : (b : Bool) → (cond b (taken pass i row) pass).rules ≡ false
    go true = rw h
    go false = h

rules_down : (rows : List Row) (i : ℕ) (pass : Pass) → pass.rules ≡ false
    → (pass_over rows i pass).rules ≡ false
unfolding pass_over
rules_down [] i pass h = h
rules_down (row ∷ rows) i pass h = rules_down rows (i + 1) (row_taken pass i row)
    (taken_down pass i row h)

-- Nothing has happened yet to the rows of these phases.
abbrev none : List Phase → List Events
none phases = map (λ _. no_events) phases

-- What a pass has found after some rows, whose phases stand at the front of `ahead`, after those of
-- `passed`, and whose events stand after those of `before`.
record Found (rows : List Row) (pass : Pass) (passed ahead : List Phase) (before : List Events)
    (done : Pass) : Type 0 where
  signals : done.signals ≡ pass.signals
  letter : done.letter ≡ pass.letter
  rules : done.rules ≡ (pass.rules && every (row_valid pass.signals) rows)
  phases : done.phases ≡ (pass.phases && phases_valid rows (take (length rows) ahead))
  slots : done.watch.slots ≡ passed ++ tick rows pass.letter ahead
  events : done.events ≡ before ++ tick_events rows pass.letter ahead

-- One more place of a list is filled.
filled : {A : Type 0} (before ahead : List A) (old new : A) {list : List A} (i : ℕ)
    → list ≡ before ++ old ∷ ahead → length before ≡ i
    → set list i new ≡ (before ++ (new ∷ [])) ++ ahead
filled before ahead old new i e n =
    ap (λ (l : List _). set l i new) e ∙ set_at before old ahead new i n
    ∙ sym (append_snoc before new ahead)

-- The phase that row i has.
taken_phase : (pass : Pass) (passed ahead : List Phase) (phase : Phase) (i : ℕ)
    → pass.watch.slots ≡ passed ++ phase ∷ ahead → length passed ≡ i
    → phase_at pass.watch i ≡ phase
taken_phase pass passed ahead phase i e n =
    ap (λ (l : List Phase). get_or l i Waiting) e ∙ get_or_at passed phase ahead Waiting i n

pass_finds : (rows : List Row) (i : ℕ) (pass : Pass) (passed ahead : List Phase)
    (before : List Events)
    → pass.watch.slots ≡ passed ++ ahead → pass.events ≡ before ++ none ahead
    → length passed ≡ i → length before ≡ i → i + length ahead ≡ most_rows
    → length rows ≤ length ahead
    → Found rows pass passed ahead before (pass_over rows i pass)
unfolding pass_over tick tick_events every phases_valid taken
pass_finds [] i pass passed ahead before e f n k m h = record {
  signals = refl;
  letter = refl;
  rules = sym (and-true pass.rules);
  phases = sym (and-true pass.phases);
  slots = e;
  events = f;
}
pass_finds (row ∷ rows) i pass passed [] before e f n k m h = absurd (omega arith)
pass_finds (row ∷ rows) i pass passed (phase ∷ ahead) before e f n k m h =
    let next = taken pass i row in
    let was = taken_phase pass passed ahead phase i e n in
    let moved = step_row row pass.letter phase in
    let happened = row_events row pass.letter phase in
    let rest = pass_finds rows (i + 1) next (passed ++ (moved ∷ [])) ahead
    (before ++ (happened ∷ []))
    (ap (λ (p : Phase). set pass.watch.slots i (step_row row pass.letter p)) was
    ∙ filled passed ahead phase moved i e n)
    (ap (λ (p : Phase). set pass.events i (row_events row pass.letter p)) was
    ∙ filled before (none ahead) no_events happened i f k)
    (length-append passed (moved ∷ []) ∙ omega arith)
    (length-append before (happened ∷ []) ∙ omega arith) (omega arith) (omega arith) in
    rw (taken_low pass i row (omega arith)) (record {
      signals = rest.signals;
      letter = rest.letter;
      rules = rest.rules ∙ and_assoc pass.rules (row_valid pass.signals row)
          (every (row_valid pass.signals) rows);
      phases = rest.phases
          ∙ and_assoc pass.phases (phase_valid row (phase_at pass.watch i))
          (phases_valid rows (take (length rows) ahead))
          ∙ ap (λ (p : Phase). pass.phases &&
          (phase_valid row p && phases_valid rows (take (length rows) ahead))) was;
      slots = rest.slots ∙ append_snoc passed moved
          (tick rows pass.letter ahead);
      events = rest.events ∙ append_snoc before happened
          (tick_events rows pass.letter ahead);
    })

-- Number 18 over all phases: those of the rows, and those beyond them.
fits_parts : (rows : List Row) (phases : List Phase) → length rows ≤ length phases
    → phases_valid rows phases ≡ (phases_valid rows (take (length rows) phases) && every is_waiting
    (drop (length rows) phases))
unfolding phases_valid every
fits_parts [] phases h = refl
fits_parts (row ∷ rows) [] h = absurd (omega arith)
fits_parts (row ∷ rows) (phase ∷ phases) h =
    rw (fits_parts rows phases (omega arith))
    (sym (and_assoc (phase_valid row phase) (phases_valid rows (take (length rows) phases))
    (every is_waiting (drop (length rows) phases))))

-- What `finish` makes of what a pass found.
finish_same : (pass : Pass) (watch : Watch) (done : Ticked) (rules state letters : Bool)
    → pass.rules ≡ rules
    → pass.phases ≡ state → letter_valid pass.signals pass.letter ≡ letters
    → passed pass ≡ done
    → finished pass watch ≡ answered (first_number rules state letters) done (refused_with watch)
unfolding finished
finish_same pass watch done rules state letters r p l m =
    ap₂ (λ (n : ℕ) (t : Ticked). answered n t (refused_with watch))
    (ap₂ (λ (a b : Bool). first_number a b (letter_valid pass.signals pass.letter)) r p
    ∙ ap (λ (c : Bool). first_number rules state c) l) m

-- Under number 17 what was moved does not matter.
rules_refused : (a b c d : Bool) (x y : Ticked) (watch : Watch)
    → answered (first_number false a b) x (refused_with watch)
    ≡ answered (first_number false c d) y (refused_with watch)
unfolding answered
rules_refused a b c d x y watch = refl

-- Before the first row nothing has happened.
nothing_yet : (slots : List Phase) → length slots ≡ most_rows → nothing_happened ≡ none slots
nothing_yet slots e = ap (λ (k : ℕ). replicate k no_events) (sym e) ∙ go slots
  where
    go : (l : List Phase) → replicate (length l) no_events ≡ none l
    go [] = refl
    go (phase ∷ l) = ap (λ (m : List Events). no_events ∷ m) (go l)

module _ (s : ℕ) (rows : List Row) (watch : Watch) (letter : ℕ)
    (full : length watch.slots ≡ most_rows)
  where
    abbrev last : Pass
    last = pass_over rows 0 (begun s (length rows) watch letter)

    few : length rows ≤ most_rows → finished last watch ≡ tick_answer s rows watch letter
    unfolding tick_answer begun rows_valid
    few h =
        let found = pass_finds rows 0 (begun s (length rows) watch letter) [] watch.slots []
        refl (nothing_yet watch.slots full) refl refl
        (omega arith) (omega arith) in
        finish_same last watch (moved_on rows letter watch) (rows_valid s rows)
        (phases_valid rows (phases_of watch))
        (letter_valid s letter) found.rules
        (found.phases ∙ and_comm (every is_waiting (drop (length rows) (phases_of watch)))
        (phases_valid rows (take (length rows) (phases_of watch)))
        ∙ sym (fits_parts rows (phases_of watch) (omega arith)))
        (ap₂ letter_valid found.signals found.letter)
        (ap₂ (λ (l : List Phase) (e : List Events). record {
          reply = record { outcome = Ok tt; events = e };
          watch = record { slots = l };
        }) found.slots found.events)

    many : most_rows < length rows → finished last watch ≡ tick_answer s rows watch letter
    unfolding tick_answer begun rows_valid
    many h =
        let over = counts_many s (length rows) h in
        finish_same last watch (passed last) false last.phases
        (letter_valid last.signals last.letter)
        (rules_down rows 0 (begun s (length rows) watch letter) over) refl refl refl
        ∙ rules_refused last.phases (letter_valid last.signals last.letter)
        (phases_valid rows (phases_of watch))
        (letter_valid s letter) (passed last) (moved_on rows letter watch) watch
        ∙ ap (λ (b : Bool). answered (first_number (b && every (row_valid s) rows)
        (phases_valid rows (phases_of watch)) (letter_valid s letter))
        (moved_on rows letter watch) (refused_with watch)) (sym over)

    pub pass_answer : finished last watch ≡ tick_answer s rows watch letter
    pass_answer = go (dec_le (length rows) most_rows)
      where
        go : Dec (length rows ≤ most_rows) → finished last watch ≡ tick_answer s rows watch letter
        go (yes h) = few h
        go (no h) = many (omega arith)
