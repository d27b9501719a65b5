-- A row fires exactly when an unbroken trace and a letter behind it fire it. Assumes nothing.
use Prim.Native.Nat.{ℕ, ◌<◌}
use native.Mathlib.Omega.{arith}
use mathlib.Core.Bool.{Bool, true, false}
use mathlib.Core.List.{List, [], ◌∷◌, ◌++◌, append_assoc}
use mathlib.Core.Logic.{◌↔◌}
use mathlib.Core.Path.{◌≡◌, refl}
use lib.ListN.{get_or}
use borrow.Author.Tests.{not-true}
use Rattle.letters.proofs.Lists.{and_left, and_right}
use Rattle.table.specs.declared.Row.{Row}
use Rattle.traces.specs.System.{System}
use Rattle.traces.specs.Trace.{run, Unbroken}
use Rattle.traces.specs.Inner.Lawful.{Lawful}
use Rattle.traces.specs.Inner.Passing.{Passes}
use Rattle.traces.proofs.Runs.{below_rest, run_snoc, unbroken_front, unbroken_snoc}
use Rattle.step.specs.declared.Phase.{Phase}
use Rattle.step.specs.Tick.{tick, some_broken, start_phases, table_system}
use Rattle.step.specs.Events.{no_events, tick_events, trace_events, Event, times_of}
use Rattle.step.specs.Fires.{Fires}
use Rattle.step.specs.Inner.Firing.{fires_at}
use Rattle.step.proofs.Systems.{table_lawful}

module _ (s : ℕ) (rows : List Row) (i : ℕ) where
  abbrev X : System
  X = table_system s rows

  law : Lawful X
  law = table_lawful s rows

  -- The trigger of row i is realised at a letter.
  abbrev realised_at : List Phase → ℕ → Bool
  realised_at phases l = (get_or (tick_events rows l phases) i no_events).realised

  abbrev times : List Phase → List ℕ → ℕ
  times phases w = times_of Event.realised i (trace_events rows phases w)

  -- A tick of a trace at which it is realised: the letters before it, its own, and those after it.
  record RealisedIn (phases : List Phase) (w : List ℕ) : Type 0 where
    pub front : List ℕ
    pub letter : ℕ
    pub rest : List ℕ
    pub is : front ++ letter ∷ rest ≡ w
    pub realised : realised_at (run X phases front) letter ≡ true

  longer : (phases : List Phase) (l : ℕ) (w : List ℕ) → RealisedIn (tick rows l phases) w
      → RealisedIn phases (l ∷ w)
  unfolding run
  longer phases l w later = record {
    front = l ∷ later.front;
    letter = later.letter;
    rest = later.rest;
    is = rw later.is;
    realised = later.realised;
  }

  find : (phases : List Phase) (w : List ℕ) → 0 < times phases w → RealisedIn phases w
  unfolding trace_events times_of run
  find phases [] h = absurd (omega arith)
  find phases (l ∷ w) h = go (find (tick rows l phases) w) (realised_at phases l) refl
    where
      go : (0 < times (tick rows l phases) w → RealisedIn (tick rows l phases) w) → (b : Bool)
          → realised_at phases l ≡ b → RealisedIn phases (l ∷ w)
      go ih true e = record { front = []; letter = l; rest = w; is = refl; realised = e }
      go ih false e = let some = rw e at h in longer phases l w (ih (omega arith))

  last : (phases : List Phase) (w : List ℕ) (l : ℕ) → realised_at (run X phases w) l ≡ true
      → 0 < times phases (w ++ l ∷ [])
  unfolding trace_events times_of run
  last phases [] l h = rw h (omega arith)
  last phases (k ∷ w) l h = omega (arith, last (tick rows k phases) w l h)

  found : Fires s rows i → Passes X (fires_at rows i)
  unfolding fires_at
  found fires =
      let at = find (start_phases rows) fires.trace fires.realised in
      let here : Unbroken X (at.front ++ at.letter ∷ at.rest) = rw at.is fires.fine in
      let upto : Unbroken X (at.front ++ at.letter ∷ []) =
      unbroken_front X law (at.front ++ at.letter ∷ []) at.rest (rw append_assoc here) in
      let after : some_broken (tick rows at.letter (run X X.start at.front)) ≡ false =
      rw (run_snoc X X.start at.front at.letter) at upto.unbroken in
      record {
        trace = at.front;
        fine = unbroken_front X law at.front (at.letter ∷ []) upto;
        letter = at.letter;
        low = (below_rest _ at.front (at.letter ∷ []) upto.letters).0;
        passes = rw (at.realised, after);
      }

  back : Passes X (fires_at rows i) → Fires s rows i
  unfolding fires_at
  back p =
      let phases = run X X.start p.trace in
      let realised = and_left (realised_at phases p.letter) _ p.passes in
      let unbroken = not-true _ (and_right (realised_at phases p.letter) _ p.passes) in
      record {
        trace = p.trace ++ p.letter ∷ [];
        fine = unbroken_snoc X law p.trace p.letter p.fine p.low unbroken;
        realised = last (start_phases rows) p.trace p.letter realised;
      }

  pub fires_exactly : Fires s rows i ↔ Passes X (fires_at rows i)
  fires_exactly = (found, back)
