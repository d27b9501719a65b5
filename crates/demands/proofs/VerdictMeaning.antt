-- The two verdicts say what demand 3 says in its own words. Assumes nothing.
use Prim.Native.Nat.{ℕ, ◌≤◌}
use native.Mathlib.Decide.{dec_le}
use native.Mathlib.Omega.{arith}
use mathlib.Core.List.{List, []}
use Rattle.traces.specs.System.{System}
use Rattle.traces.specs.Trace.{run, Unbroken}
use Rattle.traces.specs.Doomed.{Doomed, Breaks}
use Rattle.traces.specs.Inner.Verdicts.{Trapped, Sound}
use Rattle.traces.proofs.Runs.{run_append, not_both, below_append, below_rest}
use Rattle.demands.specs.Searching.{Dead, EarliestDead, CanGoOn}

module _ (X : System) where
  -- An extension of an unbroken trace by no ticks is not broken.
  dead_positive : (w : List ℕ) (n : ℕ) → Dead X w n → 1 ≤ n
  unfolding run
  dead_positive w n d = go (dec_le 1 n)
    where
      go : Dec (1 ≤ n) → 1 ≤ n
      go (yes h) = h
      go (no h) = absurd (not_both (X.broken (run X X.start w))
          (rw run_append at (d.broken [] (omega arith) tt)) d.fine.unbroken)

  dead_breaks : (w : List ℕ) (n : ℕ) → Dead X w n → Breaks X n (run X X.start w)
  dead_breaks w n d v l b = rw run_append at (d.broken v l b)

  breaks_dead : (w : List ℕ) (n : ℕ) → Unbroken X w → Breaks X n (run X X.start w) → Dead X w n
  breaks_dead w n u h = record { fine = u; broken = λ v l b. rw run_append (h v l b) }

  pub dead_doomed : (w : List ℕ) (n : ℕ) → Dead X w n → Doomed X (run X X.start w)
  dead_doomed w n d =
      record { ticks = n; positive = dead_positive w n d; breaks = dead_breaks w n d }

  pub doomed_dead : (w : List ℕ) → Unbroken X w → (d : Doomed X (run X X.start w))
      → Dead X w d.ticks
  doomed_dead w u d = breaks_dead w d.ticks u d.breaks

  pub trapped_earliest : (w : List ℕ) (k : ℕ) → Trapped X w k → EarliestDead X w k
  trapped_earliest w k t = record {
    such = breaks_dead w k t.fine t.lost.breaks;
    earliest = λ v n d. t.earliest v d.fine (dead_doomed v n d);
    least = λ n d. t.lost.least n (dead_positive w n d) (dead_breaks w n d);
  }

  pub earliest_trapped : (w : List ℕ) (k : ℕ) → EarliestDead X w k → Trapped X w k
  earliest_trapped w k s = record {
    fine = s.such.fine;
    lost = record {
      positive = dead_positive w k s.such;
      breaks = dead_breaks w k s.such;
      least = λ n q b. s.least n (breaks_dead w n s.such.fine b);
    };
    earliest = λ v u d. s.earliest v d.ticks (doomed_dead v u d);
  }

  pub sound_goes_on : Sound X → CanGoOn X
  sound_goes_on s = record {
    on = λ w u n. (
      (s.goes_on w u n).trace,
      (s.goes_on w u n).long,
      record {
        letters = below_append _ w _ u.letters (s.goes_on w u n).letters;
        unbroken = rw run_append (s.goes_on w u n).unbroken;
      },
    );
  }

  pub goes_on_sound : CanGoOn X → Sound X
  goes_on_sound g = record {
    goes_on = λ w u n. record {
      trace = (g.on w u n).0;
      long = (g.on w u n).1;
      letters = below_rest _ w _ (g.on w u n).2.letters;
      unbroken = rw run_append at (g.on w u n).2.unbroken;
    };
  }
