-- "The earliest doomed entry's trace": the trace into the trap is that of the first entry that has
-- a lost number. Assumes nothing.
use Prim.Native.Nat.{ℕ, ◌<◌}
use native.Mathlib.Decide.{ℕ_discrete}
use native.Mathlib.Omega.{arith}
use mathlib.Core.List.{List}
use mathlib.Core.Logic.◌⊎◌.{inl, inr}
use mathlib.Core.Path.{◌≡◌, refl, sym}
use lib.ListN.{get_or}
use Rattle.table.specs.declared.Table.{Table}
use Rattle.traces.specs.System.{System}
use Rattle.traces.specs.Trace.{run, Reached}
use Rattle.traces.specs.Order.{Earlier, NotAfter}
use Rattle.traces.specs.Doomed.{Doomed}
use Rattle.traces.specs.Inner.Verdicts.{Trapped}
use Rattle.traces.proofs.Order.{earlier_irrefl, earlier_trans, not_after_antisym}
use Rattle.traces.proofs.Doomed.{lost_doomed, lost_unique}
use Rattle.search.specs.Lent.{Lent, system_of}
use Rattle.demands.specs.Searching.{LostOrZero, ScratchHeld}
use Rattle.demands.specs.Further.Doomed.{EarliestDoomed}

not_earlier : {w v : List ℕ} → NotAfter w v → Earlier v w → ⊥
not_earlier {w} (inl e) h = earlier_irrefl w (rw (← e) at h)
not_earlier {w} (inr h) k = earlier_irrefl w (earlier_trans h k)

module _ (table : Table) (n : ℕ) (lent : Lent) (held : ScratchHeld table n lent) (w : List ℕ)
    (k : ℕ) (trap : Trapped (system_of table) w k) where
  lost_doomed_at : (e : ℕ) → e < n → 0 < get_or lent.lost e 0
      → Doomed (system_of table) (run (system_of table) (system_of table).start (held.trace e))
  lost_doomed_at e h z = go (held.entry e h).lost
    where
      go : LostOrZero (system_of table) (held.state e) (get_or lent.lost e 0)
          → Doomed (system_of table)
          (run (system_of table) (system_of table).start (held.trace e))
      go (inl q) = absurd (omega (arith, q.0))
      go (inr q) = rw (held.entry e h).leads (lost_doomed (system_of table) _ _ q)

  pub earliest_doomed : EarliestDoomed n held.trace lent.lost w k
  earliest_doomed = go (held.every (run X X.start w) trap_reached)
    where
      X : System
      X = system_of table

      trap_reached : Reached X (run X X.start w)
      trap_reached = record { trace = w; fine = trap.fine; leads = refl }

      go : (e : ℕ) × (e < n) × (held.state e ≡ run X X.start w)
          → EarliestDoomed n held.trace lent.lost w k
      go r = record {
        entry = r.0;
        low = r.1;
        leads = is;
        number = num (held.entry r.0 r.1).lost;
        first = λ e h. before e h (ℕ_discrete (get_or lent.lost e 0) 0);
      }
        where
          trap_doomed : Doomed X (run X X.start w)
          trap_doomed = lost_doomed X _ k trap.lost

          is : held.trace r.0 ≡ w
          is = not_after_antisym
              ((held.entry r.0 r.1).earliest w trap.fine (sym r.2))
              (trap.earliest (held.trace r.0) (held.entry r.0 r.1).fine
              (rw ((held.entry r.0 r.1).leads, r.2) trap_doomed))

          num : LostOrZero X (held.state r.0) (get_or lent.lost r.0 0)
              → get_or lent.lost r.0 0 ≡ k
          num (inl q) = absurd (q.1 (rw r.2 trap_doomed))
          num (inr q) = lost_unique X _ _ k (rw r.2 at q) trap.lost

          before : (e : ℕ) → e < r.0 → Dec (get_or lent.lost e 0 ≡ 0)
              → get_or lent.lost e 0 ≡ 0
          before e h (yes d) = d
          before e h (no d) = absurd (not_earlier
              (trap.earliest (held.trace e) (held.entry e (omega (arith, r.1))).fine
              (lost_doomed_at e (omega (arith, r.1)) (omega arith)))
              (rw is at (held.order e r.0 h r.1)))
