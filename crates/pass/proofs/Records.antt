-- The watcher's record and its list of phases. Assumes nothing.
use Prim.Native.Nat.{ℕ}
use mathlib.Core.List.{List}
use mathlib.Core.Path.{◌≡◌, refl}
use lib.ListN.{get_or}
use Rattle.step.specs.declared.Phase.{Phase}
use Rattle.step.specs.declared.Phase.TheVariants.{Waiting}
use Rattle.pass.specs.declared.Watch.{Watch}
use Rattle.pass.specs.Watch.{phases_of, watch_of}
use Rattle.pass.specs.Inner.Pass.{phase_at}

-- A record is its phases, and phases are those of their record.
pub watch_phases : (watch : Watch) → watch_of (phases_of watch) ≡ watch
watch_phases watch = refl

pub phases_watch : (phases : List Phase) → phases_of (watch_of phases) ≡ phases
phases_watch phases = refl

pub phase_at_lem : (watch : Watch) (i : ℕ) → phase_at watch i ≡ get_or (phases_of watch) i Waiting
phase_at_lem watch i = refl
