-- `conditions::joined`: whatever kind the parts are of, those so far are joined. The measure: how many
-- bytes are left.
use Prim.Native.Nat.{ℕ, ◌-◌, ◌<◌}
use mathlib.Core.Path.{◌≡◌}
use lib.ListN.{length}
use Rattle.std.specs.Prelude.{Option, List}
use Rattle.table.specs.declared.Name.{Name}
use Rattle.conditions.specs.Condition.{Kind}
use Rattle.conditions.specs.Inner.Reading.{Joins, ReadsAs}
use Rattle.conditions.specs.declared.Part.{Part}
use Rattle.conditions.proofs.Steps.{Begun}
use Rattle.conditions.proofs.joined.Given as goal

abbrev pub invariant-loop-part : goal.invariant-loop-part
invariant-loop-part g l = record {
  starts : l.at < l.all.next;
  begun : (k part : Kind) (f : ℕ → ℕ → ℕ) (names : List Name) (n : ℕ) → Joins k part l.sign f
      → ((v w x : ℕ) → goal.J-post g l.join v w x → x ≡ f v w)
      → ((i : ℕ) (q : Option Part) → goal.P-post g l.part i q → ReadsAs names n l.s part i q)
      → Begun names n l.s k l.sign f l.at l.all;
}

abbrev pub decreases-loop-part : goal.decreases-loop-part
decreases-loop-part g l = length l.s - l.all.next
