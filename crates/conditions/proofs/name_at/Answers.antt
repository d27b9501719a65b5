-- `conditions::name_at` meets its contract. Assumes nothing.
use Prim.Native.Nat.{ℕ, min}
use borrow.Author.Rules.{rules}
use native.Mathlib.Omega.{arith}
use mathlib.Core.List.{List}
use mathlib.Core.Logic.{⊎_elim}
use mathlib.Core.Path.{◌≡◌, sym, ap, ◌∙◌}
use lib.ListN.{length, take, length-take}
use Rattle.std.proofs.lemmas.List.{take_min}
use Rattle.table.specs.declared.Name.{Name}
use Rattle.conditions.proofs.Names.{name_at_none, name_at_long, name_at_some}
use Rattle.table.proofs.Laws.{name_run_prefix}
use Rattle.conditions.proofs.Places.{place_le}
use Rattle.conditions.proofs.name_at.Goals as goal

-- The names that are used.
names_used : (names : List Name) (count : ℕ) {used : ℕ} → length names ≡ 6 → used ≡ min count 6
    → take used names ≡ take count names
names_used names count all used =
    rw (used ∙ ap (min count) (sym all)) (take_min count names)

pub returns-then-run-eq0 : goal.returns-then-run-eq0
returns-then-run-eq0 c =
    let run = c.run_at-run.ensures ∙ name_run_prefix _ in
    ⊎_elim (λ e. name_at_none _ _ _ _ run e) (λ e. name_at_long _ _ _ _ run (omega arith))
    c.then-run-eq0.either

pub overflow_cast-k : goal.overflow_cast-k
overflow_cast-k c = omega (
  arith,
  place_le (take c.min-used.result c.args.signals.names) c.name_of.result,
  length-take c.min-used.result c.args.signals.names,
)

pub returns : goal.returns
returns c =
    let names = c.args.signals.names in
    let all : length names ≡ 6 = search rules in
    let count : c.min-used.result ≡ min c.args.signals.count 6 = omega arith in
    let used : c.min-used.result ≡ length (take c.args.signals.count names) =
    rw length-take (omega arith) in
    let place = rw (names_used names c.args.signals.count all count) at c.place_of-k.ensures in
    name_at_some _ _ _ _ (c.run_at-run.ensures ∙ name_run_prefix _) c.if-run-eq0.false
    (omega arith) c.name_of.ensures place used c.signal_set.ensures
