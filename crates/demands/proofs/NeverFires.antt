-- The rows that the search lists are those that never fire, and no list but one says so. Assumes
-- nothing.
use Prim.Native.Nat.{ℕ, ◌<◌, ◌≤◌, ◌^◌}
use mathlib.Core.Bool.{Bool, true, false, not}
use mathlib.Core.List.{List}
use mathlib.Core.Logic.{◌↔◌}
use mathlib.Core.Path.{◌≡◌, refl, ap}
use borrow.Author.Tests.{not-true}
use lib.ListN.{length}
use Rattle.letters.proofs.Exactly.{is_set_low, is_set_only, set_of_is}
use Rattle.table.specs.declared.Row.{Row}
use Rattle.traces.specs.Inner.Entries.{Entries}
use Rattle.traces.specs.Inner.Explore.{listed, explore}
use Rattle.traces.specs.Inner.Passing.{some_passes}
use Rattle.traces.proofs.Explore.{explore_finished}
use Rattle.traces.proofs.Passing.{passes_exactly}
use Rattle.traces.proofs.Runs.{not_both}
use Rattle.step.specs.Fires.{Fires}
use Rattle.step.specs.Tick.{table_system}
use Rattle.step.specs.Inner.Firing.{fires_at}
use Rattle.step.proofs.Firing.{fires_exactly}
use Rattle.step.proofs.Systems.{table_lawful}
use Rattle.search.specs.Inner.Same.{same_phases}
use Rattle.search.proofs.Same.{phases_decided}
use Rattle.verdict.specs.declared.RowLists.{RowLists}
use Rattle.search.specs.Inner.Computed.{never_within}
use Rattle.demands.specs.Searching.{RightLists}

module _ (s : ℕ) (rows : List Row) where
  abbrev Never : ℕ → Type 0
  Never i = Fires s rows i → ⊥

  -- No row beyond the table's is listed,
  pub lists_low : (lists : RowLists) → RightLists s rows lists → lists.never < 2 ^ length rows
  lists_low lists right = is_set_low (length rows) Never lists.never right.never

  -- so that what is right fixes the lists.
  pub lists_only : (one other : RowLists) → RightLists s rows one → RightLists s rows other
      → one ≡ other
  lists_only one other p q = ap (λ (n : ℕ). record { never = n })
      (is_set_only (length rows) Never one.never other.never p.never q.never)

  module _ (room : ℕ) (few : length (explore (table_system s rows) same_phases room) ≤ room) where
    abbrev E : Entries (table_system s rows)
    E = listed (table_system s rows) (explore (table_system s rows) same_phases room)

    -- A row fires exactly when an entry's letter fires it.
    module _ (i : ℕ) where
      abbrev passes : Bool
      passes = some_passes (table_system s rows) (fires_at rows i) E

      bridge : (passes ≡ true) ↔ Fires s rows i
      bridge =
          let X = table_system s rows in
          let law = table_lawful s rows in
          let done = explore_finished X same_phases (phases_decided s rows) law room few in
          let entries = passes_exactly X law E done (fires_at rows i) in
          let fires = fires_exactly s rows i in
          (λ e. fires.1 (entries.0 e), λ f. entries.1 (fires.0 f))

      none : Never i → not passes ≡ true
      none never = go passes refl
        where
          go : (b : Bool) → passes ≡ b → not b ≡ true
          go true e = absurd (never (bridge.0 e))
          go false e = refl

    pub never_right : RightLists s rows (record { never = never_within room s rows })
    unfolding never_within
    never_right = record {
      never = set_of_is (length rows) Never (λ i. not (passes i)) (λ i low. (
        λ e f. not_both (passes i) ((bridge i).1 f) (not-true _ e),
        none i,
      ));
    }
