-- The answers of the search with the scratch computed, for the proofs: `RightAnswer` says the same
-- of it in words.
use Rattle.std.specs.Prelude.{ℕ, suc, ◌<◌, ◌≤◌, true, false, List, ◌≡◌, length}
use Rattle.table.specs.Valid.{table_valid}
use Rattle.table.specs.declared.Table.{Table}
use Rattle.traces.specs.Count.{ReachedMany}
use Rattle.traces.specs.Inner.Verdicts.{Trapped, Sound}
use Rattle.verdict.specs.declared.RowLists.{RowLists}
use Rattle.verdict.specs.Found.{refused_found, sound_found, trapped_found}
use Rattle.search.specs.Lent.{Lent, Searched, room_of, system_of, cleared, traced}
use Rattle.search.specs.Inner.Computed.{entries_within, lists_within, filled}
use Rattle.demands.specs.Searching.{Fit}

-- The lent memory with the entries in its scratch.
abbrev pub with_entries : Table → Lent → Lent
with_entries table lent = filled table (entries_within (room_of lent) table) lent

-- The lists of rows by the entries.
abbrev pub lists_in : Table → Lent → RowLists
lists_in table lent = lists_within (room_of lent) table

pub data ComputedAnswer (table : Table) (lent : Lent) : Searched → Type 0 where
  is17 : table_valid table ≡ false
      → ComputedAnswer table lent (record { found = refused_found 17; lent = lent })
  is20 : table_valid table ≡ true → ReachedMany (system_of table) (suc (room_of lent))
      → ComputedAnswer table lent (record { found = refused_found 20; lent = cleared lent })
  is21 : {n k : ℕ} {w : List ℕ} → Fit table lent n → Trapped (system_of table) w k
      → length lent.trace < length w
      → ComputedAnswer table lent
      (record { found = refused_found 21; lent = with_entries table lent })
  is_sound : {n : ℕ} → Fit table lent n → Sound (system_of table)
      → ComputedAnswer table lent
      (record { found = sound_found n (lists_in table lent); lent = with_entries table lent })
  is_trapped : {n k : ℕ} {w : List ℕ} → Fit table lent n → Trapped (system_of table) w k
      → length w ≤ length lent.trace
      → ComputedAnswer table lent (record {
        found = trapped_found n (lists_in table lent) w k;
        lent = traced w (with_entries table lent);
      })
