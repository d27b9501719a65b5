-- What the code gathers of line 2, in an array.
use Rattle.std.specs.Prelude.{ℕ, cond, List, Result, Ok, Err, ltb, set, take}
use Rattle.table.specs.Limits.{most_signals}
use Rattle.table.specs.Name.{all_distinct}
use Rattle.table.specs.declared.Name.{Name}
use Rattle.table.specs.declared.Signals.{Signals}

-- The names with one more at place n.
abbrev pub name_added : List Name → ℕ → Name → List Name
name_added names n name = cond (ltb n most_signals) (set names n name) names

-- What n names that were read come to.
abbrev pub names_answer : List Name → ℕ → Result Signals ℕ
names_answer names n =
    cond (ltb most_signals n) (Err 7)
    (cond (all_distinct (take n names)) (Ok (record { count = n; names = names })) (Err 8))
