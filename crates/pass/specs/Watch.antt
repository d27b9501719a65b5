-- "The watcher's state on the machine is one small record": the phases of `most_rows` rows.
use Rattle.std.specs.Prelude.{List, replicate}
use Rattle.table.specs.Limits.{most_rows}
use Rattle.step.specs.declared.Phase.{Phase}
use Rattle.step.specs.declared.Phase.TheVariants.{Waiting}
use Rattle.pass.specs.declared.Watch.{Watch}

abbrev pub phases_of : Watch → List Phase
phases_of watch = watch.slots

abbrev pub watch_of : List Phase → Watch
watch_of phases = record { slots = phases }

-- "All start waiting."
abbrev pub start_watch : Watch
start_watch = watch_of (replicate most_rows Waiting)
