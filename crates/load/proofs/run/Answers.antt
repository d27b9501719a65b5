-- `load::run` meets its contract. Assumes nothing.
use Rattle.std.proofs.Common.{rules, ◌≡◌, sym, ◌∙◌}
use Rattle.load.specs.Load.{no_totals}
use Rattle.load.proofs.Running.{running_starts, running_room, running_next, running_ends}
use Rattle.load.proofs.run.Goals as goal

pub loop-init : goal.loop-init
loop-init c =
    let none : c.default-totals.result ≡ no_totals = search rules in
    let taken = rw c.valid.ensures at (sym c.judge.ensures ∙ c.in_default.is) in
    rw (none, c.start-watch.ensures) (running_starts _ _ _ taken)

pub add-requires : goal.add-requires
add-requires c = search (rules, running_room)

pub loop-preserved : goal.loop-preserved
loop-preserved c = search (rules, running_next)

pub returns : goal.returns
returns c = search (rules, running_ends)
