-- `watcher::play` meets its contract. Assumes nothing.
use Rattle.std.proofs.Common.{rules, ◌≡◌}
use Rattle.watcher.specs.Counts.{no_counts}
use Rattle.watcher.proofs.Tables.{playing_starts, playing_room, playing_next, playing_ends}
use Rattle.watcher.proofs.play.Goals as goal

pub loop-letter-init : goal.loop-letter-init
loop-letter-init c =
    let none : c.default-counts.result ≡ no_counts = search rules in
    rw none (search (rules, playing_starts))

pub add-requires : goal.add-requires
add-requires c = search (rules, playing_room)

pub loop-letter-preserved : goal.loop-letter-preserved
loop-letter-preserved c = search (rules, playing_next)

pub returns : goal.returns
returns c = search (rules, playing_ends)
