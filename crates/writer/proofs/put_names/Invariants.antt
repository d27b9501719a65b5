-- The names from a place on, each behind a space, put now, make the whole.
use Rattle.std.proofs.Common.{◌≡◌, map, drop}
use Rattle.text.specs.Lines.{space}
use Rattle.put.specs.Inner.Page.{added}
use Rattle.writer.specs.Inner.Writing.{behind}
use Rattle.writer.specs.File.{name_text}
use Rattle.writer.proofs.put_names.Given as goal

abbrev pub invariant-loop-name : goal.invariant-loop-name
invariant-loop-name l =
    added l.page (behind space (map name_text (drop l.name-index l.name-items)))
    ≡ added l.initial.page (behind space (map name_text l.name-items))
