-- The terms from a letter on, put now, make the whole.
use Rattle.std.proofs.Common.{◌≡◌, ◌-◌, map}
use Rattle.letters.specs.Letter.{members}
use Rattle.text.specs.Lines.{joined}
use Rattle.text.specs.Words.{or_sign}
use Rattle.put.specs.Inner.Page.{added}
use Rattle.writer.specs.Inner.Writing.{names_of}
use Rattle.writer.specs.File.{term_text}
use Rattle.writer.proofs.Turns.{left}
use Rattle.writer.proofs.put_terms.Given as goal

abbrev pub invariant-loop-letter : goal.invariant-loop-letter
invariant-loop-letter l =
    let names = names_of l.signals in
    added l.page
    (left or_sign l.later (map (term_text names) (members (l.letter-end - l.letter) l.letter l.set)))
    ≡ added l.initial.page (joined or_sign (map (term_text names) (members l.letter-end 0 l.set)))
