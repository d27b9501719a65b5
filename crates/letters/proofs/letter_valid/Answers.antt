-- `letters::letter_valid` meets its contract: from eight signals on, every letter that a byte holds
-- is one of theirs. Assumes nothing.
use borrow.Author.Tests.{lt-ltb}
use native.Mathlib.Nat.{lt_of_lt_of_le}
use lib.Pow.{pow_mono}
use mathlib.Core.Path.{sym}
use Rattle.letters.proofs.letter_valid.Goals as goal

pub returns-else-signals-lt-LETTER_BITS : goal.returns-else-signals-lt-LETTER_BITS
returns-else-signals-lt-LETTER_BITS c =
    sym (lt-ltb _ _ (lt_of_lt_of_le c.ranges.letter.fits (pow_mono c.if-signals-lt-LETTER_BITS.false)))
