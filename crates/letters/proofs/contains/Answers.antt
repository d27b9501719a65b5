-- `letters::contains` meets its contract: a letter from 64 on is in no set of 64 bits. Assumes
-- nothing.
use borrow.Author.Rules.{rules}
use mathlib.Core.Path.{sym}
use Rattle.letters.specs.Letter.{bit_at, set_bits}
use Rattle.letters.proofs.Bits.{bit_high}
use Rattle.letters.proofs.contains.Goals as goal

pub returns-then-letter-lt-SET_BITS : goal.returns-then-letter-lt-SET_BITS
unfolding bit_at
returns-then-letter-lt-SET_BITS c = search rules

pub returns-else-letter-lt-SET_BITS : goal.returns-else-letter-lt-SET_BITS
returns-else-letter-lt-SET_BITS c = sym (bit_high _ set_bits _ c.before.ranges.set.fits c.if-letter-lt-SET_BITS.false)
