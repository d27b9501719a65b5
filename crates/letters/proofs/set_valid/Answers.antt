-- `letters::set_valid` meets its contract: from six signals on, every set of 64 bits has only their
-- letters. Assumes nothing.
use Prim.Native.Nat.{◌≤◌, ◌^◌}
use borrow.Author.Tests.{lt-ltb}
use native.Mathlib.Nat.{lt_of_lt_of_le}
use native.Mathlib.Omega.{arith}
use lib.Pow.{pow_mono}
use mathlib.Core.Path.{sym}
use Rattle.letters.specs.Letter.{set_bits}
use Rattle.letters.proofs.Bits.{set_signals, one_shifted}
use Rattle.letters.proofs.set_valid.Goals as goal

-- with fewer than six signals there are at most 32 letters
few : (c : goal.Then-signals-lt-SET_SIGNALS) → 2 ^ c.before.args.signals ≤ 32
few c = pow_mono {i = c.before.args.signals} {j = 5} (omega arith)

pub overflow_shl-result-then-signals-lt-SET_SIGNALS : goal.overflow_shl-result-then-signals-lt-SET_SIGNALS
overflow_shl-result-then-signals-lt-SET_SIGNALS c = rw (one_shifted c.before.args.signals (omega arith)) (omega (arith, few c))

pub returns-then-signals-lt-SET_SIGNALS : goal.returns-then-signals-lt-SET_SIGNALS
returns-then-signals-lt-SET_SIGNALS c =
    rw (one_shifted c.before.args.signals (omega arith))
    (rw (one_shifted (2 ^ c.before.args.signals) (omega (arith, few c))))

pub returns-else-signals-lt-SET_SIGNALS : goal.returns-else-signals-lt-SET_SIGNALS
returns-else-signals-lt-SET_SIGNALS c =
    sym (lt-ltb _ _ (lt_of_lt_of_le c.before.ranges.set.fits
    (pow_mono {i = set_bits} (pow_mono {i = set_signals} c.if-signals-lt-SET_SIGNALS.false))))
