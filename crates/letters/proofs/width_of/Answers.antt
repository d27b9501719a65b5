-- `letters::width_of` meets its contract: below six signals there are at most 32 letters, from six
-- on at least 64. Assumes nothing.
use Prim.Native.Nat.{◌≤◌, ◌^◌}
use native.Mathlib.Omega.{arith}
use lib.Dec.{lit<}
use lib.Pow.{pow_mono, shl_exact}
use native.Mathlib.Nat.{one-mul}
use Rattle.letters.specs.Letter.{set_bits}
use Rattle.letters.proofs.Bits.{set_signals}
use Rattle.letters.proofs.width_of.Goals as goal

pub returns-then-signals-lt-SET_SIGNALS : goal.returns-then-signals-lt-SET_SIGNALS
returns-then-signals-lt-SET_SIGNALS c =
    let s = c.before.args.signals in
    let few : 2 ^ s ≤ 32 = pow_mono {i = s} {j = 5} (omega arith) in
    rw (shl_exact {a = 1} 1 s 8 (lit< tt) (omega arith), one-mul (2 ^ s)) (omega arith)

pub returns-else-signals-lt-SET_SIGNALS : goal.returns-else-signals-lt-SET_SIGNALS
returns-else-signals-lt-SET_SIGNALS c =
    let s = c.before.args.signals in
    let many : set_bits ≤ 2 ^ s = pow_mono {i = set_signals} {j = s} c.if-signals-lt-SET_SIGNALS.false in
    omega arith
