-- `letters::all` meets its contract: n letters from 0 on are the number 2^n - 1. Assumes nothing.
use native.Mathlib.Omega.{arith}
use mathlib.Core.Path.{◌≡◌, sym}
use Rattle.letters.specs.Letter.{set_bits}
use Rattle.letters.proofs.Bits.{one_shifted}
use Rattle.letters.proofs.Sets.{set_of_true}
use Rattle.letters.proofs.all.Goals as goal

pub returns-then-n-lt-SET_BITS : goal.returns-then-n-lt-SET_BITS
returns-then-n-lt-SET_BITS c =
    let n = c.before.width_of-n.result in
    rw (one_shifted n c.if-n-lt-SET_BITS.true, ← c.before.width_of-n.ensures) (sym (set_of_true n))

pub returns-else-n-lt-SET_BITS : goal.returns-else-n-lt-SET_BITS
returns-else-n-lt-SET_BITS c =
    let wide : c.before.width_of-n.result ≡ set_bits =
    omega (arith, c.before.width_of-n.ensures) in
    rw (← c.before.width_of-n.ensures, wide) (sym (set_of_true set_bits))
