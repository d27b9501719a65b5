-- `letters::others` meets its contract: a set has the letters of its own that so many signals have,
-- taken from all of those. Assumes nothing.
use Prim.Native.Nat.{ℕ, ◌^◌, ◌-◌, ◌%◌}
use native.Mathlib.Nat.{mod-lt}
use mathlib.Core.Bool.{not}
use mathlib.Core.Path.{◌≡◌, ap, ◌∙◌}
use lib.Bits.{bit_and, and_mask, and_comm}
use lib.Pow.{pow_pos}
use Rattle.letters.specs.Letter.{in_set, width}
use Rattle.letters.proofs.Sets.{set_of_true, set_of_ext, others_is, bit_low}
use Rattle.letters.proofs.others.Goals as goal

-- what the code takes away: the letters of the set below n
masked : (n full set : ℕ) → full ≡ 2 ^ n - 1 → bit_and full set ≡ set % 2 ^ n
masked n full set e = rw (e, and_comm (2 ^ n - 1) set) (and_mask set n)

full_is : (c : goal.After-all-full) → c.all-full.result ≡ 2 ^ width c.before.args.signals - 1
full_is c = c.all-full.ensures ∙ set_of_true (width c.before.args.signals)

pub returns : goal.returns
returns c =
    let n = width c.before.args.signals in
    let set = c.before.args.set in
    rw (masked n c.all-full.result set (full_is c), full_is c)
    (others_is n (set % 2 ^ n) (mod-lt set (pow_pos n))
    ∙ set_of_ext n (λ l. not (in_set (set % 2 ^ n) l)) (λ l. not (in_set set l))
    (λ l h. ap not (bit_low n set l h)))
