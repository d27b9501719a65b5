-- What two pieces take, one after the other. Assumes nothing.
use Rattle.std.proofs.Common.{◌≡◌, ℕ, ◌+◌, List, take, drop, sym, subst}
use Rattle.std.specs.Prelude.{Option}
use Rattle.std.specs.Io.KnownBytes.{Consumes}
use Rattle.std.proofs.Math.Seq.{take-add}
use Rattle.std.proofs.KnownBytes.{Consumes-trans}

pub takes_more : (left mid rest : Option (List ℕ)) (done n : ℕ) (file next : List ℕ)
    → take done next ≡ take done file → Consumes left mid (take done file)
    → Consumes mid rest (take n (drop done next)) → Consumes left rest (take (done + n) next)
takes_more left mid rest done n file next front first second =
    let fronts = subst (Consumes left mid) (sym front) first in
    rw take-add (Consumes-trans left mid rest _ _ fronts second)
