-- `letters::signal_set` meets its contract. Assumes nothing.
use native.Mathlib.Omega.{arith}
use mathlib.Core.Bool.{true, false}
use mathlib.Core.Path.{refl, sym, ◌∙◌}
use Rattle.letters.specs.Letter.{signal_on, set_of}
use Rattle.letters.proofs.Bits.{one_shifted}
use Rattle.letters.proofs.Sets.{set_of_lt, one_more, room}
use Rattle.letters.proofs.signal_set.Goals as goal
use Rattle.letters.proofs.signal_set.Goals.{then-contains, else-contains}

pub loop-l-init : goal.loop-l-init
unfolding set_of
loop-l-init c = refl

pub overflow_add-set : goal.overflow_add-set
overflow_add-set c =
    let l = c.loop-l.l in
    rw (one_shifted l (omega arith))
    (omega (arith, set_of_lt l (λ i. signal_on i c.args.k), room l (omega arith)))

pub loop-l-preserved : goal.loop-l-preserved
loop-l-preserved c =
    let l = c.loop-l.l in
    let more = one_more l c.loop-l.set (λ i. signal_on i c.args.k) in
    elim c.if-contains.branch [
      | then-contains w ↦
          w.set-is ∙ rw (one_shifted l (omega arith))
          (omega (arith, more true (sym c.contains.ensures ∙ w.if-contains.true) c.loop-l.invariant))
      | else-contains w ↦
          w.set-is ∙ omega (arith, more false (sym c.contains.ensures ∙ w.if-contains.false) c.loop-l.invariant)
    ]
