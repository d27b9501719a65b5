-- `conditions::choice`, `term` and `factor`, which call each other, meet their contracts. Assumes
-- nothing.
use borrow.Author.Rules.{rules}
use native.Mathlib.Omega.{arith}
use Prim.Native.Nat.{◌+◌}
use mathlib.Core.Path.{refl, sym, ◌∙◌}
use lib.ListN.{take}
use Rattle.letters.specs.Letter.{width}
use Rattle.std.specs.Prelude.{Some}
use Rattle.conditions.specs.Condition.{Kind}
use Rattle.conditions.specs.Inner.Reading.{ReadsAs}
use Rattle.conditions.proofs.Bytes.{is_at_lt}
use Rattle.conditions.proofs.Steps.{choices, terms, reads_past, factor_grouped, factor_digit}
use Rattle.conditions.proofs.Steps.{signs_end, signs_within, signs_read, signs_lost}
use Rattle.conditions.proofs.+choice_factor_term.Goals.{factor-then-is_at+in_ok-choice+in_ok-part}
use Rattle.conditions.proofs.+choice_factor_term.Goals.{factor-else-is_at+in_ok-part-2}
use Rattle.conditions.proofs.+choice_factor_term.Goals as goal

pub choice-joined-requires-clause-past : goal.choice-joined-requires-clause-past
choice-joined-requires-clause-past t c = λ i r h. reads_past r h

pub choice-returns : goal.choice-returns
choice-returns t c = c.joined.ensures _ _ _ _ _ choices (λ v w x e. search rules) (λ i q h. h)

pub term-joined-requires-clause-past : goal.term-joined-requires-clause-past
term-joined-requires-clause-past t c = λ i r h. reads_past r h

pub term-returns : goal.term-returns
term-returns t c = c.joined.ensures _ _ _ _ _ terms (λ v w x e. search rules) (λ i q h. h)

pub factor-overflow_add-from : goal.factor-overflow_add-from
factor-overflow_add-from t c = omega (
  arith,
  signs_within c.args.s.now c.args.at c.signs_at-signs.ensures,
)

pub factor-overflow_add-from-then-is_at : goal.factor-overflow_add-from-then-is_at
factor-overflow_add-from-then-is_at t c =
    let inside = is_at_lt _ _ _ (sym c.if-is_at.ensures) in
    omega arith

pub factor-choice-requires : goal.factor-choice-requires
factor-choice-requires t c =
    let inside = is_at_lt _ _ _ (sym c.if-is_at.ensures) in
    (omega arith, tt)

pub factor-returns-in_err-choice : goal.factor-returns-in_err-choice
factor-returns-in_err-choice t c =
    let signs = c.signs_at-signs.ensures in
    rw c.from_residual.ensures
    (signs_lost signs (factor_grouped (signs_end _ _ signs) (sym c.if-is_at.ensures)
    (rw c.in_err-choice.was at c.choice.ensures) refl))

pub factor-returns-in_err-part : goal.factor-returns-in_err-part
factor-returns-in_err-part t c =
    let signs = c.signs_at-signs.ensures in
    rw c.from_residual-in_err-part.ensures
    (signs_lost signs (factor_grouped (signs_end _ _ signs) (sym c.if-is_at.ensures)
    (rw c.in_ok-choice.was at c.choice.ensures) (sym c.in_err-part.was ∙ c.close.ensures)))

pub factor-returns-in_err-part-2 : goal.factor-returns-in_err-part-2
factor-returns-in_err-part-2 t c =
    let signs = c.signs_at-signs.ensures in
    rw c.from_residual-in_err-part-2.ensures
    (signs_lost signs (factor_digit (signs_end _ _ signs) (sym c.if-is_at.ensures)
    (sym c.in_err-part-2.was ∙ c.digit_at.ensures)))

-- What follows the signs is a factor.
pub factor-returns : goal.factor-returns
factor-returns t c =
    let signs = c.signs_at-signs.ensures in
    let part : ReadsAs (take c.args.signals.count c.args.signals.names) (width c.args.signals.count)
    c.args.s.now Kind.factor (c.args.at + c.signs_at-signs.result) (Some c.if-is_at.part) =
    elim c.if-is_at.branch [
      | factor-then-is_at+in_ok-choice+in_ok-part w ↦
          factor_grouped (signs_end _ _ signs) (sym w.if-is_at.ensures)
          (rw w.in_ok-choice.was at w.choice.ensures)
          (rw w.part-is (sym w.in_ok-part.was ∙ w.close.ensures))
      | factor-else-is_at+in_ok-part-2 w ↦
          factor_digit (signs_end _ _ signs) (sym w.if-is_at.ensures)
          (rw w.part-is (sym w.in_ok-part-2.was ∙ w.digit_at.ensures))
    ] in
    signs_read signs part c.signed.ensures
