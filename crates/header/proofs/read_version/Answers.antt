-- `header::read_version` meets its contract, by the tests on the way to each return. Assumes nothing.
use mathlib.Core.Bool.{true, false}
use mathlib.Core.Path.{sym}
use Rattle.std.proofs.lemmas.Result.{err_from_is_err_and}
use Rattle.letters.specs.Lists.{same_bytes}
use Rattle.text.proofs.Parts.{none_refused, some_kept}
use Rattle.header.proofs.HeaderLaws.{header_word, header_digits, header_version}
use Rattle.header.proofs.read_version.Goals as goal

pub returns-in_err-digits : goal.returns-in_err-digits
unfolding same_bytes
returns-in_err-digits c =
    let none = none_refused _ _ _ c.strip_prefix.result c.strip_prefix.ensures.cases
    c.ok_or.ensures.value c.in_err-digits.was in
    let given = err_from_is_err_and c.from_residual.result c.from_residual.ensures.1 in
    rw (given.1, given.2, none.1) (sym (header_word _ none.0))

pub returns-then-not-is_version : goal.returns-then-not-is_version
returns-then-not-is_version c =
    let some = some_kept _ _ _ c.strip_prefix.result c.strip_prefix.ensures.cases
    c.ok_or.ensures.value c.in_ok-digits.was in
    sym (header_digits _ (rw some.1 at (sym c.if-not-is_version.ensures)))

pub returns-then-eq : goal.returns-then-eq
unfolding same_bytes
returns-then-eq c =
    let some = some_kept _ _ _ c.strip_prefix.result c.strip_prefix.ensures.cases
    c.ok_or.ensures.value c.in_ok-digits.was in
    sym (header_version _ some.0 (rw some.1 at (sym c.if-not-is_version.ensures)) true
    (rw (some.1, c.as_slice.ensures) at (sym c.if-eq.ensures)))

pub returns-else-eq : goal.returns-else-eq
unfolding same_bytes
returns-else-eq c =
    let some = some_kept _ _ _ c.strip_prefix.result c.strip_prefix.ensures.cases
    c.ok_or.ensures.value c.in_ok-digits.was in
    sym (header_version _ some.0 (rw some.1 at (sym c.if-not-is_version.ensures)) false
    (rw (some.1, c.as_slice.ensures) at (sym c.if-eq.ensures)))
