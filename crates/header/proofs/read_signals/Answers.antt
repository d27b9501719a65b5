-- `header::read_signals` meets its contract. Assumes nothing.
use Rattle.std.proofs.Common.{eqb, rules, tests}
use native.Mathlib.Omega.{arith}
use mathlib.Core.Path.{sym, ◌∙◌}
use Rattle.std.proofs.lemmas.Iterator.Consumers.{YieldsList-turn, YieldsList-end, YieldsList-from_enumerate}
use Rattle.std.proofs.lemmas.Iterator.Splits.{YieldsList-from_slice_split}
use Rattle.std.proofs.lemmas.Result.{err_from_is_err_and}
use Rattle.letters.specs.Lists.{same_bytes}
use lib.Seq.{take_all}
use Rattle.std.proofs.lemmas.List.{length_push}
use Rattle.text.specs.Lines.{space}
use Rattle.text.proofs.Parts.{none_refused, some_kept}
use Rattle.text.proofs.Splits.{count_le}
use Rattle.header.proofs.Shapes.{shaped_name}
use Rattle.header.proofs.SignalLaws.{answer_start, answer_name, answer_names}
use Rattle.header.proofs.SignalLaws.{name_zeros, named_none, named_next, named_all, turn_word, all_words, words_counted, word_right, word_wrong}
use Rattle.header.proofs.read_signals.Goals as goal

pub returns-in_err-rest : goal.returns-in_err-rest
unfolding same_bytes
returns-in_err-rest c =
    let none = none_refused _ _ _ c.strip_prefix.result c.strip_prefix.ensures.cases
    c.ok_or.ensures.value c.in_err-rest.was in
    let given = err_from_is_err_and c.from_residual.result c.from_residual.ensures.1 in
    rw (given.1, given.2, none.1) (sym (answer_start _ none.0))

pub loop-n-init : goal.loop-n-init
loop-n-init c =
    let none = name_zeros c.default-names.result c.default-names.ensures.long c.default-names.ensures.at in
    rw none (named_none _)

pub returns-in_err-keep_name : goal.returns-in_err-keep_name
unfolding same_bytes
returns-in_err-keep_name c =
    let begins = some_kept _ _ _ c.strip_prefix.result c.strip_prefix.ensures.cases
    c.ok_or.ensures.value c.in_ok-rest.was in
    let rest = c.in_ok-rest.rest.now in
    let all = YieldsList-from_enumerate
    (YieldsList-from_slice_split _ (λ x. eqb x 32) rest (cc) (cc) (cc)
    (λ x b q k. search (rules, tests))) (cc) in
    let turn = turn_word rest _ (YieldsList-turn all c.loop-n.yielded _ c.loop-n.yielded_by _ _ _
    c.in-Some.is c.next.ensures.steps) in
    let wrong = word_wrong _ c.keep_name.ensures.told c.in_err-keep_name.was in
    let given = err_from_is_err_and c.from_residual-in_err-keep_name.result
    c.from_residual-in_err-keep_name.ensures.1 in
    rw (given.1, given.2, wrong.1)
    (sym (answer_name _ begins.0 _ (rw begins.1 at turn.1) (rw begins.1 at turn.2) wrong.0))

pub loop-n-preserved : goal.loop-n-preserved
loop-n-preserved c =
    let rest = c.in_ok-rest.rest.now in
    let all = YieldsList-from_enumerate
    (YieldsList-from_slice_split _ (λ x. eqb x 32) rest (cc) (cc) (cc)
    (λ x b q k. search (rules, tests))) (cc) in
    let turn = turn_word rest _ (YieldsList-turn all c.loop-n.yielded _ c.loop-n.yielded_by _ _ _
    c.in-Some.is c.next.ensures.steps) in
    let good = word_right _ c.keep_name.ensures.told c.in_ok-keep_name.was in
    let whole = take_all 8 c.in-Some.word.now (shaped_name _ good).few in
    rw (c.keep_name.ensures.kept good, whole, turn.0, length_push c.loop-n.yielded)
    (named_next _ _ _ c.loop-n.invariant turn.1 turn.2 good)

pub overflow_add-count_of : goal.overflow_add-count_of
overflow_add-count_of c =
    let begins = some_kept _ _ _ c.strip_prefix.result c.strip_prefix.ensures.cases
    c.ok_or.ensures.value c.in_ok-rest.was in
    omega (arith, begins.2, c.count_of.ensures, count_le space c.in_ok-rest.rest.now)

pub returns : goal.returns
unfolding same_bytes
returns c =
    let begins = some_kept _ _ _ c.strip_prefix.result c.strip_prefix.ensures.cases
    c.ok_or.ensures.value c.in_ok-rest.was in
    let rest = c.in_ok-rest.rest.now in
    let all = YieldsList-from_enumerate
    (YieldsList-from_slice_split _ (λ x. eqb x 32) rest (cc) (cc) (cc)
    (λ x b q k. search (rules, tests))) (cc) in
    let done = YieldsList-end all c.loop-n.yielded _ c.loop-n.yielded_by _ _ c.in-None.is
    c.next.ensures.steps in
    let named = named_all _ _ _ c.loop-n.invariant (done.1 ∙ all_words rest) in
    c.judge_names.ensures
    ∙ sym (answer_names _ begins.0 (rw begins.1 at named.0) (rw begins.1 at named.1)
    (rw begins.1 at (words_counted rest c.count_of.ensures)))
