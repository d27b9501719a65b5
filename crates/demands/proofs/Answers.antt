-- Each call of the search has one of five answers, and no other. Assumes nothing.
use Prim.Native.Nat.{◌≤◌}
use native.Mathlib.Decide.{dec_le}
use native.Mathlib.Omega.{arith}
use mathlib.Core.Bool.{Bool, true, false, cond}
use mathlib.Core.Path.{◌≡◌, refl, ◌∙◌}
use borrow.Author.Tests.{le-leb, lt-leb}
use lib.Dec.{leb}
use lib.ListN.{length}
use Rattle.table.specs.Valid.{table_valid, rows_of}
use Rattle.table.specs.declared.Table.{Table}
use Rattle.traces.specs.Inner.Lawful.{Lawful}
use Rattle.traces.specs.Inner.Explore.{DecidesSame}
use Rattle.traces.specs.Inner.Judgement.{Judgement, RightJudgement, judge}
use Rattle.traces.specs.Inner.Judgement.Judgement.{too_many, sound, trapped}
use Rattle.traces.specs.Inner.Judgement.RightJudgement.{too_many_right, sound_right, trapped_right}
use Rattle.traces.proofs.Judgement.{judge_right, judge_only}
use Rattle.step.proofs.Systems.{table_lawful}
use Rattle.search.specs.Inner.Same.{same_phases}
use Rattle.search.proofs.Same.{phases_decided}
use Rattle.verdict.specs.Found.{refused_found, trapped_found}
use Rattle.search.specs.Lent.{Lent, Searched, room_of, system_of, traced}
use Rattle.search.specs.Inner.Computed.{judged, search_answer}
use Rattle.demands.specs.Searching.{Fit}
use Rattle.demands.specs.Inner.Answers.{with_entries, lists_in, ComputedAnswer}
use Rattle.demands.specs.Inner.Answers.ComputedAnswer.{is17, is20, is21, is_sound, is_trapped}

module _ (table : Table) where
  pub system_lawful : Lawful (system_of table)
  system_lawful = table_lawful table.signals (rows_of table)

  pub phases_differ : DecidesSame (system_of table) same_phases
  phases_differ = phases_decided table.signals (rows_of table)

module _ (table : Table) (lent : Lent) where
  -- Each call has one of the five answers.
  judged_answered : table_valid table ≡ true → (r : Judgement)
      → RightJudgement (system_of table) (room_of lent) r
      → ComputedAnswer table lent (judged r (lists_in table lent) lent (with_entries table lent))
  unfolding judged
  judged_answered p r (too_many_right m) = is20 p m
  judged_answered p r (sound_right c h s) = is_sound (record { passes = p; count = c; room = h }) s
  judged_answered p r (trapped_right {n = n} {k = k} {w = w} c h t) =
      go (dec_le (length w) (length lent.trace))
    where
      fit : Fit table lent n
      fit = record { passes = p; count = c; room = h }

      go : Dec (length w ≤ length lent.trace)
          → ComputedAnswer table lent (cond (leb (length w) (length lent.trace))
          (record {
            found = trapped_found n (lists_in table lent) w k;
            lent = traced w (with_entries table lent);
          })
          (record { found = refused_found 21; lent = with_entries table lent }))
      go (yes d) = rw (le-leb (length w) (length lent.trace) d) (is_trapped fit t d)
      go (no d) = rw (lt-leb (length w) (length lent.trace) (omega arith))
          (is21 fit t (omega arith))

  pub one_of_five : ComputedAnswer table lent (search_answer table lent)
  unfolding search_answer
  one_of_five = go (table_valid table) refl
    where
      go : (b : Bool) → table_valid table ≡ b → ComputedAnswer table lent (cond b
          (judged (judge (system_of table) same_phases (room_of lent)) (lists_in table lent) lent
          (with_entries table lent))
          (record { found = refused_found 17; lent = lent }))
      go true p = judged_answered p _
          (judge_right (system_of table) (room_of lent) (system_lawful table) same_phases
          (phases_differ table))
      go false p = is17 p

  -- And no other: what one of them says fixes all of the answer.
  pub right_judged : table_valid table ≡ true → (r : Judgement)
      → RightJudgement (system_of table) (room_of lent) r
      → search_answer table lent
      ≡ judged r (lists_in table lent) lent (with_entries table lent)
  unfolding search_answer
  right_judged p r t = rw (
    p,
    judge_only (system_of table) (room_of lent) (system_lawful table) same_phases
        (phases_differ table) r t,
  )

  pub answer_is : {a : Searched} → ComputedAnswer table lent a → search_answer table lent ≡ a
  unfolding judged
  answer_is (is17 p) = unfold search_answer in rw p
  answer_is (is20 p m) = right_judged p too_many (too_many_right m)
  answer_is (is21 {n = n} {k = k} {w = w} f t l) =
      right_judged f.passes (trapped n w k) (trapped_right f.count f.room t)
      ∙ rw (lt-leb (length w) (length lent.trace) l)
  answer_is (is_sound {n = n} f s) =
      right_judged f.passes (sound n) (sound_right f.count f.room s)
  answer_is (is_trapped {n = n} {k = k} {w = w} f t l) =
      right_judged f.passes (trapped n w k) (trapped_right f.count f.room t)
      ∙ rw (le-leb (length w) (length lent.trace) l)
