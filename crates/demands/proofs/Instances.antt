-- An instance of each answer of the search that no starred case has, by computation over the
-- definitions: sound, 20, 21 and 17. Assumes nothing.
use Prim.Native.Nat.{ℕ, ◌≤◌}
use native.Mathlib.Omega.{arith}
use mathlib.Core.Bool.{true, false}
use mathlib.Core.List.{List, [], ◌∷◌}
use mathlib.Core.Path.{◌≡◌, refl}
use lib.Dec.{lit≤}
use lib.ListN.{length}
use Rattle.letters.specs.Letter.{bit_at, set_of}
use Rattle.letters.specs.Lists.{some}
use Rattle.table.specs.Valid.{counts_allowed, table_valid}
use Rattle.table.specs.declared.Row.{Row}
use Rattle.table.specs.declared.Table.{Table}
use Rattle.traces.specs.Inner.Explore.{has, enter, visit, explore}
use Rattle.traces.specs.Inner.Passing.{some_below, some_passes}
use Rattle.traces.specs.Inner.Least.{pass_below, breaks_in, lost_within}
use Rattle.traces.specs.Inner.Judgement.{RightJudgement, verdict_from, judge}
use Rattle.traces.specs.Inner.Judgement.Judgement.{too_many, sound, trapped}
use Rattle.traces.specs.Inner.Judgement.RightJudgement.{too_many_right, trapped_right}
use Rattle.traces.proofs.Judgement.{judge_right}
use Rattle.step.specs.Phase.{is_broken}
use Rattle.step.specs.Step.{action_check, delay_check, trigger_check, start_check, step_row}
use Rattle.step.specs.Tick.{tick, table_system}
use Rattle.step.specs.Events.{action_events, delay_events, trigger_events, start_events, row_events}
use Rattle.step.specs.Events.{tick_events}
use Rattle.step.specs.Inner.Firing.{fires_at}
use Rattle.step.proofs.Systems.{table_lawful}
use Rattle.search.specs.Inner.Same.{kind_of, elapsed, same_phase, same_phases}
use Rattle.search.proofs.Same.{phases_decided}
use Rattle.reader.specs.Reading.{empty_table}
use Rattle.reader.proofs.Accepted.{accepted_file}
use Rattle.reader.proofs.Valid.{file_valid}
use Rattle.verdict.specs.Found.{refused_found, sound_found}
use Rattle.search.specs.Lent.{Lent, room_of, cleared}
use Rattle.search.specs.Inner.Computed.{never_within, search_answer}
use Rattle.demands.specs.Examples.Cases.{P, report, no_rows}
use Rattle.demands.specs.Examples.Texts.{text_p, text_not_c, table_of, ReadAs}
use Rattle.demands.specs.Searching.{Fit, RightLists, Entered}
use Rattle.demands.specs.Inner.Answers.{with_entries}
use Rattle.demands.specs.Inner.Answers.ComputedAnswer.{is17, is20, is21}
use Rattle.demands.proofs.Answers.{answer_is}
use Rattle.demands.proofs.Described.{entries_entered}
use Rattle.demands.proofs.Starred.{computed_right, report_right, sound_fit, sound_is}
use Rattle.demands.proofs.WholeReport.{boards_read}

-- What is computed of some rows is right of them.
right_of : (rows : List Row) (room : ℕ)
    → RightJudgement (table_system 2 rows) room (judge (table_system 2 rows) same_phases room)
right_of rows room =
    judge_right (table_system 2 rows) room (table_lawful 2 rows) same_phases (phases_decided 2 rows)

alone_answers : judge (table_system 2 (P ∷ [])) same_phases 2 ≡ sound 2
unfolding judge verdict_from lost_within breaks_in pass_below explore visit enter has same_phases
    same_phase kind_of elapsed tick step_row start_check trigger_check delay_check action_check bit_at set_of
    some is_broken
alone_answers = refl

alone_at_eight : judge (table_system 2 (P ∷ [])) same_phases 8 ≡ sound 2
unfolding judge verdict_from lost_within breaks_in pass_below explore visit enter has same_phases
    same_phase kind_of elapsed tick step_row start_check trigger_check delay_check action_check bit_at set_of
    some is_broken
alone_at_eight = refl

alone_crowded : judge (table_system 2 (P ∷ [])) same_phases 1 ≡ too_many
unfolding judge verdict_from lost_within breaks_in pass_below explore visit enter has same_phases
    same_phase kind_of elapsed tick step_row start_check trigger_check delay_check action_check bit_at set_of
    some is_broken
alone_crowded = refl

alone_right : RightLists 2 (P ∷ []) no_rows
unfolding explore visit enter has same_phases same_phase kind_of elapsed tick step_row start_check
    trigger_check delay_check action_check bit_at set_of some is_broken never_within some_passes some_below
    fires_at tick_events row_events start_events trigger_events delay_events action_events
alone_right = computed_right (P ∷ []) 2 0 (lit≤ tt) refl

-- P alone, as the reader gives it.
abbrev pub alone : Table
alone = table_of (text_p ∷ [])

module _ (lent : Lent) where
  read : ReadAs (text_p ∷ []) (P ∷ [])
  read = boards_read.0

  passes : table_valid alone ≡ true
  passes = file_valid _ alone (accepted_file _ alone read.accepted_is)

  -- "P alone: sound, two states";
  pub alone_sound : 2 ≤ room_of lent
      → (held : Lent) × Entered alone 2 lent held
      × (search_answer alone lent ≡ record { found = sound_found 2 no_rows; lent = held })
  alone_sound room = (
    with_entries alone lent,
    entries_entered alone lent 2 (sound_fit (P ∷ []) 2 0 alone_at_eight alone_right alone lent passes
        read.signals read.rows_are room),
    sound_is (P ∷ []) 2 0 alone_at_eight alone_right alone lent passes read.signals
        read.rows_are room,
  )

  -- "room 1 is refused with 20".
  pub alone_many : room_of lent ≡ 1
      → search_answer alone lent ≡ record { found = refused_found 20; lent = cleared lent }
  alone_many one = go (rw alone_crowded at (right_of (P ∷ []) 1))
    where
      go : RightJudgement (table_system 2 (P ∷ [])) 1 too_many
          → search_answer alone lent ≡ record { found = refused_found 20; lent = cleared lent }
      go (too_many_right m) =
          answer_is alone lent (is20 passes (rw (one, read.signals, read.rows_are) m))

-- The report's table is 21 with a buffer of no bytes: its trace has one letter.
abbrev pub both : Table
both = table_of (text_p ∷ text_not_c ∷ [])

module _ (lent : Lent) where
  both_read : ReadAs (text_p ∷ text_not_c ∷ []) report
  both_read = boards_read.4

  pub both_refused : 2 ≤ room_of lent → length lent.trace ≡ 0
      → (held : Lent) × Entered both 2 lent held
      × (search_answer both lent ≡ record { found = refused_found 21; lent = held })
  both_refused room none = go (report_right (room_of lent) room)
    where
      go : RightJudgement (table_system 2 report) (room_of lent) (trapped 2 (1 ∷ []) 1)
          → (held : Lent) × Entered both 2 lent held
          × (search_answer both lent ≡ record { found = refused_found 21; lent = held })
      go (trapped_right c low t) =
          let read = both_read in
          let fit : Fit both lent 2 = record {
            passes = file_valid _ both (accepted_file _ both read.accepted_is);
            count = rw (read.signals, read.rows_are) c;
            room = low;
          } in (
            with_entries both lent,
            entries_entered both lent 2 fit,
            answer_is both lent
                (is21 {k = 1} {w = 1 ∷ []} fit (rw (read.signals, read.rows_are) t)
                (omega (arith, none))),
          )

-- The empty table is 17: it has no signals.
empty_invalid : table_valid empty_table ≡ false
unfolding table_valid counts_allowed
empty_invalid = refl

pub empty_refused : (lent : Lent)
    → search_answer empty_table lent ≡ record { found = refused_found 17; lent = lent }
empty_refused lent = answer_is empty_table lent (is17 empty_invalid)
