-- The worked cases of the load, by computing over the definitions. Assumes nothing.
use Prim.Native.Nat.{ℕ}
use mathlib.Core.List.{List, [], ◌∷◌, ◌++◌, map}
use mathlib.Core.Path.{◌≡◌, refl, ap₂, ◌∙◌}
use Rattle.letters.specs.Letter.{bit_at, set_of}
use Rattle.text.specs.Bounds.{digits, decimal}
use Rattle.table.specs.declared.Row.{Row}
use Rattle.text.specs.Lines.{All, ended}
use Rattle.text.specs.Lines.All.{none, and}
use Rattle.traces.specs.Trace.{run}
use Rattle.step.specs.Step.{action_check, delay_check, trigger_check, start_check, step_row}
use Rattle.step.specs.Events.{action_events, delay_events, trigger_events, start_events, row_events}
use Rattle.step.specs.Events.{tick_events, trace_events, times_of, is_open}
use Rattle.step.specs.Tick.{tick}
use Rattle.reader.proofs.Accepted.{accepted_file}
use Rattle.load.specs.Load.{next_number, numbers_from, letter_of, load_of, totals_of, sum_of, sums_of}
use Rattle.lines.specs.Line.{spaced}
use Rattle.totals.specs.Totals.{totals_lines, sums_line}
use Rattle.checker.specs.FileLoad.{load_start, load_ticks}
use Rattle.checker.specs.Inner.Computed.{load_answer}
use Rattle.demands.specs.Loading.RightLoad.{loaded}
use Rattle.demands.specs.Examples.Cases.{report, three}
use Rattle.demands.specs.Examples.Texts.{text_p, text_not_c, text_late, file_of, table_of}
use Rattle.demands.specs.Examples.Loads.{FirstNumbers, LoadCaseMeans, load_cases}
use Rattle.demands.specs.Examples.Loads.{whole_totals, three_totals}
use Rattle.demands.proofs.LoadTexts.{load_only}
use Rattle.demands.proofs.WholeReport.{boards_read, more_read}

pub numbers_worked : FirstNumbers
unfolding numbers_from next_number letter_of
numbers_worked = record { numbers = refl; six = refl; two = refl; one = refl; none = refl }

pub loads_worked : All LoadCaseMeans load_cases
unfolding load_cases numbers_from next_number letter_of totals_of times_of trace_events tick_events tick run
    row_events start_events trigger_events delay_events action_events step_row start_check trigger_check
    delay_check action_check is_open bit_at set_of
loads_worked =
    and refl (and refl (and refl (and refl (and refl (and refl (and refl (and refl (and refl
    (and refl (and refl (and refl (and refl none))))))))))))

-- What `loadtable` prints of the file in "A whole report", to the byte.
text_of : ℕ → List Row → List ℕ
text_of s rows =
    let all = map (λ row. totals_of s row (load_of s load_start load_ticks)) rows in
    ended (totals_lines 1 all ++ sums_line (sums_of all) ∷ [])

text_computed : text_of 2 report ≡ whole_totals
unfolding text_of ended numbers_from next_number letter_of totals_of times_of trace_events tick_events tick
    run row_events start_events trigger_events delay_events action_events step_row start_check trigger_check
    delay_check action_check is_open bit_at set_of sums_of sum_of totals_lines spaced decimal digits
text_computed = refl

pub whole_load : load_answer (file_of (text_p ∷ text_not_c ∷ [])) ≡ whole_totals
unfolding text_of
whole_load =
    let file = boards_read.4 in
    let table = table_of (text_p ∷ text_not_c ∷ []) in
    load_only _ _ (loaded (accepted_file _ table file.accepted_is))
    ∙ ap₂ text_of file.signals file.rows_are ∙ text_computed

-- And of a table whose four sums differ.
three_computed : text_of 2 three ≡ three_totals
unfolding text_of ended numbers_from next_number letter_of totals_of times_of trace_events tick_events tick
    run row_events start_events trigger_events delay_events action_events step_row start_check trigger_check
    delay_check action_check is_open bit_at set_of sums_of sum_of totals_lines spaced decimal digits
three_computed = refl

pub three_load : load_answer (file_of (text_p ∷ text_not_c ∷ text_late ∷ [])) ≡ three_totals
unfolding text_of
three_load =
    let file = more_read.1 in
    let table = table_of (text_p ∷ text_not_c ∷ text_late ∷ []) in
    load_only _ _ (loaded (accepted_file _ table file.accepted_is))
    ∙ ap₂ text_of file.signals file.rows_are ∙ three_computed
