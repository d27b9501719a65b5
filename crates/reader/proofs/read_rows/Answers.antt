-- `reader::read_rows` meets its contract. Assumes nothing.
use Prim.Native.Nat.{ℕ, ◌≤◌, ◌-◌, ◌+◌}
use native.Mathlib.Omega.{arith}
use mathlib.Core.List.{List, [], ◌∷◌, ◌++◌}
use mathlib.Core.Path.{◌≡◌, sym, ap, ap₂, ◌∙◌}
use lib.ListN.{length-map, length, take, drop, length-drop}
use Rattle.std.specs.Prelude.{Result, Ok}
use Rattle.std.proofs.lemmas.Result.{err_from_is_err_and}
use Rattle.letters.specs.Letter.{width}
use Rattle.table.specs.declared.Row.{Row}
use Rattle.table.specs.declared.Signals.{Signals}
use Rattle.text.specs.Inner.Cut.{front}
use Rattle.text.specs.Lines.{LF}
use Rattle.text.specs.declared.Version.{Version}
use Rattle.text.proofs.Parts.{rest_whole, part_front}
use Rattle.text.proofs.Splits.{front_length}
use Rattle.rows.specs.Inner.Row.{row_answer}
use Rattle.rows.specs.declared.RowRead.{RowRead}
use Rattle.reader.specs.Inner.File.{row_of}
use Rattle.reader.proofs.Lines.{on_line_ok, on_line_err}
use Rattle.reader.proofs.Gathering.{rows_fault, rows_accepted}
use Rattle.reader.proofs.Gathering.{gathering_next, gathering_fault}
use Rattle.reader.proofs.Gathering.{gathering_ninth, gathering_ends, gathered_all}
use Rattle.reader.proofs.read_rows.Goals as goal

-- The line that a turn looks at: it begins at a place, and its length was found.
module _ (whole : List ℕ) (at : ℕ) {n : ℕ}
    (got : n ≡ length (front LF (take (length whole - at) (drop at whole)))) where
  found : n ≡ length (front LF (drop at whole))
  found = got ∙ ap (λ (l : List ℕ). length (front LF l)) (rest_whole whole at)

  fits : at ≤ length whole → at + n ≤ length whole
  fits within = omega (arith, found, front_length LF (drop at whole), length-drop at whole)

  part : take (at + n - at) (drop at whole) ≡ front LF (drop at whole)
  part =
      let e : at + n - at ≡ n = omega arith in
      ap (λ (k : ℕ). take k (drop at whole)) e ∙ part_front LF (drop at whole) found

  -- And what it is read as.
  read_is : (signals : Signals) (version : Version) {read : Result RowRead ℕ}
      → read ≡ row_answer (take signals.count signals.names) (width signals.count) version
      (take (at + n - at) (drop at whole))
      → row_answer (take signals.count signals.names) (width signals.count) version
      (front LF (drop at whole)) ≡ read
  read_is signals version e =
      sym (e ∙ ap (row_answer (take signals.count signals.names) (width signals.count) version) part)

pub returns-then-i-ge-MOST_ROWS : goal.returns-then-i-ge-MOST_ROWS
returns-then-i-ge-MOST_ROWS c =
    let inv = c.loop-at.invariant.1 in
    sym (rows_fault _ _ _ _ inv.1.1 _ _
    (gathering_ninth _ _ _ _ _ _ _ _ _ inv.0 c.loop-at-test.true (omega arith)))

pub overflow_add-end : goal.overflow_add-end
overflow_add-end c =
    let within = fits c.args.rest.now c.loop-at.at c.find.ensures (omega arith) in
    omega arith

pub slice_bounds-read_row-end : goal.slice_bounds-read_row-end
slice_bounds-read_row-end c = fits c.args.rest.now c.loop-at.at c.find.ensures (omega arith)

pub returns-in_err-read : goal.returns-in_err-read
returns-in_err-read c =
    let a = c.args in
    let inv = c.loop-at.invariant.1 in
    let read = read_is a.rest.now c.loop-at.at c.find.ensures a.signals a.version c.read_row.ensures in
    let lost = on_line_err (c.loop-at.n + 3) c.read_row.result c.on_line.ensures c.in_err-read.was in
    let given = err_from_is_err_and c.from_residual.result c.from_residual.ensures.1 in
    rw (given.1, given.2, lost.1)
    (sym (rows_fault _ _ _ _ inv.1.1 _ _
    (gathering_fault _ _ _ _ _ _ _ _ _ inv.0 c.loop-at-test.true (omega arith) (read ∙ lost.0))))

pub loop-at-preserved : goal.loop-at-preserved
loop-at-preserved c =
    let a = c.args in
    let inv = c.loop-at.invariant.1 in
    let within = fits a.rest.now c.loop-at.at c.find.ensures (omega arith) in
    let read = read_is a.rest.now c.loop-at.at c.find.ensures a.signals a.version c.read_row.ensures in
    let got = on_line_ok (c.loop-at.n + 3) c.read_row.result c.on_line.ensures c.in_ok-read.was in (
      c.loop-at.invariant.0 ++ (c.in_ok-read.read ∷ []),
      (
        rw (c.from-i.ensures, found a.rest.now c.loop-at.at c.find.ensures)
            (gathering_next _ _ _ _ _ _ _ _ _ inv.0 c.loop-at-test.true (omega arith) (read ∙ got)),
        (omega arith, inv.1.1),
      ),
    )

pub returns : goal.returns
returns c =
    let a = c.args in
    let inv = c.loop-at.invariant.1 in
    ap₂ (λ (k : ℕ) (l : List Row). record {
      outcome = Ok tt;
      table = record { signals = a.signals.count; names = a.signals.names; count = k; rows = l };
    })
    (sym (length-map c.loop-at.invariant.0 row_of ∙ inv.0.many))
    (c.rows_of-rows.ensures ∙ gathered_all _ _ _ _ _ _ _ _ _ inv.0)
    ∙ sym (rows_accepted _ _ _ _ inv.1.1 _
    (gathering_ends _ _ _ _ _ _ _ _ _ inv.0 c.loop-at-test.false))
