-- How long a report can be where the trace buffer is no longer than the most room. Assumes nothing.
use Prim.Native.Nat.{ℕ, ◌≤◌, ◌<◌}
use native.Mathlib.Omega.{arith}
use mathlib.Core.Bool.{Bool, true, false, cond}
use mathlib.Core.List.{List}
use mathlib.Core.Path.{◌≡◌, refl}
use lib.Dec.{leb}
use lib.ListN.{length, length-replicate}
use borrow.Author.Tests.{leb-true}
use Rattle.table.specs.Limits.{most_rows}
use Rattle.table.specs.Valid.{table_valid}
use Rattle.std.specs.Prelude.{Ok, Err}
use Rattle.table.specs.declared.Table.{Table}
use Rattle.table.proofs.Laws.{table_valid_count, table_valid_signals}
use Rattle.traces.specs.Inner.Judgement.{Judgement}
use Rattle.traces.specs.Inner.Judgement.Judgement.{too_many, sound, trapped}
use Rattle.traces.proofs.Judgement.{Within, judge_within}
use Rattle.reader.specs.Inner.File.{read_answer}
use Rattle.reader.proofs.Accepted.{Decided, taken, turned, read_decided}
use Rattle.reader.proofs.Valid.{file_valid}
use Rattle.lists.specs.Room.{most_room}
use Rattle.search.specs.Inner.Same.{same_phases}
use Rattle.verdict.specs.declared.RowLists.{RowLists}
use Rattle.verdict.specs.Found.{Found, values_of, refused_found, trapped_found}
use Rattle.search.specs.Lent.{Lent, Searched, room_of, system_of, traced}
use Rattle.search.specs.Inner.Computed.{judged, search_answer}
use Rattle.search.proofs.Room.{room_most}
use Rattle.report.proofs.Lengths.{FewDigits, report_length}
use Rattle.checker.specs.FileReport.{program_lent, most_report}
use Rattle.checker.specs.Inner.Computed.{after_reading, check_answer}

refused_few : (rows number line : ℕ) → rows ≤ most_rows → number < 1000 → line < 1000
    → FewDigits rows most_room (values_of (Err (record { number = number; line = line })))
refused_few rows number line r m n = record {
  rules = omega arith;
  number = m;
  line = n;
  short = omega arith;
  lost = omega arith;
  count = omega arith;
}

-- What the search finds has numbers of few digits, and a trace that its buffer holds.
judged_few : (rows : ℕ) → rows ≤ most_rows → (room : ℕ) → room ≤ most_room → (a : Judgement)
    → Within room a → (lists : RowLists) (lent full : Lent) → length lent.trace ≤ most_room
    → FewDigits rows most_room (values_of (judged a lists lent full).found)
unfolding judged
judged_few rows r room h too_many w lists lent full short =
    refused_few rows 20 0 r (omega arith) (omega arith)
judged_few rows r room h (sound n) w lists lent full short = record {
  rules = omega arith;
  number = omega arith;
  line = omega arith;
  short = omega arith;
  lost = omega arith;
  count = omega arith;
}
judged_few rows r room h (trapped n t k) w lists lent full short =
    go (leb (length t) (length lent.trace)) refl
  where
    go : (c : Bool) → leb (length t) (length lent.trace) ≡ c
        → FewDigits rows most_room (values_of (cond {A = Searched} c
        (record { found = trapped_found n lists t k; lent = traced t full })
        (record { found = refused_found 21; lent = full })).found)
    go true e =
        let fits = leb-true (length t) (length lent.trace) e in
        record {
          rules = omega arith;
          number = omega arith;
          line = omega arith;
          short = omega arith;
          lost = omega (arith, w.1);
          count = omega (arith, w.0);
        }
    go false e = refused_few rows 21 0 r (omega arith) (omega arith)

module _ (table : Table) (lent : Lent) (short : length lent.trace ≤ most_room) where
  searched_few : table_valid table ≡ true
      → FewDigits table.count most_room (values_of (search_answer table lent).found)
  unfolding search_answer
  searched_few fits =
      rw fits (judged_few table.count (table_valid_count table fits).1 (room_of lent)
      (room_most lent) _ (judge_within (system_of table) (room_of lent) same_phases) _ lent _ short)

  accepted_short : table_valid table ≡ true
      → length (after_reading (Ok tt) table lent).report ≤ most_report
  accepted_short fits =
      let searched = search_answer table lent in
      let signals = (table_valid_signals table fits).1 in
      let few = report_length table.count table.signals most_room 3 17
      searched.lent.trace (omega arith) (omega arith) searched.found (searched_few fits) in
      omega (arith, few, (table_valid_count table fits).1)

checked_short : (bytes : List ℕ) (lent : Lent) → length lent.trace ≤ most_room
    → length (check_answer bytes lent).report ≤ most_report
unfolding check_answer
checked_short bytes lent short = go (read_decided bytes)
  where
    go : Decided bytes (read_answer bytes) → length (check_answer bytes lent).report ≤ most_report
    go (taken table file e) = rw e (accepted_short table lent short (file_valid bytes table file))
    go (turned number line one small low e) =
        let found : Found = Err (record { number = number; line = line }) in
        let few = report_length 0 0 most_room 3 17 lent.trace (omega arith) (omega arith) found
        (refused_few 0 number line (omega arith) (omega arith) (omega arith)) in
        rw e (omega (arith, few))

pub program_short : (bytes : List ℕ)
    → length (check_answer bytes program_lent).report ≤ most_report
program_short bytes = checked_short bytes program_lent (rw length-replicate (omega arith))
