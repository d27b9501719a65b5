-- How long a report is. Assumes nothing.
use Prim.Native.Nat.{ℕ, suc, ◌+◌, ◌*◌, ◌^◌, ◌<◌, ◌≤◌}
use native.Mathlib.Nat.{mul-le-mul_right}
use native.Mathlib.Omega.{arith}
use mathlib.Core.List.{List, [], ◌∷◌, ◌++◌}
use lib.ListN.{length, take, length-take}
use Rattle.text.specs.Bytes.{bytes}
use Rattle.text.specs.Bounds.{decimal}
use Rattle.text.specs.Lines.{ended}
use Rattle.std.specs.Prelude.{Ok, Err}
use Rattle.verdict.specs.declared.Finding.TheVariants.{Sound, Trapped}
use Rattle.verdict.specs.declared.Trap.{Trap}
use Rattle.verdict.specs.Found.{Found, Values, values_of}
use Rattle.put.specs.Inner.Puts.{last_place}
use Rattle.put.proofs.Pages.{whole_page}
use Rattle.lines.specs.Line.{refused_line, tick_lines}
use Rattle.lines.proofs.Lengths.{more_length, both_length, numbered_length, refused_length}
use Rattle.lines.proofs.Lengths.{ticks_length, row_line_length}
use Rattle.report.specs.Report.{heading, size_lines, sound_line, trapped_line, lost_line}
use Rattle.report.specs.Report.{trap_lines, list_lines, report_lines, report_bytes}

-- Numbers of few digits, and a trace of at most so many ticks.
pub record FewDigits (rows ticks : ℕ) (values : Values) : Type 0 where
  pub rules : rows < 1000
  pub number : values.number < 1000
  pub line : values.line < 1000
  pub short : values.length ≤ ticks
  pub lost : values.lost < 100000
  pub count : values.count < 100000

size_length : (rows n : ℕ) → rows < 1000 → n < 100000 → length (ended (size_lines rows n)) ≤ 31
size_length rows n few count =
    let first = numbered_length 2 (bytes "rules ") rows few in
    let second = numbered_length 4 (bytes "configurations ") n count in
    omega (
      arith,
      first,
      second,
      both_length ((bytes "rules " ++ decimal rows) ∷ [])
          ((bytes "configurations " ++ decimal n) ∷ []),
    )

-- The ticks' numbers are below 10^(k+1), and each tick line takes at most `most` bytes.
module _ (rows signals ticks k most : ℕ) (buffer : List ℕ) (low : ticks < 10 ^ suc k)
    (enough : signals + k + 8 ≤ most) where
  trap_length : (trap : Trap) → trap.length ≤ ticks → trap.lost < 100000
      → length (ended (trap_lines signals buffer trap)) ≤ ticks * most + 11
  trap_length trap short few =
      let w = take trap.length buffer in
      let many : length w ≤ ticks = rw length-take (omega arith) in
      let lines = ticks_length signals k most enough 1 w (omega arith) in
      let lost = numbered_length 4 (bytes "lost ") trap.lost few in
      let both = both_length (tick_lines signals 1 w) (lost_line trap.lost ∷ []) in
      omega (arith, lines, lost, both, mul-le-mul_right most many)

  pub report_length : (found : Found) → FewDigits rows ticks (values_of found)
      → length (report_bytes rows signals buffer found) ≤ ticks * most + rows * 4 + 100
  unfolding report_lines
  report_length (Err r) few =
      let line = refused_length r.number r.line few.number few.line in
      omega (arith, line, more_length heading (refused_line r.number r.line ∷ []))
  report_length (Ok (Sound summary)) few =
      let sizes = size_lines rows summary.count in
      let lists = list_lines rows summary.lists in
      let size = size_length rows summary.count few.rules few.count in
      let list = row_line_length summary.lists.never (bytes "never") rows few.rules in
      omega (
        arith,
        size,
        list,
        more_length heading (sizes ++ sound_line ∷ lists),
        both_length sizes (sound_line ∷ lists),
        more_length sound_line lists,
      )
  report_length (Ok (Trapped summary trap)) few =
      let sizes = size_lines rows summary.count in
      let lists = list_lines rows summary.lists in
      let size = size_length rows summary.count few.rules few.count in
      let trace = trap_length trap few.short few.lost in
      let list = row_line_length summary.lists.never (bytes "never") rows few.rules in
      let rest = trap_lines signals buffer trap in
      omega (
        arith,
        size,
        trace,
        list,
        both_length (heading ∷ sizes ++ trapped_line ∷ rest) lists,
        more_length heading (sizes ++ trapped_line ∷ rest),
        both_length sizes (trapped_line ∷ rest),
        more_length trapped_line rest,
      )

-- Every report that can be asked for has far fewer bytes than there are places.
pub report_short : (rows signals : ℕ) (trace : List ℕ) (found : Found) → signals < 256
    → FewDigits rows 65535 (values_of found)
    → length (report_bytes rows signals trace found) ≤ last_place
report_short rows signals trace found low few =
    omega (
      arith,
      few.rules,
      report_length rows signals 65535 4 267 trace (omega arith) (omega arith) found few,
    )

pub ruleset whole_report = (whole_page, report_short)
