-- What `checktable` can print.
use Rattle.std.specs.Prelude.{ℕ, ◌≤◌, List, [], ◌∷◌, ◌++◌}
use Rattle.text.specs.Lines.{ended}
use Rattle.verdict.specs.declared.RowLists.{RowLists}
use Rattle.lines.specs.Line.{refused_line, tick_lines}
use Rattle.report.specs.Report.{heading, size_lines, sound_line, trapped_line, lost_line, list_lines}

-- Refused by one of 1 to 16, refused by 20 with line 0, sound, or trapped.
pub data ProgramPrints : List ℕ → Type 0 where
  refused : (number line : ℕ) → 1 ≤ number → number ≤ 16
      → ProgramPrints (ended (heading ∷ refused_line number line ∷ []))
  many : ProgramPrints (ended (heading ∷ refused_line 20 0 ∷ []))
  sound : (rows n : ℕ) (lists : RowLists)
      → ProgramPrints (ended (heading ∷ size_lines rows n ++ sound_line ∷ list_lines rows lists))
  trapped : (rows n signals : ℕ) (w : List ℕ) (k : ℕ) (lists : RowLists)
      → ProgramPrints (ended (heading ∷ size_lines rows n
      ++ trapped_line ∷ tick_lines signals 1 w ++ lost_line k ∷ list_lines rows lists))
