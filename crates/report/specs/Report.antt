-- "A whole report": its lines, for each thing that can be found of a table.
use Rattle.std.specs.Prelude.{ℕ, List, [], ◌∷◌, ◌++◌, take}
use Rattle.text.specs.Bounds.{decimal}
use Rattle.text.specs.Bytes.{bytes}
use Rattle.text.specs.Lines.{ended}
use Rattle.verdict.specs.Found.{Found}
use Rattle.std.specs.Prelude.{Ok, Err}
use Rattle.verdict.specs.declared.Finding.TheVariants.{Sound, Trapped}
use Rattle.verdict.specs.declared.RowLists.{RowLists}
use Rattle.verdict.specs.declared.Trap.{Trap}
use Rattle.lines.specs.Line.{refused_line, tick_lines, row_numbers, spaced_or_dash}

-- "Output": its first line.
abbrev pub heading : List ℕ
heading = bytes "PNP report"

-- "The `rules` line has the number of rows, the `configurations` line the count."
abbrev pub size_lines : ℕ → ℕ → List (List ℕ)
size_lines rows count =
    (bytes "rules " ++ decimal rows) ∷ (bytes "configurations " ++ decimal count) ∷ []

-- The verdict.
abbrev pub sound_line : List ℕ
sound_line = bytes "verdict sound"

abbrev pub trapped_line : List ℕ
trapped_line = bytes "verdict trapped"

-- "Lost is the lost number."
abbrev pub lost_line : ℕ → List ℕ
lost_line k = bytes "lost " ++ decimal k

-- A trapped table's trace, which is at the front of the trace buffer, and its lost number.
abbrev pub trap_lines : ℕ → List ℕ → Trap → List (List ℕ)
trap_lines signals buffer trap =
    tick_lines signals 1 (take trap.length buffer) ++ lost_line trap.lost ∷ []

-- Document 02, ask 2: "A last line `never` with each row number after a space, or `never -`."
abbrev pub never_line : ℕ → ℕ → List ℕ
never_line rows set = bytes "never" ++ spaced_or_dash (row_numbers rows 0 set)

-- The lists of rows that every verdict comes with.
abbrev pub list_lines : ℕ → RowLists → List (List ℕ)
list_lines rows lists = never_line rows lists.never ∷ []

-- What is found of a table with so many rows and signals. "A refused one prints the first line and
-- `refused 13 line 3`, with its own number and line."
unfoldable pub report_lines : ℕ → ℕ → List ℕ → Found → List (List ℕ)
report_lines rows signals buffer (Err r) = heading ∷ refused_line r.number r.line ∷ []
report_lines rows signals buffer (Ok (Sound summary)) =
    heading ∷ size_lines rows summary.count ++ sound_line ∷ list_lines rows summary.lists
report_lines rows signals buffer (Ok (Trapped summary trap)) =
    heading ∷ size_lines rows summary.count ++ trapped_line ∷ trap_lines signals buffer trap
    ++ list_lines rows summary.lists

-- "Lines end with LF."
abbrev pub report_bytes : ℕ → ℕ → List ℕ → Found → List ℕ
report_bytes rows signals buffer found = ended (report_lines rows signals buffer found)
