-- What is to be answered to any bytes: a table, or the first number that fits, with its line.
-- "Order: 1, 2, 3, then lines from the top; on line 2: 6, 7, 8. On a row: 9, 10, then the fields
-- from the left .. Then 16 with line 3."
use Rattle.std.specs.Prelude.{ℕ, ◌+◌, ◌<◌, ◌≤◌, false, List, [], ◌∷◌, ◌++◌, map, ◌≡◌, length}
use Rattle.table.specs.Limits.{most_bytes, most_signals, most_rows}
use Rattle.table.specs.Name.{all_distinct}
use Rattle.table.specs.declared.Row.{Row}
use Rattle.table.specs.declared.Table.{Table}
use Rattle.text.specs.Lines.{LF}
use Rattle.text.specs.Words.{version_digits}
use Rattle.text.specs.declared.Version.{Version}
use Rattle.conditions.specs.Condition.{name_of}
use Rattle.header.specs.Header.{IsHeader, version_line, IsSignals}
use Rattle.reader.specs.Grammar.{AreLines, FileLines, HasNames, HasHeader, AreRows, Fault}
use Rattle.reader.specs.Grammar.{IsFile}
use Rattle.reader.specs.Reading.{accepted, refused_file}
use Rattle.reader.specs.declared.Reading.{Reading}

module _ (bytes : List ℕ) where
  -- "A refusal gives number and line: line 1 for 4 and 5, line 2 for 6 to 8, the row's own line for
  -- 9 to 15, line 3 for 16, else 0."
  pub data RightReading : Reading → Type 0 where
    -- "no bytes"
    is1 : bytes ≡ [] → RightReading (refused_file 1 0)
    -- "over 4,096 bytes"
    is2 : most_bytes < length bytes → RightReading (refused_file 2 0)
    -- "last byte not LF"
    is3 : (before : List ℕ) (last : ℕ) → bytes ≡ before ++ last ∷ [] → (last ≡ LF → ⊥)
        → length bytes ≤ most_bytes → RightReading (refused_file 3 0)
    -- "line 1 is no `PNP ` and four digits"
    is4 : {line : List ℕ} {rest : List (List ℕ)} → AreLines bytes (line ∷ rest)
        → ((digits : List ℕ) → IsHeader line digits → ⊥) → RightReading (refused_file 4 1)
    -- "version not 0001"
    is5 : {line digits : List ℕ} {rest : List (List ℕ)} → AreLines bytes (line ∷ rest)
        → IsHeader line digits → ((version : Version) → digits ≡ version_digits version → ⊥)
        → RightReading (refused_file 5 1)
    -- "line 2 missing, misshapen or without a name"
    is6missing : (version : Version) → AreLines bytes (version_line version ∷ [])
        → RightReading (refused_file 6 2)
    is6 : (version : Version) {line : List ℕ} {rest : List (List ℕ)}
        → AreLines bytes (version_line version ∷ line ∷ rest)
        → ((names : List (List ℕ)) → IsSignals line names → ⊥) → RightReading (refused_file 6 2)
    -- "over six signals"
    is7 : {file : FileLines} → HasNames bytes file → most_signals < length file.names
        → RightReading (refused_file 7 2)
    -- "a name twice"
    is8 : {file : FileLines} → HasNames bytes file → length file.names ≤ most_signals
        → all_distinct (map name_of file.names) ≡ false → RightReading (refused_file 8 2)
    -- "ninth row": whatever it holds
    is9 : {file : FileLines} {before : List (List ℕ)} {rows : List Row} (line : List ℕ)
        (rest : List (List ℕ)) → HasHeader bytes file → file.rules ≡ before ++ line ∷ rest
        → AreRows file before rows → length before ≡ most_rows
        → RightReading (refused_file 9 (most_rows + 3))
    -- 10 to 15, of the first line that is no row
    is_fault : {file : FileLines} {before : List (List ℕ)} {rows : List Row} {number : ℕ}
        (line : List ℕ) (rest : List (List ℕ)) → HasHeader bytes file
        → file.rules ≡ before ++ line ∷ rest → AreRows file before rows
        → length before < most_rows → Fault file line number
        → RightReading (refused_file number (length before + 3))
    -- "no row"
    is16 : {file : FileLines} → HasHeader bytes file → file.rules ≡ []
        → RightReading (refused_file 16 3)
    -- no number fits
    is_table : {table : Table} → IsFile bytes table → RightReading (accepted table)
