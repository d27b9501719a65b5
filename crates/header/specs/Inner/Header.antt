-- Which number lines 1 and 2 get, and what they give, computed.
use Rattle.std.specs.Prelude.{ℕ, Bool, ◌&&◌, cond, List, [], ◌∷◌, Result, Ok, Err, map, leb, eqb, length, take, drop}
use Rattle.letters.specs.Lists.{every, same_bytes}
use Rattle.table.specs.Limits.{most_signals, name_length}
use Rattle.table.specs.Name.{is_lowercase, all_distinct}
use Rattle.table.specs.declared.Signals.{Signals}
use Rattle.text.specs.Words.{PNP, version1, signals_word}
use Rattle.text.specs.declared.Version.{Version}
use Rattle.text.specs.declared.Version.TheVariants.{First}
use Rattle.conditions.specs.Condition.{name_of}
use Rattle.header.specs.Header.{is_digit16, names_from}

-- The version of line 1; or 4, then 5.
unfoldable pub version_answer : List ℕ → Result Version ℕ
version_answer line =
    cond (eqb (length line) 8 && same_bytes (take 4 line) PNP && every is_digit16 (drop 4 line))
    (cond (same_bytes (drop 4 line) version1) (Ok First) (Err 5)) (Err 4)

-- Whether bytes are a name.
unfoldable pub name_shaped : List ℕ → Bool
name_shaped w = leb 1 (length w) && leb (length w) name_length && every is_lowercase w

-- Over the words of the line, which stand between its spaces: 6, 7, 8, or the names.
unfoldable pub names_read : List (List ℕ) → Result Signals ℕ
names_read names =
    cond (leb (length names) most_signals)
    (cond (all_distinct (map name_of names))
    (Ok (record { count = length names; names = names_from names })) (Err 8))
    (Err 7)

unfoldable pub signals_answer : List (List ℕ) → Result Signals ℕ
signals_answer [] = Err 6
signals_answer (word ∷ names) =
    cond (same_bytes word signals_word && leb 1 (length names) && every name_shaped names)
    (names_read names) (Err 6)
