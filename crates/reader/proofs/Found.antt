-- Every file has a right answer: the computed one. Assumes nothing.
use Prim.Native.Nat.{ℕ, zero, suc, ◌-◌, ◌<◌, ◌≤◌}
use native.Mathlib.Decide.{dec_le, ℕ_discrete}
use native.Mathlib.Omega.{arith}
use mathlib.Core.Bool.{Bool, true, false}
use mathlib.Core.List.{List, [], ◌∷◌, ◌++◌, map}
use mathlib.Core.Path.{◌≡◌, refl, sym, ap, subst, ◌∙◌}
use lib.ListN.{length, get_or, take, take-append-drop, drop_of_length-le}
use lib.Seq.{drop-cons}
use Rattle.letters.specs.Letter.{width}
use Rattle.table.specs.Limits.{most_bytes, most_signals, most_rows}
use Rattle.table.specs.Name.{all_distinct}
use Rattle.table.specs.declared.Row.{Row}
use Rattle.text.specs.Lines.{LF}
use Rattle.text.specs.declared.Version.{Version}
use Rattle.text.specs.Inner.Cut.{lines}
use Rattle.text.proofs.Joins.{ended_lines, lines_free, lines_some}
use Rattle.conditions.specs.Condition.{name_of}
use Rattle.header.proofs.Shapes.{Line1, known, other, misshapen, line1_found, Line2, signals}
use Rattle.header.specs.Header.{version_line}
use Rattle.header.proofs.Shapes.{misshapen as misshapen2, line2_found}
use Rattle.header.proofs.SignalLaws.{length_none}
use Rattle.rows.proofs.Rules.{RowFound, a_row, a_fault, row_found}
use Rattle.reader.specs.Grammar.{AreLines, FileLines, HasNames, HasHeader, none, and}
use Rattle.reader.specs.Grammar.{AreRows, Fault, of_lines}
use Rattle.reader.specs.Right.{RightReading, is1, is2, is3, is4, is5, is6missing, is6, is7}
use Rattle.reader.specs.Right.{is8, is9, is_fault, is16, is_table}
use Rattle.reader.specs.Inner.File.{read_answer}
use Rattle.reader.specs.declared.Reading.{Reading}
use Rattle.reader.proofs.Only.{each_length, read_only}

-- Lines, of which at most k may be rows: all are, or one is not, or there is one more.
data RowsFound (file : FileLines) (k : ℕ) (rules : List (List ℕ)) : Type 0 where
  all : (rows : List Row) → AreRows file rules rows → length rules ≤ k
      → RowsFound file k rules
  one : (before : List (List ℕ)) (rows : List Row) (line : List ℕ) (rest : List (List ℕ))
      (number : ℕ) → rules ≡ before ++ line ∷ rest → AreRows file before rows
      → length before < k → Fault file line number
      → RowsFound file k rules
  over : (before : List (List ℕ)) (rows : List Row) (line : List ℕ) (rest : List (List ℕ))
      → rules ≡ before ++ line ∷ rest → AreRows file before rows → length before ≡ k
      → RowsFound file k rules

rows_found : (file : FileLines) (k : ℕ) (rules : List (List ℕ))
    → RowsFound file k rules
rows_found file k [] = all [] none (omega arith)
rows_found file zero (line ∷ rest) = over [] [] line rest refl none refl
rows_found file (suc k) (line ∷ rest) =
    go (row_found (map name_of file.names) (width (length file.names)) file.version line)
    (rows_found file k rest)
  where
    go : RowFound (map name_of file.names) (width (length file.names)) file.version line
        → RowsFound file k rest → RowsFound file (suc k) (line ∷ rest)
    go (a_fault number f) later = one [] [] line rest number refl none (omega arith) f
    go (a_row row r) (all rows are few) = all (row ∷ rows) (and r are) (omega arith)
    go (a_row row r) (one before rows next more number e are low f) =
        one (line ∷ before) (row ∷ rows) next more number (ap (◌∷◌ line) e) (and r are)
        (omega arith) f
    go (a_row row r) (over before rows next more e are full) =
        over (line ∷ before) (row ∷ rows) next more (ap (◌∷◌ line) e) (and r are) (ap suc full)

-- The last byte.
last_byte : (xs : List ℕ) → (length xs ≡ 0 → ⊥)
    → xs ≡ take (length xs - 1) xs ++ get_or xs (length xs - 1) 0 ∷ []
last_byte xs some =
    let end = drop-cons xs (length xs - 1) 0 (omega arith) in
    sym (take-append-drop (length xs - 1) xs)
    ∙ ap (◌++◌ (take (length xs - 1) xs)) (end ∙ ap (◌∷◌ (get_or xs (length xs - 1) 0))
    (drop_of_length-le xs {i = suc (length xs - 1)} (omega arith)))

module _ (bytes : List ℕ) where
  abbrev SomeReading : Type 0
  SomeReading = (r : Reading) × RightReading bytes r

  module _ (file : FileLines) (b : HasHeader bytes file) where
    rules_found : SomeReading
    rules_found = go file.rules refl (rows_found file most_rows file.rules)
      where
        go : (rules : List (List ℕ)) → file.rules ≡ rules
            → RowsFound file most_rows file.rules → SomeReading
        go [] e found = (_, is16 b e)
        go (line ∷ rest) e (all rows are few) =
            let many = each_length are in
            let some = ap length e in (
              _,
              is_table (of_lines (record {
                file = file;
                rows = rows;
                header = b;
                rows_are = are;
                rows_some = omega arith;
                rows_few = omega arith;
                table_is = refl;
              })),
            )
        go (line ∷ rest) e (one before rows fault more number same are low f) =
            (_, is_fault fault more b same are low f)
        go (line ∷ rest) e (over before rows ninth more same are full) =
            (_, is9 ninth more b same are full)

  signals_found : (file : FileLines) → HasNames bytes file → SomeReading
  signals_found file n =
      go (dec_le (length file.names) most_signals) (all_distinct (map name_of file.names)) refl
    where
      go : Dec (length file.names ≤ most_signals) → (t : Bool)
          → all_distinct (map name_of file.names) ≡ t → SomeReading
      go (no many) t e = (_, is7 n (omega arith))
      go (yes few) false e = (_, is8 n few e)
      go (yes few) true e =
          rules_found file (record { has_names = n; few = few; differ = e })

  body_found : (version : Version) (body : List (List ℕ))
      → AreLines bytes (version_line version ∷ body) → SomeReading
  body_found version [] l = (_, is6missing version l)
  body_found version (line ∷ rest) l = go (line2_found line)
    where
      go : Line2 line → SomeReading
      go (misshapen2 h) = (_, is6 version l h)
      go (signals names s) =
          signals_found (record { version = version; names = names; rules = rest })
          (record { line2 = line; lines = l; signals = s })

  lines_found : (all : List (List ℕ)) → AreLines bytes all → SomeReading
  lines_found [] l = absurd (let z = l.some in omega arith)
  lines_found (line ∷ rest) l = go (line1_found line)
    where
      go : Line1 line → SomeReading
      go (misshapen h) = (_, is4 l h)
      go (other digits h other-version) = (_, is5 l h other-version)
      go (known version e) =
          body_found version rest (subst (λ (top : List ℕ). AreLines bytes (top ∷ rest)) e l)

  found : SomeReading
  found = go (ℕ_discrete (length bytes) 0) (dec_le (length bytes) most_bytes)
      (ℕ_discrete (get_or bytes (length bytes - 1) 0) LF)
    where
      go : Dec (length bytes ≡ 0) → Dec (length bytes ≤ most_bytes)
          → Dec (get_or bytes (length bytes - 1) 0 ≡ LF) → SomeReading
      go (yes e) few end = (_, is1 (length_none bytes e))
      go (no some) (no many) end = (_, is2 (omega arith))
      go (no some) (yes few) (no end) = (
        _,
        is3 (take (length bytes - 1) bytes) (get_or bytes (length bytes - 1) 0)
            (last_byte bytes some) end few,
      )
      go (no some) (yes few) (yes end) = lines_found (lines bytes) (record {
        bytes_are = sym (ended_lines bytes some end);
        apart = lines_free bytes some end;
        some = lines_some bytes some;
        few = few;
      })

  pub read_answered : RightReading bytes (read_answer bytes)
  read_answered =
      subst (RightReading bytes) (sym (read_only bytes found.0 found.1)) found.1
