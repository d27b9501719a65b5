-- A table value as a file of version 0001, in one way: document 02, ask 6.
use Rattle.std.specs.Prelude.{ℕ, suc, not, cond, List, [], ◌∷◌, ◌++◌, map, eqb, ltb, length, get_or, take}
use Rattle.letters.specs.Letter.{signal_on, letters, members}
use Rattle.table.specs.Limits.{most_bytes}
use Rattle.table.specs.Name.{name_run}
use Rattle.table.specs.Refusal.{refused_at}
use Rattle.table.specs.Row.{tse, tc, tee, ase, ac, aee}
use Rattle.table.specs.Valid.{rows_of, table_valid}
use Rattle.table.specs.declared.Name.{Name}
use Rattle.table.specs.Refusal.{Outcome}
use Rattle.std.specs.Prelude.{Ok}
use Rattle.table.specs.declared.Row.{Row}
use Rattle.table.specs.declared.Table.{Table}
use Rattle.text.specs.Bounds.{decimal}
use Rattle.text.specs.Lines.{space, comma, ended, joined}
use Rattle.text.specs.Words.{PNP, version1, signals_word, rule_word, or_sign, and_sign, not_sign}
use Rattle.text.specs.Words.{false_sign, true_sign}
use Rattle.verdict.specs.Buffer.{written}

-- A name: its letters, without the zeros behind them.
abbrev pub name_text : Name → List ℕ
name_text name = take (name_run name.chars) name.chars

-- "A term joins every signal in file order by `&`, with `!` where it is false": the signals from
-- signal k on at a letter, and the term of the letter.
unfoldable pub literals : ℕ → List Name → ℕ → List (List ℕ)
literals k [] letter = []
literals k (name ∷ names) letter =
    cond (signal_on letter k) (name_text name) (not_sign ∷ name_text name)
    ∷ literals (suc k) names letter

abbrev pub term_text : List Name → ℕ → List ℕ
term_text names letter = joined and_sign (literals 0 names letter)

-- "A condition that never holds is `0` and one that always holds is `1`. Otherwise it is one term
-- for each letter that satisfies it, smallest first, joined by `|`": over s signals.
unfoldable pub condition_text : List Name → ℕ → ℕ → List ℕ
condition_text names s set =
    let held = members (letters s) 0 set in
    cond (eqb (length held) 0) (false_sign ∷ [])
    (cond (eqb (length held) (letters s)) (true_sign ∷ [])
    (joined or_sign (map (term_text names) held)))

-- A row's line: its fields "TSE, TC, TEE, Tmin, Tmax, Lmin, Lmax, ASE, AC, AEE, Amin, Amax".
abbrev pub field_texts : List Name → ℕ → Row → List (List ℕ)
field_texts names s row =
    let condition : ℕ → List ℕ = λ k. condition_text names s (get_or row.sets k 0) in
    condition tse ∷ condition tc ∷ condition tee ∷ decimal row.tmin ∷ decimal row.tmax
    ∷ decimal row.lmin ∷ decimal row.lmax ∷ condition ase ∷ condition ac ∷ condition aee
    ∷ decimal row.amin ∷ decimal row.amax ∷ []

abbrev pub row_text : List Name → ℕ → Row → List ℕ
row_text names s row = rule_word ++ joined comma (field_texts names s row)

-- "Write any table value back as a version 0001 file."
abbrev pub used_names : Table → List Name
used_names table = take table.signals table.names

abbrev pub file_lines : Table → List (List ℕ)
file_lines table =
    (PNP ++ version1) ∷ joined space (signals_word ∷ map name_text (used_names table))
    ∷ map (row_text (used_names table) table.signals) (rows_of table)

unfoldable pub file_text : Table → List ℕ
file_text table = ended (file_lines table)

-- What a call answers and leaves: the outcome, the file's length, and the lent buffer.
pub record WriteCall : Type 0 where
  pub outcome : Outcome
  pub length : ℕ
  pub buffer : List ℕ

-- "Checks: 23 the file would exceed 4,096 bytes, then 24 the lent buffer is shorter than the file,
-- both after 17; the buffer is then unchanged."
abbrev pub unwritten : ℕ → List ℕ → WriteCall
unwritten number buffer = record { outcome = refused_at number 0; length = 0; buffer = buffer }

-- "When the file is written, the answer gives its length and the bytes behind it are unchanged."
abbrev pub wrote : List ℕ → List ℕ → WriteCall
wrote text buffer =
    record { outcome = Ok tt; length = length text; buffer = written text buffer }

unfoldable pub write_answer : Table → List ℕ → WriteCall
write_answer table buffer =
    let text = file_text table in
    cond (not (table_valid table)) (unwritten 17 buffer)
    (cond (ltb most_bytes (length text)) (unwritten 23 buffer)
    (cond (ltb (length buffer) (length text)) (unwritten 24 buffer) (wrote text buffer)))
