-- Document 02, ask 6, worked: conditions and the text that each is written as, a row of one signal,
-- and the paper's table of two rows.
use Rattle.std.specs.Prelude.{ℕ, List, [], ◌∷◌, Ok, map, ◌≡◌, length}
use Rattle.letters.specs.Letter.{width}
use Rattle.text.specs.Bytes.{bytes}
use Rattle.text.specs.Lines.{ended}
use Rattle.conditions.specs.Condition.{name_of}
use Rattle.conditions.specs.Inner.Judge.{judge}
use Rattle.writer.specs.File.{condition_text}

-- Some signals, a condition over them as it is sent, and as it is written.
pub record TextCase : Type 0 where
  pub signals : List (List ℕ)
  pub sent : List ℕ
  pub written : List ℕ

-- The condition is read as a set, and that set is written so.
pub record TextCaseMeans (case : TextCase) : Type 0 where
  pub set : ℕ
  pub reads : judge (map name_of case.signals) (width (length case.signals)) case.sent
      ≡ Ok set
  pub writes : condition_text (map name_of case.signals) (length case.signals) set
      ≡ case.written

abbrev a : List ℕ
a = bytes "a"

abbrev c : List ℕ
c = bytes "c"

abbrev e : List ℕ
e = bytes "e"

abbrev over : List (List ℕ) → List ℕ → List ℕ → TextCase
over signals sent written = record { signals = signals; sent = sent; written = written }

unfoldable pub text_cases : List TextCase
text_cases =
    over (a ∷ c ∷ []) (bytes "a") (bytes "a&!c|a&c")
    ∷ over (a ∷ c ∷ []) (bytes "c") (bytes "!a&c|a&c")
    ∷ over (a ∷ c ∷ []) (bytes "(a|c)&!(a&c)") (bytes "a&!c|!a&c")
    ∷ over (a ∷ c ∷ []) (bytes "!a&!c") (bytes "!a&!c")
    ∷ over (c ∷ a ∷ []) (bytes "c") (bytes "c&!a|c&a")
    ∷ over (a ∷ c ∷ e ∷ []) (bytes "a&!e") (bytes "a&!c&!e|a&c&!e")
    ∷ []

-- A row with the signal `a`, as it is sent and as it is written.
abbrev pub one_row : List ℕ → List ℕ
one_row rule = ended (bytes "PNP 0001" ∷ bytes "signals a" ∷ rule ∷ [])

abbrev pub row_sent : List ℕ
row_sent = bytes "rule a|!a,a&!a,!!a,0,0,1,1,(a),!a,!(!a),0,60"

abbrev pub row_written : List ℕ
row_written = bytes "rule 1,0,a,0,0,1,1,a,!a,a,0,60"

-- What `writetable` prints of the paper's table of two rows.
abbrev pub whole_written : List ℕ
whole_written = ended (
    bytes "PNP 0001"
    ∷ bytes "signals a c"
    ∷ bytes "rule a&!c|a&c,a&!c|a&c,a&!c|a&c,0,0,1,1,!a&c|a&c,!a&c|a&c,!a&c|a&c,0,0"
    ∷ bytes "rule a&!c|a&c,a&!c|a&c,a&!c|a&c,0,0,1,1,!a&!c|a&!c,!a&!c|a&!c,!a&!c|a&!c,0,0"
    ∷ [])
