-- The text of a condition, described: nothing is computed.
use Rattle.std.specs.Prelude.{ℕ, ◌<◌, true, false, List, [], ◌∷◌, ◌≡◌, length, get_or}
use Rattle.letters.specs.Letter.{letters, in_set, signal_on}
use Rattle.letters.specs.Further.Described.{LettersOf}
use Rattle.table.specs.declared.Name.{Name}
use Rattle.text.specs.Bytes.{bytes}
use Rattle.text.specs.Lines.{joined}
use Rattle.text.specs.Words.{or_sign, and_sign, not_sign}
use Rattle.header.specs.Header.{no_name}
use Rattle.reader.specs.Grammar.{Each}
use Rattle.writer.specs.File.{name_text}

-- "A term joins every signal in file order by `&`, with `!` where it is false."
pub record IsTerm (names : List Name) (letter : ℕ) (xs : List ℕ) : Type 0 where
  pub pieces : List (List ℕ)
  pub are : xs ≡ joined and_sign pieces
  pub all : length pieces ≡ length names
  pub on : (k : ℕ) → k < length names → signal_on letter k ≡ true
      → get_or pieces k [] ≡ name_text (get_or names k no_name)
  pub off : (k : ℕ) → k < length names → signal_on letter k ≡ false
      → get_or pieces k [] ≡ not_sign ∷ name_text (get_or names k no_name)

-- "A condition that never holds is `0` and one that always holds is `1`. Otherwise it is one term
-- for each letter that satisfies it, smallest first, joined by `|`."
pub data IsConditionText (names : List Name) (s set : ℕ) : List ℕ → Type 0 where
  never : ((l : ℕ) → l < letters s → in_set set l ≡ false) → IsConditionText names s set (bytes "0")
  always : ((l : ℕ) → l < letters s → in_set set l ≡ true) → IsConditionText names s set (bytes "1")
  terms : {held : List ℕ} {texts : List (List ℕ)} → (yes no : ℕ)
      → (yes < letters s) × (in_set set yes ≡ true) → (no < letters s) × (in_set set no ≡ false)
      → LettersOf s set held → Each (IsTerm names) held texts
      → IsConditionText names s set (joined or_sign texts)
