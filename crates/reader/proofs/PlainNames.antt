-- The bytes of the names of a table value, which are those names again. Assumes nothing.
use Prim.Native.Nat.{ℕ, zero, suc, ◌<◌}
use borrow.Author.Tests.{eqb-true, leb-true}
use native.Mathlib.Omega.{arith}
use mathlib.Core.Bool.{true}
use mathlib.Core.List.{List, [], ◌∷◌, ◌++◌, map}
use mathlib.Core.Path.{◌≡◌, refl, sym, ap, ap₂, ◌∙◌}
use lib.Dec.{leb}
use lib.ListN.{length, get_or, take, drop, replicate, take-append-drop}
use lib.Seq.{length-take-le, take_all}
use Rattle.letters.specs.Lists.{every}
use Rattle.letters.proofs.Lists.{and_left, and_right}
use Rattle.table.specs.Row.{is_zero}
use Rattle.table.specs.Name.{name_run, name_valid, name_unused}
use Rattle.table.specs.declared.Name.{Name}
use Rattle.text.specs.Lines.{All, none as All-none, and as all-and}
use Rattle.conditions.specs.Condition.{name_of, IsName}
use Rattle.conditions.proofs.Names.{name_run_every, filled, name_of_filled}
use Rattle.table.proofs.Laws.{name_run_le}
use Rattle.header.specs.Header.{no_name}

-- A name's letters, in front of its zeros.
abbrev pub word_of : Name → List ℕ
word_of name = take (name_run name.chars) name.chars

pub zeros_after : (xs : List ℕ) (r : ℕ) → every is_zero (drop r xs) ≡ true
    → drop r xs ≡ drop r (replicate (length xs) 0)
unfolding every
zeros_after [] zero h = refl
zeros_after [] (suc r) h = refl
zeros_after (x ∷ xs) zero h =
    ap₂ ◌∷◌ (eqb-true x 0 (and_left (is_zero x) _ h))
    (zeros_after xs zero (and_right (is_zero x) _ h))
zeros_after (x ∷ xs) (suc r) h = zeros_after xs r h

module _ (name : Name) (eight : length name.chars ≡ 8) where
  abbrev run : ℕ
  run = name_run name.chars

  word_length : length (word_of name) ≡ run
  word_length = length-take-le run name.chars (name_run_le name.chars)

  name_unused_lem : name_unused name ≡ true → name ≡ no_name
  unfolding name_unused
  name_unused_lem h =
      ap (λ (l : List ℕ). record { chars = l })
      (zeros_after name.chars 0 h ∙ ap (λ (k : ℕ). replicate k 0) eight)

  module _ (fits : name_valid name ≡ true) where
    word_right : IsName (word_of name)
    unfolding name_valid
    word_right =
        let some = leb-true 1 run (and_left (leb 1 run) _ fits) in
        let few = name_run_le name.chars in
        let long = word_length in
        record {
          some = omega arith;
          few = omega arith;
          letters = name_run_every name.chars;
        }

    word_name : name_of (word_of name) ≡ name
    unfolding name_valid
    word_name =
        let few = name_run_le name.chars in
        let long = word_length in
        let rest = zeros_after name.chars run (and_right (leb 1 run) _ fits) in
        let letters : name.chars ≡ filled (word_of name) (replicate 8 0) run =
        sym (take-append-drop run name.chars)
        ∙ ap₂ ◌++◌ (sym (take_all run (word_of name) (omega arith)))
        (rest ∙ ap (λ (k : ℕ). drop run (replicate k 0)) eight) in
        sym (name_of_filled (word_of name) name.chars run letters (omega arith) (omega arith)
        (omega arith))

-- Names in a list, of eight places each.
abbrev pub Eight : List Name → Type 0
Eight names = (i : ℕ) → i < length names → length (get_or names i no_name).chars ≡ 8

pub words_right : (names : List Name) → Eight names → every name_valid names ≡ true
    → All IsName (map word_of names)
unfolding every
words_right [] eight h = All-none
words_right (name ∷ names) eight h =
    all-and (word_right name (eight 0 (omega arith)) (and_left (name_valid name) _ h))
    (words_right names (λ i g. eight (suc i) (omega arith)) (and_right (name_valid name) _ h))

pub words_names : (names : List Name) → Eight names → every name_valid names ≡ true
    → map name_of (map word_of names) ≡ names
unfolding every
words_names [] eight h = refl
words_names (name ∷ names) eight h =
    ap₂ ◌∷◌ (word_name name (eight 0 (omega arith)) (and_left (name_valid name) _ h))
    (words_names names (λ i g. eight (suc i) (omega arith)) (and_right (name_valid name) _ h))

pub names_unused : (names : List Name) → Eight names → every name_unused names ≡ true
    → replicate (length names) no_name ≡ names
unfolding every
names_unused [] eight h = refl
names_unused (name ∷ names) eight h =
    ap₂ ◌∷◌ (sym (name_unused_lem name (eight 0 (omega arith)) (and_left (name_unused name) _ h)))
    (names_unused names (λ i g. eight (suc i) (omega arith)) (and_right (name_unused name) _ h))
