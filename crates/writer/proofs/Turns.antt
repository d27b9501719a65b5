-- What a loop puts at each turn, of what is left to put. Assumes nothing.
use Rattle.std.proofs.Common.{◌≡◌, ℕ, ◌+◌, ◌-◌, ◌<◌, ◌≤◌, Bool, true, false, cond, ltb, List, [], ◌∷◌, ◌++◌, length, get_or, drop}
use Rattle.std.proofs.Common.{refl, sym, ap, arith, add-one, append-nil, drop-cons}
use borrow.Author.Tests.{lt-ltb}
use Rattle.std.proofs.Math.ListN.{drop_of_length-le}
use Rattle.letters.specs.Letter.{signal_on, in_set, members}
use Rattle.letters.proofs.Members.{members_next, members_skip, members_end}
use Rattle.table.specs.declared.Name.{Name}
use Rattle.table.specs.declared.Row.{Row}
use Rattle.text.specs.Lines.{joined}
use Rattle.text.specs.Words.{not_sign}
use Rattle.put.proofs.Pages.{pages, page_lines, lines_none, lines_more}
use Rattle.writer.specs.declared.Field.{Field}
use Rattle.writer.specs.declared.Field.TheVariants.{Condition}
use Rattle.writer.specs.Inner.Writing.{behind}
use Rattle.writer.specs.File.{name_text, literals}

-- What is left of pieces with a byte between them, where there was a piece before or not.
unfoldable pub left : ℕ → Bool → List (List ℕ) → List ℕ
left b later pieces = cond later (behind b pieces) (joined b pieces)

pub joined_behind : (b : ℕ) (piece : List ℕ) (more : List (List ℕ))
    → joined b (piece ∷ more) ≡ piece ++ behind b more
unfolding joined behind
joined_behind b piece [] = sym (append-nil piece)
joined_behind b piece (next ∷ more) =
    ap (λ (xs : List ℕ). piece ++ b ∷ xs) (joined_behind b next more)

module _ (b : ℕ) where
  pub left_all : (pieces : List (List ℕ)) → left b false pieces ≡ joined b pieces
  unfolding left
  left_all pieces = refl

  pub left_none : (later : Bool) → left b later [] ≡ []
  unfolding left joined behind
  left_none true = refl
  left_none false = refl

  -- The byte, if there was a piece before, the next piece, and what is left behind it.
  pub left_more : (later : Bool) (piece : List ℕ) (more : List (List ℕ))
      → left b later (piece ∷ more) ≡ cond later (b ∷ []) [] ++ (piece ++ left b true more)
  unfolding left behind
  left_more true piece more = refl
  left_more false piece more = joined_behind b piece more

pub later_next : (k : ℕ) → ltb 0 (k + 1) ≡ true
later_next k = lt-ltb 0 (k + 1) (omega arith)

pub ruleset piece_turns = (pages, left_all, left_none, left_more, later_next)

-- What stands past the end of a list of names.
abbrev pub no_chars : Name
no_chars = record { chars = [] }

-- The literal of signal k, and those behind it.
module _ (names : List Name) (k letter : ℕ) where
  pub literals_next : k < length names → let word = name_text (get_or names k no_chars) in
      literals k (drop k names) letter
      ≡ cond (signal_on letter k) word (not_sign ∷ word) ∷ literals (k + 1) (drop (k + 1) names) letter
  unfolding literals
  literals_next h = rw (drop-cons names k no_chars h, add-one k)

  pub literals_end : length names ≤ k → literals k (drop k names) letter ≡ []
  unfolding literals
  literals_end h = rw (drop_of_length-le names h)

pub ruleset literal_turns = (piece_turns, literals_next, literals_end)

-- The letters of a set: all; one that is in it, and those behind it.
pub terms_all : (width set : ℕ) → members (width - 0) 0 set ≡ members width 0 set
terms_all width set = let all : width - 0 ≡ width = omega arith in rw all

module _ (width letter set : ℕ) where
  pub term_next : letter < width → in_set set letter ≡ true → members (width - letter) letter set
      ≡ letter ∷ members (width - (letter + 1)) (letter + 1) set
  term_next h e = members_next set width letter h e

  pub term_skip : letter < width → in_set set letter ≡ false → members (width - letter) letter set
      ≡ members (width - (letter + 1)) (letter + 1) set
  term_skip h e = members_skip set width letter h e

  pub term_end : width ≤ letter → members (width - letter) letter set ≡ []
  term_end h = members_end set width letter h

pub ruleset term_turns = (piece_turns, terms_all, term_next, term_skip, term_end)

-- Name k, and those behind it.
module _ (names : List Name) (k : ℕ) where
  pub names_next : k < length names → drop k names ≡ get_or names k no_chars ∷ drop (k + 1) names
  names_next h = rw (drop-cons names k no_chars h, add-one k)

  pub names_end : length names ≤ k → drop k names ≡ []
  names_end h = drop_of_length-le names h

pub ruleset name_turns = (pages, names_next, names_end)

pub ruleset signal_line = (pages, joined_behind)

-- Field k, and those behind it.
module _ (fields : List Field) (k : ℕ) where
  pub fields_next : k < length fields → drop k fields ≡ get_or fields k (Condition 0) ∷ drop (k + 1) fields
  fields_next h = rw (drop-cons fields k (Condition 0) h, add-one k)

  pub fields_end : length fields ≤ k → drop k fields ≡ []
  fields_end h = drop_of_length-le fields h

pub ruleset field_turns = (piece_turns, fields_next, fields_end)

-- Row k, and those behind it.
abbrev pub no_sets : Row
no_sets = record { sets = []; tmin = 0; tmax = 0; lmin = 0; lmax = 0; amin = 0; amax = 0 }

module _ (rows : List Row) (k : ℕ) where
  pub rows_next : k < length rows → drop k rows ≡ get_or rows k no_sets ∷ drop (k + 1) rows
  rows_next h = rw (drop-cons rows k no_sets h, add-one k)

  pub rows_end : length rows ≤ k → drop k rows ≡ []
  rows_end h = drop_of_length-le rows h

pub ruleset row_turns = (page_lines, rows_next, rows_end)
