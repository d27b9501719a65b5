-- What a loop puts at each turn, of what is left to put. Assumes nothing.
use Rattle.std.proofs.Common.{◌≡◌, ℕ, suc, ◌+◌, ◌^◌, ◌<◌, ◌≤◌, List, [], ◌∷◌, ◌++◌, length, get_or, drop}
use Rattle.std.proofs.Common.{arith, add-one, drop-cons}
use Rattle.std.proofs.Math.ListN.{drop_of_length-le}
use Rattle.std.proofs.lemmas.List.{take_min}
use Rattle.text.specs.Bounds.{decimal}
use Rattle.text.specs.Bytes.{bytes}
use Rattle.text.proofs.Decimals.{decimal_length}
use Rattle.load.specs.Figures.{Totals}
use Rattle.load.specs.Load.{no_totals}
use Rattle.put.specs.declared.Page.{Page}
use Rattle.put.specs.Inner.Page.{added}
use Rattle.put.proofs.Pages.{pages, page_lines, added_le}
use Rattle.lines.specs.Line.{spaced}
use Rattle.totals.specs.Totals.{totals_line, totals_lines}

-- Number i, and those behind it; and how many bytes a number takes.
module _ (numbers : List ℕ) (i : ℕ) where
  pub numbers_next : i < length numbers → spaced (drop i numbers)
      ≡ bytes " " ++ decimal (get_or numbers i 0) ++ spaced (drop (i + 1) numbers)
  unfolding spaced
  numbers_next h = rw (drop-cons numbers i 0 h, add-one i)

  pub numbers_end : length numbers ≤ i → drop i numbers ≡ []
  numbers_end h = drop_of_length-le numbers h

pub number_few : (p : Page) (n : ℕ) → n < 2 ^ 32
    → (added p (bytes " " ++ decimal n)).at ≤ p.at + 11
number_few p n h = omega (
  arith,
  added_le p (bytes " " ++ decimal n),
  decimal_length 9 n (omega arith),
)

pub ruleset turns = (pages, numbers_next, numbers_end, number_few, added_le)

-- The line of row i + 1, and those behind it.
module _ (all : List Totals) (i : ℕ) where
  pub lines_next : i < length all → totals_lines (i + 1) (drop i all)
      ≡ totals_line (i + 1) (get_or all i no_totals) ∷ totals_lines (i + 1 + 1) (drop (i + 1) all)
  unfolding totals_lines
  lines_next h = rw (drop-cons all i no_totals h, add-one i, add-one (suc i))

  pub lines_end : length all ≤ i → drop i all ≡ []
  lines_end h = drop_of_length-le all h

pub ruleset row_turns = (page_lines, lines_next, lines_end, take_min)
