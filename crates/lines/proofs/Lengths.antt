-- How long lines are. Assumes nothing.
use Prim.Native.Nat.{ℕ, zero, suc, ◌+◌, ◌*◌, ◌^◌, ◌<◌, ◌≤◌}
use native.Mathlib.Omega.{arith}
use mathlib.Core.Bool.{Bool, true, false, cond}
use mathlib.Core.List.{List, [], ◌∷◌, ◌++◌, map}
use mathlib.Core.Path.{◌≡◌, refl, ap}
use lib.ListN.{length, length-append}
use Rattle.letters.specs.Letter.{bit_at, members}
use Rattle.text.specs.Bounds.{decimal}
use Rattle.text.specs.Lines.{LF, ended}
use Rattle.text.proofs.Decimals.{decimal_length}
use Rattle.text.proofs.Joins.{ended_append}
use Rattle.put.specs.Inner.Puts.{last_place}
use Rattle.put.proofs.Pages.{whole_page}
use Rattle.lines.specs.Line.{refused_line, refused_text, signal_values, tick_line, tick_lines}
use Rattle.lines.specs.Line.{row_numbers, spaced, spaced_or_dash}

-- A line, and then others; lines, and then others; and a line alone.
pub more_length : (line : List ℕ) (more : List (List ℕ))
    → length (ended (line ∷ more)) ≡ suc (length line) + length (ended more)
unfolding ended
more_length line more = rw length-append (omega arith)

pub both_length : (xs ys : List (List ℕ))
    → length (ended (xs ++ ys)) ≡ length (ended xs) + length (ended ys)
both_length xs ys = rw (ended_append xs ys, length-append)

pub one_length : (line : List ℕ) → length (ended (line ∷ [])) ≡ suc (length line)
unfolding ended
one_length line = rw length-append (omega arith)

-- A word and a number below 10^(k+1).
pub numbered_length : (k : ℕ) (word : List ℕ) (n : ℕ) → n < 10 ^ suc k
    → length (ended ((word ++ decimal n) ∷ [])) ≤ length word + k + 2
numbered_length k word n low =
    let few = decimal_length k n low in rw (one_length, length-append) (omega arith)

pub refused_length : (m n : ℕ) → m < 1000 → n < 1000 → length (refused_text m n) ≤ 21
refused_length m n low-m low-n =
    let number = decimal_length 2 m low-m in
    let line = decimal_length 2 n low-n in
    rw (one_length, length-append, length-append, length-append) (omega arith)

pub refused_few : (m n : ℕ) → m < 256 → n < 256
    → length (refused_line m n ++ LF ∷ []) ≤ last_place
unfolding ended
refused_few m n low-m low-n = omega (arith, refused_length m n (omega arith) (omega arith))

pub ruleset refusals = (whole_page, refused_few)

values_length : (n k letter : ℕ) → length (signal_values n k letter) ≡ n
unfolding signal_values
values_length zero k letter = refl
values_length (suc n) k letter = ap suc (values_length n (suc k) letter)

module _ (signals k : ℕ) where
  tick_length : (tick letter : ℕ) → tick < 10 ^ suc k
      → length (tick_line signals tick letter) ≤ signals + k + 7
  tick_length tick letter low =
      let few = decimal_length k tick low in
      let all = values_length signals 0 letter in
      rw (length-append, length-append) (omega arith)

  -- Each tick line takes at most `most` bytes, its end included, while the ticks' numbers are below
  -- 10^(k+1).
  pub ticks_length : (most : ℕ) → signals + k + 8 ≤ most → (tick : ℕ) (w : List ℕ)
      → tick + length w ≤ 10 ^ suc k → length (ended (tick_lines signals tick w)) ≤ length w * most
  unfolding tick_lines ended
  ticks_length most enough tick [] low = omega arith
  ticks_length most enough tick (letter ∷ w) low =
      let first = tick_length tick letter (omega arith) in
      let others = ticks_length most enough (suc tick) w (omega arith) in
      rw length-append (omega arith)

or_dash_length : (numbers : List ℕ) → length (spaced_or_dash numbers) ≤ length (spaced numbers) + 2
unfolding spaced spaced_or_dash
or_dash_length [] = omega arith
or_dash_length (number ∷ more) = omega arith

-- Each row number below 1,000 takes at most four bytes, its space included.
module _ (set : ℕ) where
  numbers_length : (n r : ℕ) → r + n < 1000 → length (spaced (row_numbers n r set)) ≤ n * 4
  unfolding members spaced
  numbers_length zero r low = omega arith
  numbers_length (suc n) r low =
      go (bit_at set r) (members n (suc r) set) (numbers_length n (suc r) (omega arith))
    where
      go : (b : Bool) (later : List ℕ) → length (spaced (map suc later)) ≤ n * 4
          → length (spaced (map suc (cond b (r ∷ later) later))) ≤ suc n * 4
      go true later others =
          let few = decimal_length 2 (suc r) (omega arith) in rw length-append (omega arith)
      go false later others = omega arith

  -- A word and the numbers of the first n rows.
  pub row_line_length : (word : List ℕ) (n : ℕ) → n < 1000
      → length (ended ((word ++ spaced_or_dash (row_numbers n 0 set)) ∷ [])) ≤ length word + n * 4 + 3
  row_line_length word n low =
      let numbers = numbers_length n 0 (omega arith) in
      let dash = or_dash_length (row_numbers n 0 set) in
      rw (one_length, length-append) (omega arith)
