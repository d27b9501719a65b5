-- What a loop puts at each turn, of what is left to put. Assumes nothing.
use Rattle.std.proofs.Common.{◌≡◌, ℕ, suc, ◌+◌, ◌-◌, ◌/◌, ◌%◌, ◌^◌, ◌<◌, ◌≤◌, true, false, List, [], ◌∷◌, length, get_or, drop}
use Rattle.std.proofs.Common.{ap, arith, add-one, drop-cons}
use Rattle.std.proofs.Math.ListN.{drop_of_length-le}
use Rattle.std.proofs.lemmas.List.{take_min}
use Rattle.std.proofs.lemmas.Nat.{shr-shr}
use Rattle.put.proofs.Pages.{pages}
use Rattle.letters.specs.Letter.{bit_at, signal_on, in_set, bit}
use Rattle.letters.proofs.Bits.{bit_eqb}
use Rattle.letters.proofs.Members.{members_next, members_skip, members_end}
use Rattle.lines.specs.Line.{signal_values, tick_line, tick_lines, row_numbers}

-- The value of signal k, and those behind it, for who knows that it is on, or off. The loop goes by
-- `values_next`.
module _ (signals k letter : ℕ) where
  values_here : k < signals → signal_values (signals - k) k letter
      ≡ (48 + bit (signal_on letter k)) ∷ signal_values (signals - (k + 1)) (k + 1) letter
  unfolding signal_values
  values_here h =
      let more : signals - k ≡ suc (signals - (k + 1)) = omega arith in rw (more, add-one k)

  pub values_on : k < signals → signal_on letter k ≡ true → signal_values (signals - k) k letter
      ≡ 49 ∷ signal_values (signals - (k + 1)) (k + 1) letter
  values_on h e = rw (values_here h, e)

  pub values_off : k < signals → signal_on letter k ≡ false → signal_values (signals - k) k letter
      ≡ 48 ∷ signal_values (signals - (k + 1)) (k + 1) letter
  values_off h e = rw (values_here h, e)

  pub values_end : signals ≤ k → signal_values (signals - k) k letter ≡ []
  unfolding signal_values
  values_end h = let none : signals - k ≡ 0 = omega arith in rw none

-- The same, where `rest` is the letter without the signals before it.
module _ (signals k letter rest : ℕ) where
  pub values_next : k < signals → rest ≡ letter / 2 ^ k → signal_values (signals - k) k letter
      ≡ (48 + rest % 2) ∷ signal_values (signals - (k + 1)) (k + 1) letter
  unfolding bit_at
  values_next h rest_is =
      let value : 48 + bit (signal_on letter k) ≡ 48 + rest % 2 =
      rw rest_is (ap (◌+◌ 48) (bit_eqb (letter / 2 ^ k % 2) (omega arith))) in
      rw (values_here signals k letter h, value)

  pub rest_next : rest ≡ letter / 2 ^ k → rest / 2 ≡ letter / 2 ^ (k + 1)
  rest_next rest_is = rw rest_is (shr-shr letter k 1)

pub ruleset values = (pages, values_on, values_off, values_next, rest_next, values_end)

-- The line of tick i + 1, and those behind it.
module _ (signals i : ℕ) (letters : List ℕ) where
  pub ticks_next : i < length letters → tick_lines signals (i + 1) (drop i letters)
      ≡ tick_line signals (i + 1) (get_or letters i 0)
      ∷ tick_lines signals (i + 1 + 1) (drop (i + 1) letters)
  unfolding tick_lines
  ticks_next h = rw (drop-cons letters i 0 h, add-one i, add-one (suc i))

  pub ticks_end : length letters ≤ i → drop i letters ≡ []
  ticks_end h = drop_of_length-le letters h

pub ruleset ticks = (pages, ticks_next, ticks_end, take_min)

-- The number of row r + 1, where it is in the set, and those behind it.
module _ (rows r set : ℕ) where
  pub numbers_next : r < rows → in_set set r ≡ true
      → row_numbers (rows - r) r set ≡ (r + 1) ∷ row_numbers (rows - (r + 1)) (r + 1) set
  numbers_next h e = rw (members_next set rows r h e, add-one r)

  pub numbers_skip : r < rows → in_set set r ≡ false
      → row_numbers (rows - r) r set ≡ row_numbers (rows - (r + 1)) (r + 1) set
  numbers_skip h e = rw (members_skip set rows r h e)

  pub numbers_end : rows ≤ r → row_numbers (rows - r) r set ≡ []
  numbers_end h = rw (members_end set rows r h)

pub ruleset numbers = (pages, numbers_next, numbers_skip, numbers_end)
