-- The letters of a set, one after the other: the turns of a loop over the letters; and what the
-- letters of so many signals leave of a set. Assumes nothing.
use Prim.Native.Nat.{ℕ, zero, suc, ◌+◌, ◌-◌, ◌%◌, ◌^◌, ◌<◌, ◌≤◌}
use native.Mathlib.Decide.{dec_lt}
use native.Mathlib.Nat.{add-zero, lt_of_lt_of_le, mod-lt, mod-eq_of_lt}
use native.Mathlib.Numerals.{add-one}
use native.Mathlib.Omega.{arith}
use mathlib.Core.Bool.{Bool, true, false, cond}
use mathlib.Core.List.{[], ◌∷◌}
use mathlib.Core.Path.{◌≡◌, refl, sym, ap, ◌∙◌}
use lib.Bits.{bit_and, and_mask}
use lib.Dec.{lit<}
use lib.ListN.{length}
use lib.Pow.{pow_mono, pow_pos}
use Rattle.letters.specs.Letter.{letters, in_set, set_bits, width, members, set_of}
use Rattle.letters.proofs.Bits.{bit_high}
use Rattle.letters.proofs.Described.{none_held, all_held, held_none, held_all}
use Rattle.letters.proofs.Sets.{set_ext, in_set_of, set_of_lt, set_of_true, bit_low}

-- At letter l, which is in the set or not.
module _ (set n l : ℕ) where
  pub members_here : in_set set l ≡ true → members (suc n) l set ≡ l ∷ members n (suc l) set
  unfolding members
  members_here e = rw e

  pub members_past : in_set set l ≡ false → members (suc n) l set ≡ members n (suc l) set
  unfolding members
  members_past e = rw e

-- A loop's turn at a letter below the width: those from it on are it, where it is in the set, and
-- those after it; and past the last letter there are none.
module _ (set width letter : ℕ) where
  pub members_end : width ≤ letter → members (width - letter) letter set ≡ []
  unfolding members
  members_end h = let none : width - letter ≡ 0 = omega arith in rw none

  module _ (low : letter < width) where
    left_one : width - letter ≡ suc (width - (letter + 1))
    left_one = omega arith

    pub members_next : in_set set letter ≡ true → members (width - letter) letter set
        ≡ letter ∷ members (width - (letter + 1)) (letter + 1) set
    members_next e = rw left_one (members_here set (width - (letter + 1)) letter e ∙ rw add-one)

    pub members_skip : in_set set letter ≡ false → members (width - letter) letter set
        ≡ members (width - (letter + 1)) (letter + 1) set
    members_skip e = rw left_one (members_past set (width - (letter + 1)) letter e ∙ rw add-one)

-- What holds of n + 1 letters from l on holds of l, and of the n after it.
module _ (P : ℕ → Type 0) (n l : ℕ) (all : (i : ℕ) → i < suc n → P (l + i)) where
  pub of_first : P l
  of_first = rw add-zero at (all 0 (omega arith))

  pub of_others : (i : ℕ) → i < n → P (suc l + i)
  of_others i low =
      let place : suc l + i ≡ l + suc i = omega arith in rw place (all (suc i) (omega arith))

-- No more than there are letters looked at; and letters at the end that are not in the set.
pub members_length : (set n l : ℕ) → length (members n l set) ≤ n
unfolding members
members_length set zero l = omega arith
members_length set (suc n) l = go (in_set set l) (members_length set n (suc l))
  where
    go : (b : Bool) → length (members n (suc l) set) ≤ n
        → length (cond b (l ∷ members n (suc l) set) (members n (suc l) set)) ≤ suc n
    go true h = omega arith
    go false h = omega arith

members_none : (set n l : ℕ) → ((i : ℕ) → l ≤ i → i < l + n → in_set set i ≡ false)
    → members n l set ≡ []
unfolding members
members_none set zero l off = refl
members_none set (suc n) l off =
    rw (off l (omega arith) (omega arith))
    (members_none set n (suc l) (λ i low high. off i (omega arith) (omega arith)))

members_front : (set n m l : ℕ) → n ≤ m
    → ((i : ℕ) → l + n ≤ i → i < l + m → in_set set i ≡ false) → members m l set ≡ members n l set
unfolding members
members_front set zero m l h off =
    members_none set m l (λ i low high. off i (omega arith) high)
members_front set (suc n) zero l h off = absurd (omega arith)
members_front set (suc n) (suc m) l h off =
    rw (members_front set n m (suc l) (omega arith)
    (λ i low high. off i (omega arith) (omega arith)))

-- What is kept of a set: the letters that s signals have.
abbrev pub all_letters : ℕ → ℕ
all_letters s = set_of (letters s) (λ _. true)

abbrev pub kept : ℕ → ℕ → ℕ
kept set s = bit_and set (all_letters s)

module _ (set s : ℕ) where
  kept_is : kept set s ≡ set % 2 ^ letters s
  kept_is = rw set_of_true (and_mask set (letters s))

  kept_in : (l : ℕ) → l < letters s → in_set (kept set s) l ≡ in_set set l
  kept_in l h = rw kept_is (bit_low (letters s) set l h)

  kept_low : kept set s < 2 ^ letters s
  kept_low = rw kept_is (mod-lt set (pow_pos (letters s)))

  no_letter : (l : ℕ) → in_set 0 l ≡ false
  no_letter l = bit_high 0 0 l (lit< tt) (omega arith)

  every_letter : (l : ℕ) → l < letters s → in_set (all_letters s) l ≡ true
  every_letter l h = in_set_of (letters s) l (λ _. true) h

  -- None exactly where the set has none of them, and all where it has all.
  pub kept_none : kept set s ≡ 0 → length (members (letters s) 0 set) ≡ 0
  kept_none e =
      held_none set s (λ l h. sym (kept_in l h) ∙ ap (λ (x : ℕ). in_set x l) e ∙ no_letter l)

  pub none_kept : length (members (letters s) 0 set) ≡ 0 → kept set s ≡ 0
  none_kept e =
      set_ext (letters s) (kept set s) 0 kept_low (pow_pos (letters s))
      (λ l h. kept_in l h ∙ none_held set s e l h ∙ sym (no_letter l))

  pub kept_all : kept set s ≡ all_letters s → length (members (letters s) 0 set) ≡ letters s
  kept_all e =
      held_all set s (λ l h. sym (kept_in l h) ∙ ap (λ (x : ℕ). in_set x l) e ∙ every_letter l h)

  pub all_kept : length (members (letters s) 0 set) ≡ letters s → kept set s ≡ all_letters s
  all_kept e =
      set_ext (letters s) (kept set s) (all_letters s) kept_low (set_of_lt (letters s) (λ _. true))
      (λ l h. kept_in l h ∙ all_held set s e l h ∙ sym (every_letter l h))

-- A set has no letter that it cannot hold, with the letters of any number of signals.
module _ (set s : ℕ) (fits : set < 2 ^ set_bits) where
  pub members_wide : members (letters s) 0 set ≡ members (width s) 0 set
  members_wide =
      members_front set (width s) (letters s) 0 (omega arith)
      (λ i low high. bit_high set set_bits i fits (omega arith))

  pub kept_wide : bit_and set (set_of (width s) (λ _. true)) ≡ kept set s
  kept_wide =
      rw (set_of_true, and_mask set (width s), set_of_true, and_mask set (letters s))
      (go (dec_lt set_bits (letters s)))
    where
      go : Dec (set_bits < letters s) → set % 2 ^ width s ≡ set % 2 ^ letters s
      go (yes more) =
          let all : width s ≡ set_bits = omega arith in
          let low = lt_of_lt_of_le fits (pow_mono {i = set_bits} {j = letters s} (omega arith)) in
          rw all (mod-eq_of_lt fits ∙ sym (mod-eq_of_lt low))
      go (no less) = let all : width s ≡ letters s = omega arith in rw all
