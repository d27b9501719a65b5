-- Reading a condition at a place of the bytes s, as the code does. `Condition` and `Judge` say what
-- is right. The fuel is enough where it is more than three for each byte left, and two more.
use Rattle.std.specs.Prelude.{ℕ, zero, suc, ◌+◌, ◌*◌, ◌-◌, ◌<◌, Bool, true, false, not, ◌||◌, cond, List, Option, Some, None, ◌≡◌, ltb, eqb, get_or, length, take, drop}
use Rattle.std.specs.Int.Bits.{bit_and, bit_or}
use Rattle.conditions.specs.Condition.{Kind, choice, term, factor, name_of, place}
use Rattle.table.specs.Limits.{name_length}
use Rattle.table.specs.Name.{name_run}
use Rattle.table.specs.declared.Name.{Name}
use Rattle.text.specs.Words.{or_sign, and_sign, not_sign, false_sign, true_sign, open_sign, close_sign}
use Rattle.letters.specs.Letter.{in_set, signal_on, set_of}
use Rattle.conditions.specs.declared.Part.{Part}

unfoldable pub is_at : List ℕ → ℕ → ℕ → Bool
is_at s at b = cond (ltb at (length s)) (eqb (get_or s at 0) b) false

-- what was read, as an answer
abbrev pub some_part : ℕ → Bool → ℕ → Option Part
some_part v u next = Some (record { set = v; unknown = u; next = next })

-- the second part read is joined to the first
abbrev pub joined : (ℕ → ℕ → ℕ) → ℕ → Bool → Option Part → Option Part
joined f v u (Some more) = some_part (f v more.set) (u || more.unknown) more.next
joined f v u None = None

abbrev pub others : ℕ → Option Part → Option Part
others n (Some part) = some_part (set_of n (λ l. not (in_set part.set l))) part.unknown part.next
others n None = None

abbrev pub closed : List ℕ → Option Part → Option Part
closed s (Some part) =
    cond (is_at s part.next close_sign) (some_part part.set part.unknown (part.next + 1)) None
closed s None = None

-- more of the same kind follows where the byte b stands
abbrev pub followed : List ℕ → ℕ → (ℕ → Option Part) → (ℕ → ℕ → ℕ) → Option Part → Option Part
followed s b more f (Some part) =
    let rest = joined f part.set part.unknown (more (part.next + 1)) in
    cond (is_at s part.next b) rest (Some part)
followed s b more f None = None

-- the fuel that a kind wants beside three for each byte
abbrev pub rank : Kind → ℕ
rank choice = 2
rank term = 1
rank factor = 0

module _ (names : List Name) (n : ℕ) (s : List ℕ) where
  abbrev pub signal : ℕ → ℕ → Option Part
  signal k next = some_part (set_of n (λ l. signal_on l k)) (eqb k (length names)) next

  -- the longest run of letters: none and over 8 are no name
  unfoldable pub name_at : ℕ → ℕ → Option Part
  name_at at r = cond (eqb r 0 || ltb name_length r) None
      (signal (place names (name_of (take r (drop at s)))) (at + r))

  unfoldable pub digit_at : ℕ → Option Part
  digit_at at =
      cond (is_at s at false_sign) (some_part 0 false (at + 1))
      (cond (is_at s at true_sign) (some_part (set_of n (λ _. true)) false (at + 1))
      (name_at at (name_run (drop at s))))

  unfoldable pub reads : ℕ → Kind → ℕ → Option Part
  reads zero k at = None
  reads (suc f) choice at = followed s or_sign (reads f choice) bit_or (reads f term at)
  reads (suc f) term at = followed s and_sign (reads f term) bit_and (reads f factor at)
  reads (suc f) factor at =
      let negation = others n (reads f factor (at + 1)) in
      let group = closed s (reads f choice (at + 1)) in
      cond (is_at s at not_sign) negation (cond (is_at s at open_sign) group (digit_at at))

-- r is what is read at a place, with any fuel that is enough
pub record ReadsAs (names : List Name) (n : ℕ) (s : List ℕ) (k : Kind) (at : ℕ) (r : Option Part) : Type 0
  where
    pub reading : (f : ℕ) → 3 * (length s - at) + rank k < f → r ≡ reads names n s f k at

-- Parts of a kind joined by a byte: terms by `|`, factors by `&`.
pub record Joins (k part : Kind) (b : ℕ) (g : ℕ → ℕ → ℕ) : Type 0 where
  pub ranks : rank k ≡ suc (rank part)
  pub reading : (names : List Name) (n : ℕ) (s : List ℕ) (f at : ℕ) → reads names n s (suc f) k at
      ≡ followed s b (reads names n s f k) g (reads names n s f part at)
  pub turns : (x y z : ℕ) → g (g x y) z ≡ g x (g y z)

-- r is what is read at a place of parts joined by a byte, whatever kind they are: where `joins`
-- joins two sets as that kind does, and `parts` gives what is read of a part
abbrev pub JoinsTo : List ℕ → ℕ → ℕ → (ℕ → ℕ → ℕ → Type 0) → (ℕ → Option Part → Type 0)
    → Option Part → Type 0
JoinsTo s at b joins parts r = (k part : Kind) (g : ℕ → ℕ → ℕ) (names : List Name) (n : ℕ)
    → Joins k part b g → ((v w x : ℕ) → joins v w x → x ≡ g v w)
    → ((i : ℕ) (q : Option Part) → parts i q → ReadsAs names n s part i q)
    → ReadsAs names n s k at r

-- nothing may be left over
abbrev pub wholly : ℕ → Option Part → Option Part
wholly end (Some part) = cond (eqb part.next end) (Some part) None
wholly end None = None

unfoldable pub condition_of : List Name → ℕ → List ℕ → Option Part
condition_of names n s = wholly (length s) (reads names n s (3 * length s + 3) choice 0)
