-- Sets of letters as numbers: the operations on sets are those on what holds at a letter. Assumes
-- nothing.
use Prim.Native.Nat.{ℕ, zero, suc, ◌+◌, ◌-◌, ◌*◌, ◌/◌, ◌%◌, ◌^◌, ◌<◌, ◌≤◌}
use native.Mathlib.Decide.{dec_lt}
use native.Mathlib.Nat.{pow-succ', two-pow-succ, lt_of_lt_of_le}
use native.Mathlib.Omega.{arith}
use native.Mathlib.Numerals.{add-one}
use mathlib.Core.Bool.{Bool, true, false, ◌||◌, ◌&&◌, not, and-true, and_assoc, true≢false}
use mathlib.Core.Path.{◌≡◌, refl, sym, ap, ◌∙◌}
use lib.Dec.{eqb}
use lib.Pow.{pow_mono, pow_pos}
use lib.Bits.{bit_and, bit_or, or_shr, or_mod, and_shr, and_mod, or_lt, and_lt, and_mask, and_le_l}
use lib.Bits.{or_comm}
use Rattle.letters.specs.Letter.{bit_at, in_set, set_of, bit, set_bits}
use Rattle.letters.specs.Inner.Least.{without}
use Rattle.letters.proofs.Bits.{bit_zero, bit_suc, bit_place, bit_lt, eqb_bit, bit_eqb}

or_bits : (x y : ℕ) → x < 2 → y < 2 → eqb (bit_or x y) 1 ≡ (eqb x 1 || eqb y 1)
or_bits zero zero p q = refl
or_bits zero (suc zero) p q = refl
or_bits (suc zero) zero p q = refl
or_bits (suc zero) (suc zero) p q = refl
or_bits zero (suc (suc y)) p q = absurd (omega arith)
or_bits (suc zero) (suc (suc y)) p q = absurd (omega arith)
or_bits (suc (suc x)) y p q = absurd (omega arith)

pub in_or : (a b l : ℕ) → bit_at (bit_or a b) l ≡ (bit_at a l || bit_at b l)
unfolding bit_at
in_or a b l = rw (or_shr, or_mod (a / 2 ^ l) (b / 2 ^ l) 1)
    (or_bits (a / 2 ^ l % 2) (b / 2 ^ l % 2) (omega arith) (omega arith))

and_bits : (x y : ℕ) → x < 2 → y < 2 → eqb (bit_and x y) 1 ≡ (eqb x 1 && eqb y 1)
and_bits zero zero p q = refl
and_bits zero (suc zero) p q = refl
and_bits (suc zero) zero p q = refl
and_bits (suc zero) (suc zero) p q = refl
and_bits zero (suc (suc y)) p q = absurd (omega arith)
and_bits (suc zero) (suc (suc y)) p q = absurd (omega arith)
and_bits (suc (suc x)) y p q = absurd (omega arith)

pub in_and : (a b l : ℕ) → bit_at (bit_and a b) l ≡ (bit_at a l && bit_at b l)
unfolding bit_at
in_and a b l = rw (and_shr, and_mod (a / 2 ^ l) (b / 2 ^ l) 1)
    (and_bits (a / 2 ^ l % 2) (b / 2 ^ l % 2) (omega arith) (omega arith))

-- letter l is in the set of p's letters below n
pub in_set_of : (n l : ℕ) (p : ℕ → Bool) → l < n → bit_at (set_of n p) l ≡ p l
unfolding set_of
in_set_of zero l p h = absurd (omega arith)
in_set_of (suc n) zero p h =
    let b = bit_lt (p 0) in
    let e : (bit (p 0) + 2 * set_of n (λ k. p (suc k))) % 2 ≡ bit (p 0) = omega arith in
    rw (bit_zero, e) (eqb_bit (p 0))
in_set_of (suc n) (suc l) p h =
    let b = bit_lt (p 0) in
    let e : (bit (p 0) + 2 * set_of n (λ k. p (suc k))) / 2 ≡ set_of n (λ k. p (suc k)) =
    omega arith in
    rw (bit_suc, e) (in_set_of n l (λ k. p (suc k)) (omega arith))

pub set_of_lt : (n : ℕ) (p : ℕ → Bool) → set_of n p < 2 ^ n
unfolding set_of
set_of_lt zero p = omega arith
set_of_lt (suc n) p = let b = bit_lt (p 0) in
    rw pow-succ' (omega (arith, set_of_lt n (λ k. p (suc k))))

pub set_of_ext : (n : ℕ) (p q : ℕ → Bool) → ((l : ℕ) → l < n → p l ≡ q l)
    → set_of n p ≡ set_of n q
unfolding set_of
set_of_ext zero p q h = refl
set_of_ext (suc n) p q h = rw (
  h 0 (omega arith),
  set_of_ext n (λ k. p (suc k)) (λ k. q (suc k))
      (λ l g. h (suc l) (omega arith)),
)

-- a number is the set of its own letters
pub set_eta : (n x : ℕ) → x < 2 ^ n → set_of n (bit_at x) ≡ x
unfolding set_of
set_eta zero x h = omega arith
set_eta (suc n) x h =
    let h' : x < 2 * 2 ^ n = rw pow-succ' at h in
    let ih : set_of n (bit_at (x / 2)) ≡ x / 2 = set_eta n (x / 2) (omega arith) in
    let tl : set_of n (λ l. bit_at x (suc l)) ≡ x / 2 =
    set_of_ext n (λ l. bit_at x (suc l)) (bit_at (x / 2)) (λ l g. bit_suc x l) ∙ ih in
    let hd : bit (bit_at x 0) ≡ x % 2 = ap bit (bit_zero x) ∙ bit_eqb (x % 2) (omega arith) in
    omega arith

-- two sets with the same letters are the same number
pub set_ext : (n x y : ℕ) → x < 2 ^ n → y < 2 ^ n → ((l : ℕ) → l < n → bit_at x l ≡ bit_at y l)
    → x ≡ y
set_ext n x y hx hy h = sym (set_eta n x hx) ∙ set_of_ext n (bit_at x) (bit_at y) h ∙ set_eta n y hy

not_bit : (b : Bool) → bit (not b) ≡ 1 - bit b
not_bit true = refl
not_bit false = refl

-- the other letters below n
pub others_is : (n a : ℕ) → a < 2 ^ n → (2 ^ n - 1) - a ≡ set_of n (λ l. not (bit_at a l))
unfolding set_of
others_is zero a h = omega arith
others_is (suc n) a h =
    let h' : a < 2 * 2 ^ n = rw pow-succ' at h in
    let hd : bit (not (bit_at a 0)) ≡ 1 - a % 2 = not_bit (bit_at a 0)
    ∙ ap (λ (x : ℕ). 1 - x) (ap bit (bit_zero a) ∙ bit_eqb (a % 2) (omega arith)) in
    let tl : set_of n (λ l. not (bit_at a (suc l))) ≡ (2 ^ n - 1) - a / 2 =
    set_of_ext n (λ l. not (bit_at a (suc l))) (λ l. not (bit_at (a / 2) l))
    (λ l g. ap not (bit_suc a l)) ∙ sym (others_is n (a / 2) (omega arith)) in
    rw pow-succ' (omega arith)

bit_dbl : (b : Bool) (x : ℕ) → bit b * (2 * x) ≡ 2 * (bit b * x)
bit_dbl true x = omega arith
bit_dbl false x = omega arith

-- one more letter: the highest
pub set_of_snoc : (n : ℕ) (p : ℕ → Bool) → set_of (suc n) p ≡ set_of n p + bit (p n) * 2 ^ n
unfolding set_of
set_of_snoc zero p = omega arith
set_of_snoc (suc n) p =
    let ih = set_of_snoc n (λ k. p (suc k)) in
    rw pow-succ' (omega (arith, bit_dbl (p (suc n)) (2 ^ n)))

-- a set of the letters below l, and letter l where it belongs
pub one_more : (l set : ℕ) (p : ℕ → Bool) (b : Bool) → p l ≡ b → set ≡ set_of l p
    → set + bit b * 2 ^ l ≡ set_of (l + 1) p
one_more l set p b e h = rw (add-one, set_of_snoc, e) (omega arith)

pub room : (l : ℕ) → l < set_bits → 2 ^ l + 2 ^ l ≤ 2 ^ set_bits
room l h = rw two-pow-succ at (pow_mono {i = suc l} {j = set_bits} h)

module _ (n : ℕ) (p q : ℕ → Bool) where
  pub set_of_or : bit_or (set_of n p) (set_of n q) ≡ set_of n (λ l. p l || q l)
  set_of_or =
      set_ext n (bit_or (set_of n p) (set_of n q)) (set_of n (λ l. p l || q l))
      (or_lt n (set_of n p) (set_of n q) (set_of_lt n p) (set_of_lt n q))
      (set_of_lt n (λ l. p l || q l))
      λ l h. rw (in_or, in_set_of n l p h, in_set_of n l q h, in_set_of n l (λ i. p i || q i) h)

  pub set_of_and : bit_and (set_of n p) (set_of n q) ≡ set_of n (λ l. p l && q l)
  set_of_and =
      set_ext n (bit_and (set_of n p) (set_of n q)) (set_of n (λ l. p l && q l))
      (and_lt n (set_of n p) (set_of n q) (set_of_lt n p) (set_of_lt n q))
      (set_of_lt n (λ l. p l && q l))
      λ l h. rw (in_and, in_set_of n l p h, in_set_of n l q h, in_set_of n l (λ i. p i && q i) h)

pub set_of_false : (n : ℕ) → set_of n (λ l. false) ≡ 0
unfolding set_of
set_of_false zero = refl
set_of_false (suc n) = rw (set_of_false n) refl

pub set_of_true : (n : ℕ) → set_of n (λ l. true) ≡ 2 ^ n - 1
unfolding set_of
set_of_true zero = refl
set_of_true (suc n) = rw (set_of_true n, pow-succ') (omega (arith, pow_pos n))

-- Sets are put together in any order.
below_power : (x : ℕ) → x < 2 ^ x
below_power zero = omega arith
below_power (suc x) = rw two-pow-succ (omega (arith, below_power x))

pub or_swap : (a b c : ℕ) → bit_or (bit_or a b) c ≡ bit_or (bit_or a c) b
or_swap a b c =
    let n = a + b + c in
    let ha = lt_of_lt_of_le (below_power a) (pow_mono {i = a} {j = n} (omega arith)) in
    let hb = lt_of_lt_of_le (below_power b) (pow_mono {i = b} {j = n} (omega arith)) in
    let hc = lt_of_lt_of_le (below_power c) (pow_mono {i = c} {j = n} (omega arith)) in
    set_ext n (bit_or (bit_or a b) c) (bit_or (bit_or a c) b)
    (or_lt n (bit_or a b) c (or_lt n a b ha hb) hc) (or_lt n (bit_or a c) b (or_lt n a c ha hc) hb)
    (λ l h. rw (in_or (bit_or a b) c l, in_or a b l, in_or (bit_or a c) b l, in_or a c l)
    (swap (bit_at a l) (bit_at b l) (bit_at c l)))
  where
    swap : (x y z : Bool) → (x || y || z) ≡ (x || z || y)
    swap true y z = refl
    swap false true true = refl
    swap false true false = refl
    swap false false true = refl
    swap false false false = refl

pub bit_or_assoc : (a b c : ℕ) → bit_or (bit_or a b) c ≡ bit_or a (bit_or b c)
bit_or_assoc a b c =
    ap (λ (x : ℕ). bit_or x c) (or_comm a b) ∙ or_swap b a c ∙ or_comm (bit_or b c) a

pub bit_and_assoc : (a b c : ℕ) → bit_and (bit_and a b) c ≡ bit_and a (bit_and b c)
bit_and_assoc a b c =
    let few = below_power a in
    let left = and_le_l (bit_and a b) c in
    let inner = and_le_l a b in
    let right = and_le_l a (bit_and b c) in
    set_ext a (bit_and (bit_and a b) c) (bit_and a (bit_and b c)) (omega arith) (omega arith)
    (λ l h. rw (in_and (bit_and a b) c l, in_and a b l, in_and a (bit_and b c) l, in_and b c l)
    (and_assoc (bit_at a l) (bit_at b l) (bit_at c l)))

-- The bits below n of a number are those of its remainder.
pub bit_low : (n x l : ℕ) → l < n → bit_at (x % 2 ^ n) l ≡ bit_at x l
bit_low n x l h =
    rw (← and_mask x n, in_and, ← set_of_true n, in_set_of n l (λ _. true) h) (and-true (bit_at x l))

-- The letters that are not in the set of p's letters.
pub set_of_others : (n : ℕ) (p : ℕ → Bool)
    → set_of n (λ l. not (bit_at (set_of n p) l)) ≡ set_of n (λ l. not (p l))
set_of_others n p =
    set_of_ext n (λ l. not (bit_at (set_of n p) l)) (λ l. not (p l)) (λ l h. ap not (in_set_of n l p h))

-- A set without the letters of another.
module _ (set off : ℕ) where
  pub without_in : (l : ℕ) → l < set_bits
      → in_set (without set off) l ≡ (in_set set l && not (in_set off l))
  without_in l h = in_set_of set_bits l (λ i. in_set set i && not (in_set off i)) h

  module _ (low : set < 2 ^ set_bits) where
    without_and : bit_and set (set_of set_bits (λ i. not (in_set off i))) ≡ without set off
    without_and =
        ap (λ (x : ℕ). bit_and x (set_of set_bits (λ i. not (in_set off i))))
        (sym (set_eta set_bits set low))
        ∙ set_of_and set_bits (in_set set) (λ i. not (in_set off i))

    -- what the code's `set & !off` is
    pub without_is : off < 2 ^ set_bits → bit_and set (2 ^ set_bits - 1 - off) ≡ without set off
    without_is small = rw (others_is set_bits off small) without_and

    -- It is a smaller number where a letter is in both.
    pub without_less : (l : ℕ) → in_set set l ≡ true → in_set off l ≡ true → without set off < set
    without_less l is gone = go (dec_lt (without set off) set)
      where
        go : Dec (without set off < set) → without set off < set
        go (yes h) = h
        go (no h) =
            let least = rw without_and at (and_le_l set (set_of set_bits (λ i. not (in_set off i)))) in
            let same : without set off ≡ set = omega arith in
            absurd (true≢false (sym is ∙ ap (λ (x : ℕ). in_set x l) (sym same)
            ∙ rw (without_in l (bit_place set set_bits l low is), is, gone)))
