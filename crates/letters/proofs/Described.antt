-- What the members of a set are: they rise, they are the letters of the set, and no other rising
-- list has just these; how many they are where none or all are in the set; and whether some of them
-- pass a test. Assumes nothing.
use Prim.Native.Nat.{ℕ, zero, suc, ◌+◌, ◌<◌, ◌≤◌}
use native.Mathlib.Decide.{ℕ_discrete}
use native.Mathlib.Omega.{arith}
use mathlib.Core.Bool.{Bool, true, false, cond, true≢false}
use mathlib.Core.List.Memᴰ
use mathlib.Core.List.{List, [], ◌∷◌, Memᴰ}
use mathlib.Core.Logic.{◌⊎◌, inl, inr}
use mathlib.Core.Path.{◌≡◌, refl, sym, ap, ap₂, ◌∙◌}
use lib.ListN.{length}
use Rattle.letters.specs.Letter.{letters, in_set, members}
use Rattle.letters.specs.Lists.{some}
use Rattle.letters.specs.Further.Described.{Rising, none, one, more, LettersOf}
use Rattle.letters.proofs.Elements.{mem_length, some_if, some_none}

-- Rising lists with the same elements are the same.
rising_tail : (x : ℕ) (xs : List ℕ) → Rising (x ∷ xs) → Rising xs
rising_tail x [] one = none
rising_tail x (y ∷ ys) (more low h) = h

rising_above : (x : ℕ) (xs : List ℕ) → Rising (x ∷ xs) → (z : ℕ) → Memᴰ z xs → x < z
rising_above x [] one z m = absurd (Memᴰ.not-nil m)
rising_above x (y ∷ ys) (more low h) z m =
    go (Memᴰ.cases_cons m) (rising_above y ys h z)
  where
    go : (z ≡ y) ⊎ Memᴰ z ys → (Memᴰ z ys → y < z) → x < z
    go (inl e) above = omega arith
    go (inr later) above = omega (arith, above later)

abbrev Within : List ℕ → List ℕ → Type 0
Within xs ys = (z : ℕ) → Memᴰ z xs → Memᴰ z ys

rising_first : (x y : ℕ) (xs ys : List ℕ) → Rising (y ∷ ys) → Within (x ∷ xs) (y ∷ ys) → y ≤ x
rising_first x y xs ys h within = go (Memᴰ.cases_cons (within x (Memᴰ.head refl)))
  where
    go : (x ≡ y) ⊎ Memᴰ x ys → y ≤ x
    go (inl e) = omega arith
    go (inr later) = omega (arith, rising_above y ys h x later)

within_tail : (x y : ℕ) (xs ys : List ℕ) → x ≡ y → Rising (x ∷ xs)
    → Within (x ∷ xs) (y ∷ ys) → Within xs ys
within_tail x y xs ys same h within z m = go (Memᴰ.cases_cons (within z (Memᴰ.tail m)))
  where
    go : (z ≡ y) ⊎ Memᴰ z ys → Memᴰ z ys
    go (inl e) = absurd (omega (arith, rising_above x xs h z m))
    go (inr later) = later

rising_unique : (xs ys : List ℕ) → Rising xs → Rising ys → Within xs ys → Within ys xs → xs ≡ ys
rising_unique [] [] h g a b = refl
rising_unique [] (y ∷ ys) h g a b = absurd (Memᴰ.not-nil (b y (Memᴰ.head refl)))
rising_unique (x ∷ xs) [] h g a b = absurd (Memᴰ.not-nil (a x (Memᴰ.head refl)))
rising_unique (x ∷ xs) (y ∷ ys) h g a b =
    let low = rising_first x y xs ys g a in
    let high = rising_first y x ys xs h b in
    let same : x ≡ y = omega arith in
    ap₂ ◌∷◌ same (rising_unique xs ys (rising_tail x xs h) (rising_tail y ys g)
    (within_tail x y xs ys same h a) (within_tail y x ys xs (sym same) g b))

-- The members of the n letters from l on.
module _ (set : ℕ) where
  members_above : (n l x : ℕ) → x < l → Rising (x ∷ members n l set)
  unfolding members
  members_above zero l x low = one
  members_above (suc n) l x low =
      go (in_set set l) (members_above n (suc l) l (omega arith))
      (members_above n (suc l) x (omega arith))
    where
      go : (t : Bool) → Rising (l ∷ members n (suc l) set) → Rising (x ∷ members n (suc l) set)
          → Rising (x ∷ cond t (l ∷ members n (suc l) set) (members n (suc l) set))
      go true here later = more low here
      go false here later = later

  pub members_rising : (n l : ℕ) → Rising (members n l set)
  unfolding members
  members_rising zero l = none
  members_rising (suc n) l =
      go (in_set set l) (members_above n (suc l) l (omega arith)) (members_rising n (suc l))
    where
      go : (t : Bool) → Rising (l ∷ members n (suc l) set) → Rising (members n (suc l) set)
          → Rising (cond t (l ∷ members n (suc l) set) (members n (suc l) set))
      go true here later = here
      go false here later = later

  abbrev Member : ℕ → ℕ → ℕ → Type 0
  Member n l x = (l ≤ x) × (x < l + n) × (in_set set x ≡ true)

  member_later : (n l x : ℕ) → Member n (suc l) x → Member (suc n) l x
  member_later n l x is = (omega (arith, is.0), omega (arith, is.1), is.2)

  pub members_in : (n l x : ℕ) → Memᴰ x (members n l set) → Member n l x
  unfolding members
  members_in zero l x m = absurd (Memᴰ.not-nil m)
  members_in (suc n) l x m =
      go (in_set set l) refl m (λ rest. member_later n l x (members_in n (suc l) x rest))
    where
      first : in_set set l ≡ true → (x ≡ l) ⊎ Memᴰ x (members n (suc l) set)
          → (Memᴰ x (members n (suc l) set) → Member (suc n) l x) → Member (suc n) l x
      first e (inl same) later = (omega arith, omega arith, rw same e)
      first e (inr rest) later = later rest

      go : (t : Bool) → in_set set l ≡ t
          → Memᴰ x (cond t (l ∷ members n (suc l) set) (members n (suc l) set))
          → (Memᴰ x (members n (suc l) set) → Member (suc n) l x) → Member (suc n) l x
      go true e m later = first e (Memᴰ.cases_cons m) later
      go false e m later = later m

  pub in_members : (n l x : ℕ) → l ≤ x → x < l + n → in_set set x ≡ true
      → Memᴰ x (members n l set)
  unfolding members
  in_members zero l x low high h = absurd (omega arith)
  in_members (suc n) l x low high h =
      go (in_set set l) refl (ℕ_discrete x l)
      (λ other. in_members n (suc l) x (omega arith) (omega arith) h)
    where
      go : (t : Bool) → in_set set l ≡ t → Dec (x ≡ l)
          → ((x ≡ l → ⊥) → Memᴰ x (members n (suc l) set))
          → Memᴰ x (cond t (l ∷ members n (suc l) set) (members n (suc l) set))
      go true e (yes same) ih = Memᴰ.head same
      go true e (no other) ih = Memᴰ.tail (ih other)
      go false e (yes same) ih =
          absurd (true≢false (sym h ∙ ap (λ (k : ℕ). in_set set k) same ∙ e))
      go false e (no other) ih = ih other

  -- How many they are.
  pub members_le : (n l : ℕ) → length (members n l set) ≤ n
  unfolding members
  members_le zero l = omega arith
  members_le (suc n) l = go (in_set set l) (members_le n (suc l))
    where
      go : (t : Bool) → length (members n (suc l) set) ≤ n
          → length (cond t (l ∷ members n (suc l) set) (members n (suc l) set)) ≤ suc n
      go true h = omega arith
      go false h = omega arith

  members_missing : (n l : ℕ) → length (members n l set) < n
      → (x : ℕ) × (x < l + n) × (in_set set x ≡ false)
  unfolding members
  members_missing zero l h = absurd (omega arith)
  members_missing (suc n) l h = go (in_set set l) refl h (members_missing n (suc l))
    where
      go : (t : Bool) → in_set set l ≡ t
          → length (cond t (l ∷ members n (suc l) set) (members n (suc l) set)) < suc n
          → (length (members n (suc l) set) < n
          → (x : ℕ) × (x < suc l + n) × (in_set set x ≡ false))
          → (x : ℕ) × (x < l + suc n) × (in_set set x ≡ false)
      go true e h ih = let rest = ih (omega arith) in (rest.0, omega (arith, rest.1), rest.2)
      go false e h ih = (l, omega arith, e)

  members_full : (n l : ℕ) → length (members n l set) ≡ n
      → (x : ℕ) → l ≤ x → x < l + n → in_set set x ≡ true
  unfolding members
  members_full zero l h x low high = absurd (omega arith)
  members_full (suc n) l h x low high =
      go (in_set set l) refl h (ℕ_discrete l x)
      (λ full other. members_full n (suc l) full x (omega arith) (omega arith))
    where
      go : (t : Bool) → in_set set l ≡ t
          → length (cond t (l ∷ members n (suc l) set) (members n (suc l) set)) ≡ suc n
          → Dec (l ≡ x)
          → (length (members n (suc l) set) ≡ n → (l ≡ x → ⊥) → in_set set x ≡ true)
          → in_set set x ≡ true
      go true e h (yes same) ih = ap (λ (k : ℕ). in_set set k) (sym same) ∙ e
      go true e h (no other) ih = ih (omega arith) other
      go false e h d ih = absurd (omega (arith, members_le n (suc l)))

  module _ (s : ℕ) where
    abbrev held : List ℕ
    held = members (letters s) 0 set

    pub members_letters : LettersOf s set held
    members_letters = record {
      rising = members_rising (letters s) 0;
      exactly = λ l. (
        λ m. let is = members_in (letters s) 0 l m in (omega (arith, is.1), is.2),
        λ h. in_members (letters s) 0 l (omega arith) (omega (arith, h.0)) h.1,
      );
    }

    pub letters_members : (others : List ℕ) → LettersOf s set others → held ≡ others
    letters_members others h =
        rising_unique held others members_letters.rising h.rising
        (λ z m. (h.exactly z).1 ((members_letters.exactly z).0 m))
        (λ z m. (members_letters.exactly z).1 ((h.exactly z).0 m))

    -- None of the letters is in the set exactly where there are no members, all of them where there
    -- are as many; else some letter is, and some is not.
    pub none_held : length held ≡ 0 → (l : ℕ) → l < letters s → in_set set l ≡ false
    none_held e l low = go (in_set set l) refl
      where
        go : (t : Bool) → in_set set l ≡ t → t ≡ false
        go true h =
            absurd (omega (arith, mem_length l held ((members_letters.exactly l).1 (low, h))))
        go false h = refl

    pub all_held : length held ≡ letters s → (l : ℕ) → l < letters s → in_set set l ≡ true
    all_held e l low = members_full (letters s) 0 e l (omega arith) (omega arith)

    pub some_held : (length held ≡ 0 → ⊥) → (l : ℕ) × (l < letters s) × (in_set set l ≡ true)
    some_held other = go held refl
      where
        go : (xs : List ℕ) → held ≡ xs → (l : ℕ) × (l < letters s) × (in_set set l ≡ true)
        go [] e = absurd (other (ap length e))
        go (x ∷ xs) e =
            let is = (members_letters.exactly x).0 (rw e (Memᴰ.head refl)) in
            (x, is.0, is.1)

    pub some_not_held : (length held ≡ letters s → ⊥)
        → (l : ℕ) × (l < letters s) × (in_set set l ≡ false)
    some_not_held other =
        let few = members_le (letters s) 0 in
        let is = members_missing (letters s) 0 (omega arith) in
        (is.0, omega (arith, is.1), is.2)

    pub held_none : ((l : ℕ) → l < letters s → in_set set l ≡ false) → length held ≡ 0
    held_none no_one = go (ℕ_discrete (length held) 0)
      where
        go : Dec (length held ≡ 0) → length held ≡ 0
        go (yes e) = e
        go (no other) =
            let is = some_held other in
            absurd (true≢false (sym is.2 ∙ no_one is.0 is.1))

    pub held_all : ((l : ℕ) → l < letters s → in_set set l ≡ true) → length held ≡ letters s
    held_all all = go (ℕ_discrete (length held) (letters s))
      where
        go : Dec (length held ≡ letters s) → length held ≡ letters s
        go (yes e) = e
        go (no other) =
            let is = some_not_held other in
            absurd (true≢false (sym (all is.0 is.1) ∙ is.2))

    -- A test that passes at the letter l alone passes at some member exactly where l is one.
    pub some_member : (test : ℕ → Bool) (l : ℕ) → l < letters s → test l ≡ true
        → ((a : ℕ) → a < letters s → (a ≡ l → ⊥) → test a ≡ false)
        → some test held ≡ in_set set l
    some_member test l low passes alone = go (in_set set l) refl
      where
        go : (t : Bool) → in_set set l ≡ t → some test held ≡ t
        go true e = some_if test l held ((members_letters.exactly l).1 (low, e)) passes
        go false e = some_none test held
            (λ a m. let is = (members_letters.exactly a).0 m in
            alone a is.0
            (λ same. true≢false (sym is.1 ∙ ap (λ (k : ℕ). in_set set k) same ∙ e)))
