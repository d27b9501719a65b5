-- What is said of the elements of a list: that one stands at a place, that some pass a test, and
-- that two functions agree at each. Assumes nothing.
use Prim.Native.Nat.{ℕ, zero, suc, ◌<◌, ◌≤◌}
use native.Mathlib.Omega.{arith}
use mathlib.Core.Bool.{Bool, true, false, ◌||◌, or-true, true≢false}
use mathlib.Core.List.Memᴰ
use mathlib.Core.List.{List, [], ◌∷◌, map, Memᴰ}
use mathlib.Core.Logic.{◌⊎◌, inl, inr}
use mathlib.Core.Path.{◌≡◌, refl, sym, ap₂}
use lib.ListN.{length, get_or}
use Rattle.letters.specs.Lists.{some}

-- The element of a place is one of the list, and where there is an element the list is not empty.
pub mem_at : {A : Type 0} (d : A) (xs : List A) (j : ℕ) → j < length xs → Memᴰ (get_or xs j d) xs
mem_at d [] j low = absurd (omega arith)
mem_at d (x ∷ xs) zero low = Memᴰ.head refl
mem_at d (x ∷ xs) (suc j) low = Memᴰ.tail (mem_at d xs j (omega arith))

pub mem_length : {A : Type 0} (x : A) (xs : List A) → Memᴰ x xs → 1 ≤ length xs
mem_length x [] m = absurd (Memᴰ.not-nil m)
mem_length x (y ∷ ys) m = omega arith

-- Whether some element passes a test.
module _ {A : Type 0} (test : A → Bool) where
  pub some_if : (x : A) (xs : List A) → Memᴰ x xs → test x ≡ true → some test xs ≡ true
  unfolding some
  some_if x [] m e = absurd (Memᴰ.not-nil m)
  some_if x (y ∷ ys) m e = go (Memᴰ.cases_cons m) (λ later. some_if x ys later e)
    where
      go : (x ≡ y) ⊎ Memᴰ x ys → (Memᴰ x ys → some test ys ≡ true)
          → (test y || some test ys) ≡ true
      go (inl same) ih = rw (← same, e)
      go (inr later) ih = rw (ih later) (or-true (test y))

  pub some_none : (xs : List A) → ((x : A) → Memᴰ x xs → test x ≡ false)
      → some test xs ≡ false
  unfolding some
  some_none [] no_one = refl
  some_none (x ∷ xs) no_one =
      rw (no_one x (Memᴰ.head refl)) (some_none xs (λ y m. no_one y (Memᴰ.tail m)))

  pub some_found : (xs : List A) → some test xs ≡ true
      → (x : A) × Memᴰ x xs × (test x ≡ true)
  unfolding some
  some_found [] h = absurd (true≢false (sym h))
  some_found (x ∷ xs) h = go (test x) refl h (some_found xs)
    where
      go : (b : Bool) → test x ≡ b → (b || some test xs) ≡ true
          → (some test xs ≡ true → (y : A) × Memᴰ y xs × (test y ≡ true))
          → (y : A) × Memᴰ y (x ∷ xs) × (test y ≡ true)
      go true e h later = (x, Memᴰ.head refl, e)
      go false e h later = let r = later h in (r.0, Memᴰ.tail r.1, r.2)

pub some_map : {A B : Type 0} (test : B → Bool) (f : A → B) (xs : List A)
    → some test (map f xs) ≡ some (λ x. test (f x)) xs
unfolding some
some_map test f [] = refl
some_map test f (x ∷ xs) = rw (some_map test f xs)

-- Two functions agree at each element exactly if the lists of their values are equal.
module _ {A B : Type 0} (f g : A → B) where
  pub map_agree : (xs : List A) → map f xs ≡ map g xs → (x : A) → Memᴰ x xs → f x ≡ g x
  map_agree [] e x m = absurd (Memᴰ.not-nil m)
  map_agree (y ∷ ys) e x m =
      go (Memᴰ.cases_cons m) (cc) (λ later. map_agree ys (cc) x later)
    where
      go : (x ≡ y) ⊎ Memᴰ x ys → f y ≡ g y → (Memᴰ x ys → f x ≡ g x) → f x ≡ g x
      go (inl same) here ih = rw same here
      go (inr later) here ih = ih later

  pub agree_map : (xs : List A) → ((x : A) → Memᴰ x xs → f x ≡ g x) → map f xs ≡ map g xs
  agree_map [] agree = refl
  agree_map (x ∷ xs) agree =
      ap₂ ◌∷◌ (agree x (Memᴰ.head refl)) (agree_map xs (λ y m. agree y (Memᴰ.tail m)))
