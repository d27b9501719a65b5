-- Values of a list's elements, padded to a size: place by place. Assumes nothing.
use Prim.Native.Nat.{ℕ, zero, suc, ◌+◌, ◌-◌, ◌<◌, ◌≤◌}
use native.Mathlib.Omega.{arith}
use mathlib.Core.List.{List, [], ◌∷◌, ◌++◌, map}
use mathlib.Core.Path.{◌≡◌, refl, ap, ◌∙◌}
use lib.ListN.{length, get_or, replicate, length-append, length-map, length-replicate}
use lib.ListN.{get_or-append}
use lib.Seq.{get_or-append-add}

-- Every place of a list of one value has it, and so has every place past its end.
pub same_at : {A : Type 0} (d : A) (n i : ℕ) → get_or (replicate n d) i d ≡ d
same_at d zero i = refl
same_at d (suc n) zero = refl
same_at d (suc n) (suc i) = same_at d n i

module _ {A B : Type 0} (f : A → B) where
  pub map_at : (xs : List A) (a : A) (d : B) (i : ℕ) → i < length xs
      → get_or (map f xs) i d ≡ f (get_or xs i a)
  map_at [] a d i h = absurd (omega arith)
  map_at (x ∷ xs) a d zero h = refl
  map_at (x ∷ xs) a d (suc i) h = map_at xs a d i (omega arith)

  module _ (d : B) (size : ℕ) (xs : List A) where
    abbrev padding : List B
    padding = replicate (size - length xs) d

    abbrev padded : List B
    padded = map f xs ++ padding

    pub padded_length : length xs ≤ size → length padded ≡ size
    padded_length fits = omega (
      arith,
      length-append (map f xs) padding,
      length-map xs f,
      length-replicate {A = B} (size - length xs) d,
    )

    pub padded_at : (a : A) (i : ℕ) → i < length xs → get_or padded i d ≡ f (get_or xs i a)
    padded_at a i h =
        get_or-append (map f xs) padding d i (omega (arith, length-map xs f))
        ∙ map_at xs a d i h

    pub padded_beyond : (i : ℕ) → length xs ≤ i → get_or padded i d ≡ d
    padded_beyond i h =
        let k : i ≡ length (map f xs) + (i - length xs) = omega (arith, length-map xs f) in
        ap (λ (j : ℕ). get_or padded j d) k
        ∙ get_or-append-add (map f xs) padding (i - length xs) d
        ∙ same_at d (size - length xs) (i - length xs)
