-- A list that a loop fills place by place. Assumes nothing.
use Prim.Native.Nat.{ℕ, ◌+◌, ◌<◌, ◌≤◌}
use native.Mathlib.Omega.{arith}
use mathlib.Core.List.{List}
use mathlib.Core.Path.{◌≡◌, sym, ◌∙◌}
use borrow.Author.Count.{below_none, below_more}
use lib.ListN.{length, get_or, set, replicate, length-set, length-replicate, get_or-replicate}
use lib.Seq.{ext_get_or, get_or-set_same, get_or-set_other}

module _ {A : Type 0} (none : A) (value : ℕ → A) (n : ℕ) where
  -- Of n places, those below i hold their values.
  pub record Filled (list : List A) (i : ℕ) : Type 0 where
    pub low : i ≤ n
    pub long : length list ≡ n
    pub are : (j : ℕ) → j < i → get_or list j none ≡ value j

  pub filled_none : (list : List A) → length list ≡ n → Filled list 0
  filled_none list long =
      record { low = omega arith; long = long; are = below_none (λ j. get_or list j none ≡ value j) }

  -- All places hold the first one's value.
  pub filled_first : (first : A) → 0 < n → first ≡ value 0 → Filled (replicate n first) 1
  filled_first first some e =
      let all = replicate n first in
      record {
        low = some;
        long = length-replicate n first;
        are =
            below_more (λ j. get_or all j none ≡ value j) 0
            (below_none (λ j. get_or all j none ≡ value j))
            (get_or-replicate n 0 first none some ∙ e);
      }

  pub filled_next : (list : List A) (i : ℕ) (new : A) → Filled list i → i < n → new ≡ value i
      → Filled (set list i new) (i + 1)
  filled_next list i new f h e = record {
    low = omega arith;
    long = length-set list i new ∙ f.long;
    are =
        below_more (λ j. get_or (set list i new) j none ≡ value j) i
        (λ j low. get_or-set_other list i j new none (omega arith) ∙ f.are j low)
        (get_or-set_same list i new none (omega (arith, f.long)) ∙ e);
  }

  -- A list that is filled equals any other with these values.
  pub filled_all : (list other : List A) (i : ℕ) → Filled list i → n ≤ i → length other ≡ n
      → ((j : ℕ) → j < n → get_or other j none ≡ value j) → list ≡ other
  filled_all list other i f past long are =
      ext_get_or none list other (f.long ∙ sym long)
      (λ j low. f.are j (omega (arith, f.long)) ∙ sym (are j (omega (arith, f.long))))
