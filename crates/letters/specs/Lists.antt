-- Tests of numbers and of lists, and what is said of all places from one on.
use Rattle.std.specs.Prelude.{ℕ, ◌≤◌, ◌<◌, Bool, ◌&&◌, List, ◌≡◌, eqb, leb, length, get_or}
use Rattle.std.specs.List.{list_all, list_any}
use Rattle.std.specs.Cmp.Lexicographic.{pointwise}

-- From `least` to `most`, both included.
abbrev pub within : ℕ → ℕ → ℕ → Bool
within least most n = leb least n && leb n most

module _ {A : Type 0} (test : A → Bool) where
  -- Every element passes the test.
  unfoldable pub every : List A → Bool
  every xs = list_all test xs

  -- Some element passes the test.
  unfoldable pub some : List A → Bool
  some xs = list_any test xs

-- Two lists of bytes are the same.
unfoldable pub same_bytes : List ℕ → List ℕ → Bool
same_bytes xs ys = pointwise eqb xs ys

-- Every place from n on holds none.
abbrev pub ZeroFrom : {A : Type 0} → A → ℕ → List A → Type 0
ZeroFrom none n l = (e : ℕ) → n ≤ e → e < length l → get_or l e none ≡ none
