-- Bytes put into a lent buffer, place by place.
use Rattle.std.specs.Prelude.{ℕ, ◌+◌, min, List, [], ◌∷◌, set}
use Rattle.std.specs.Borrow.{MutBor}
use Rattle.put.specs.Inner.Puts.{last_place}
use Rattle.put.specs.declared.Page.{Page}

-- A page that begins at the front of its buffer.
abbrev pub blank : MutBor (List ℕ) → Page
blank buffer = record { out = buffer; at = 0 }

-- A page with one more byte, and with several: a byte that has no place is left out and counted, as
-- far as places are counted.
unfoldable pub with_byte : Page → ℕ → Page
with_byte page b = record page {
  out = record page.out { now = set page.out.now page.at b };
  at = min (page.at + 1) last_place;
}

unfoldable pub added : Page → List ℕ → Page
added page [] = page
added page (b ∷ more) = added (with_byte page b) more
