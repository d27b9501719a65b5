-- Bytes put on a page, one after the other. Assumes nothing.
use Rattle.std.proofs.Common.{◌≡◌, ℕ, suc, ◌+◌, ◌<◌, ◌≤◌, min, List, [], ◌∷◌, ◌++◌, length, take, get_or, set}
use Rattle.std.proofs.Common.{refl, ap, ◌∙◌, arith, add-one, append_assoc}
use Rattle.std.specs.Borrow.{MutBor}
use Rattle.std.proofs.Math.ListN.{length-set}
use Rattle.std.proofs.lemmas.List.{take_more}
use Rattle.std.proofs.lemmas.List.Edits.{sets}
use Rattle.text.proofs.Decimals.{decimal_few, decimal_more}
use Rattle.text.proofs.Joins.{ended_append}
use Rattle.text.specs.Lines.{LF, ended}
use Rattle.verdict.specs.Buffer.{written}
use Rattle.put.specs.declared.Page.{Page}
use Rattle.put.specs.Inner.Page.{added, blank, with_byte}
use Rattle.put.specs.Inner.Puts.{Puts, last_place}
use Rattle.put.proofs.Puts.{sets_last}

-- Bytes, and then more of them; and the first ones, and then one more.
pub added_append : (p : Page) (xs ys : List ℕ) → added p (xs ++ ys) ≡ added (added p xs) ys
unfolding added
added_append p [] ys = refl
added_append p (x ∷ xs) ys = added_append (with_byte p x) xs ys

pub added_more : (p : Page) (xs : List ℕ) (i : ℕ) → i < length xs
    → added p (take (i + 1) xs) ≡ added (added p (take i xs)) (get_or xs i 0 ∷ [])
added_more p xs i h = rw (take_more xs i 0 h) (added_append p (take i xs) (get_or xs i 0 ∷ []))

-- One byte more, where buffer and place are those of a page with the ones before it.
module _ (begun : Page) (bytes : List ℕ) {out : MutBor (List ℕ)} {at i : ℕ}
    (so_far : record { out = out; at = at } ≡ added begun (take i bytes)) (h : i < length bytes) where
  pub next_byte : record {
    out = record out { now = set out.now at (get_or bytes i 0) };
    at = min (at + 1) last_place;
  } ≡ added begun (take (i + 1) bytes)
  unfolding added with_byte
  next_byte = rw (added_more begun bytes i h, ← so_far)

-- It is the same buffer.
pub added_name : (p : Page) (xs : List ℕ) → (added p xs).out.ghost_name ≡ p.out.ghost_name
unfolding added with_byte
added_name p [] = refl
added_name p (x ∷ xs) = added_name (with_byte p x) xs

-- The place after them: no further on than there are bytes, and just there if it is not the last.
pub added_le : (p : Page) (xs : List ℕ) → (added p xs).at ≤ p.at + length xs
unfolding added with_byte
added_le p [] = omega arith
added_le p (x ∷ xs) = omega (arith, added_le (with_byte p x) xs)

pub at_le : (p : Page) {q : Page} (xs : List ℕ) → q ≡ added p xs → q.at ≤ p.at + length xs
at_le p xs e = rw e (added_le p xs)

pub added_counted : (p : Page) (xs : List ℕ) → (added p xs).at < last_place
    → (added p xs).at ≡ p.at + length xs
unfolding added with_byte
added_counted p [] h = omega arith
added_counted p (x ∷ xs) h = omega (arith, added_counted (with_byte p x) xs h)

-- What a page holds then, from any place on.
pub added_puts : (p : Page) (xs : List ℕ) → length p.out.now ≤ last_place → p.at ≤ last_place
    → Puts p.at xs p.out.now (added p xs).at (added p xs).out.now
unfolding added with_byte
added_puts p [] short near = record { short = short; next_is = omega arith; bytes_are = refl }
added_puts p (x ∷ xs) short near =
    let few : length (set p.out.now p.at x) ≤ last_place = rw length-set short in
    let more = added_puts (with_byte p x) xs few (omega arith) in
    record {
      short = short;
      next_is = omega (arith, more.next_is);
      bytes_are =
          more.bytes_are ∙ sets_last xs (set p.out.now p.at x) (p.at + 1) few
          ∙ ap (λ (k : ℕ). sets (set p.out.now p.at x) k xs) (add-one p.at);
    }

-- And from the front of its buffer on, where there are fewer bytes than places.
sets_after : (xs ys : List ℕ) (y at : ℕ) → sets (y ∷ ys) (suc at) xs ≡ y ∷ sets ys at xs
sets_after [] ys y at = refl
sets_after (x ∷ xs) ys y at = sets_after xs (set ys at x) y (suc at)

sets_none : (xs : List ℕ) (at : ℕ) → sets [] at xs ≡ []
sets_none [] at = refl
sets_none (x ∷ xs) at = sets_none xs (suc at)

sets_front : (bytes buffer : List ℕ) → sets buffer 0 bytes ≡ written bytes buffer
sets_front [] [] = refl
sets_front [] (y ∷ ys) = refl
sets_front (x ∷ xs) [] = sets_none xs 1
sets_front (x ∷ xs) (y ∷ ys) = sets_after xs ys x 0 ∙ ap (◌∷◌ x) (sets_front xs ys)

from_place : (p : Page) (xs : List ℕ) → p.at + length xs ≤ last_place
    → ((added p xs).at ≡ p.at + length xs) × ((added p xs).out.now ≡ sets p.out.now p.at xs)
unfolding added with_byte
from_place p [] few = (omega arith, refl)
from_place p (x ∷ xs) few =
    let next : min (p.at + 1) last_place ≡ suc p.at = omega arith in
    let more = from_place (with_byte p x) xs (omega arith) in
    (omega (arith, more.0), more.1 ∙ ap (λ (k : ℕ). sets (set p.out.now p.at x) k xs) next)

-- Where a page ends that began there: no further on than there are bytes, and just there if it is
-- not at the last place.
module _ {begun page : Page} (buffer : MutBor (List ℕ)) (text : List ℕ) (begins : begun ≡ blank buffer)
    (puts : page ≡ added begun text) where
  pub page_le : page.at ≤ length text
  page_le = rw (puts, begins) (omega (arith, added_le (blank buffer) text))

  pub page_counted : page.at < last_place → page.at ≡ length text
  page_counted h =
      let near : (added (blank buffer) text).at < last_place = rw (puts, begins) at h in
      rw (puts, begins) (omega (arith, added_counted (blank buffer) text near))

pub page_few : (buffer : MutBor (List ℕ)) (text : List ℕ)
    → (added (blank buffer) text).at < last_place → length text ≤ last_place
page_few buffer text h = omega (arith, added_counted (blank buffer) text h)

module _ (buffer : MutBor (List ℕ)) (text : List ℕ) (few : length text ≤ last_place) where
  pub page_at : (added (blank buffer) text).at ≡ length text
  page_at = omega (arith, (from_place (blank buffer) text (omega arith)).0)

  pub page_now : (added (blank buffer) text).out.now ≡ written text buffer.now
  page_now = (from_place (blank buffer) text (omega arith)).1 ∙ sets_front text buffer.now

-- Lines, each with its end.
module _ (p : Page) where
  pub lines_none : added p (ended []) ≡ p
  unfolding added ended
  lines_none = refl

  pub lines_more : (line : List ℕ) (more : List (List ℕ))
      → added p (ended (line ∷ more)) ≡ added (added p (line ++ LF ∷ [])) (ended more)
  unfolding ended
  lines_more line more =
      rw (← append_assoc line (LF ∷ []) (ended more)) (added_append p (line ++ LF ∷ []) (ended more))

  pub lines_append : (xs ys : List (List ℕ))
      → added p (ended (xs ++ ys)) ≡ added (added p (ended xs)) (ended ys)
  lines_append xs ys = rw (ended_append xs ys) (added_append p (ended xs) (ended ys))

-- Bytes, and then more of them; a line alone; a line, and then others; lines, and then others.
pub bytes_then : (p : Page) {q r : Page} (xs ys : List ℕ) → q ≡ added p xs → r ≡ added q ys
    → r ≡ added p (xs ++ ys)
bytes_then p xs ys first others = rw (added_append p xs ys, ← first) others

pub last_line : (p : Page) {q : Page} (line : List ℕ) → q ≡ added p (line ++ LF ∷ [])
    → q ≡ added p (ended (line ∷ []))
unfolding ended
last_line p line put = put

module _ (p : Page) {q r : Page} where
  pub line_then : (line : List ℕ) (more : List (List ℕ)) → q ≡ added p (line ++ LF ∷ [])
      → r ≡ added q (ended more) → r ≡ added p (ended (line ∷ more))
  line_then line more first others = rw (lines_more p line more, ← first) others

  pub lines_then : (xs ys : List (List ℕ)) → q ≡ added p (ended xs)
      → r ≡ added q (ended ys) → r ≡ added p (ended (xs ++ ys))
  lines_then xs ys first others = rw (lines_append p xs ys, ← first) others

-- For functions that put bytes on a page; that put lines on it; and that begin a page.
pub ruleset pages = (added_append, added_more, decimal_few, decimal_more)

pub ruleset page_lines = (lines_none, lines_more, lines_append)

pub ruleset whole_page = (page_at, page_now, page_few, added_name)
