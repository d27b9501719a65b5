-- Bytes put into a buffer from a place on, and then more of them. Assumes nothing.
use Rattle.std.proofs.Common.{◌≡◌, ℕ, suc, ◌+◌, ◌<◌, ◌≤◌, min, List, [], ◌∷◌, ◌++◌, length, set}
use Rattle.std.proofs.Common.{refl, sym, ap, ◌∙◌, arith, length-append}
use Rattle.std.proofs.Math.Seq.{length-sets, set_out}
use Rattle.std.proofs.lemmas.List.Edits.{sets}
use native.Mathlib.Decide.{dec_lt}
use Rattle.put.specs.Inner.Puts.{Puts, last_place}

sets_append : (xs ys buffer : List ℕ) (at : ℕ)
    → sets buffer at (xs ++ ys) ≡ sets (sets buffer at xs) (at + length xs) ys
sets_append [] ys buffer at = ap (λ (k : ℕ). sets buffer k ys) (omega arith)
sets_append (x ∷ xs) ys buffer at =
    sets_append xs ys (set buffer at x) (suc at)
    ∙ ap (λ (k : ℕ). sets (sets (set buffer at x) (suc at) xs) k ys) (omega arith)

-- Past the buffer's end nothing is stored: so a place past the last one may be taken for the last.
pub sets_past : (xs buffer : List ℕ) (at : ℕ) → length buffer ≤ at → sets buffer at xs ≡ buffer
sets_past [] buffer at h = refl
sets_past (x ∷ xs) buffer at h =
    ap (λ (l : List ℕ). sets l (suc at) xs) (set_out buffer at x h)
    ∙ sets_past xs buffer (suc at) (omega arith)

pub sets_last : (xs buffer : List ℕ) (at : ℕ) → length buffer ≤ last_place
    → sets buffer (min at last_place) xs ≡ sets buffer at xs
sets_last xs buffer at short = go (dec_lt last_place at)
  where
    go : Dec (last_place < at) → sets buffer (min at last_place) xs ≡ sets buffer at xs
    go (yes far) =
        let last : min at last_place ≡ last_place = omega arith in
        rw last (sets_past xs buffer last_place short
        ∙ sym (sets_past xs buffer at (omega arith)))
    go (no near) = ap (λ (k : ℕ). sets buffer k xs) (omega arith)

module _ {at : ℕ} {xs buffer : List ℕ} {next : ℕ} {between : List ℕ}
    (first : Puts at xs buffer next between) where
  pub puts_length : length between ≡ length buffer
  puts_length = ap length first.bytes_are ∙ length-sets buffer at xs

  -- Bytes, and then more of them.
  pub puts_append : {ys : List ℕ} {end : ℕ} {exit : List ℕ} → Puts next ys between end exit
      → Puts at (xs ++ ys) buffer end exit
  puts_append {ys} {end} {exit} second =
      let place : sets between next ys ≡ sets between (at + length xs) ys =
      rw first.next_is (sets_last ys between (at + length xs) second.short) in
      record {
        short = first.short;
        next_is = rw length-append (omega (arith, first.next_is, second.next_is));
        bytes_are =
            second.bytes_are ∙ place ∙ rw first.bytes_are (sym (sets_append xs ys buffer at));
      }
