-- `put_condition` meets its contract: what all letters of the signals leave of the set is none,
-- all, or the letters of its terms. Assumes nothing.
use Rattle.std.proofs.Common.{◌≡◌, ℕ, ◌^◌, ◌<◌, ◌≤◌, true, List, [], ◌∷◌, map, length}
use Rattle.std.proofs.Common.{sym, ap, ◌∙◌, rules, arith, eq-eqb}
use borrow.Author.Tests.{ne_eqb}
use native.Mathlib.Decide.{dec_lt}
use lib.Bits.{bit_and}
use lib.Pow.{pow_mono}
use Rattle.letters.specs.Letter.{letters, set_bits, width, members, set_of}
use Rattle.letters.proofs.Bits.{width_letters}
use Rattle.letters.proofs.Members.{members_length, members_wide, all_letters, kept, kept_none}
use Rattle.letters.proofs.Members.{none_kept, kept_all, all_kept, kept_wide}
use Rattle.table.specs.Limits.{most_signals}
use Rattle.table.specs.declared.Name.{Name}
use Rattle.text.specs.Lines.{joined}
use Rattle.text.specs.Words.{false_sign, true_sign, or_sign}
use Rattle.writer.specs.File.{term_text, condition_text}
use Rattle.writer.proofs.put_condition.Goals.{else-held-all-via-then-held-all+else-from-le-MOST_SIGNALS, else-held-all-via-else-held-all}
use Rattle.writer.proofs.put_condition.Goals as goal

module _ (names : List Name) (s set : ℕ) (fits : set < 2 ^ set_bits) {all : ℕ}
    (all_is : all ≡ set_of (width s) (λ _. true)) where
  abbrev held : ℕ
  held = bit_and set all

  abbrev many : ℕ
  many = length (members (letters s) 0 set)

  held_is : held ≡ kept set s
  held_is = rw all_is (kept_wide set s fits)

  few_all : s ≤ most_signals → all ≡ all_letters s
  few_all few = all_is ∙ ap (λ (n : ℕ). set_of n (λ _. true)) (width_letters s few)

  none_text : held ≡ 0 → condition_text names s set ≡ false_sign ∷ []
  unfolding condition_text
  none_text e = rw (eq-eqb many 0 (kept_none set s (sym held_is ∙ e)))

  module _ (other : held ≡ 0 → ⊥) where
    some_held : many ≡ 0 → ⊥
    some_held e = other (held_is ∙ none_kept set s e)

    -- A set has no more than 64 letters, which are not all of more signals.
    all_text : held ≡ all → s ≤ most_signals → condition_text names s set ≡ true_sign ∷ []
    unfolding condition_text
    all_text same few =
        rw (
          ne_eqb many 0 some_held,
          eq-eqb many (letters s) (kept_all set s (sym held_is ∙ same ∙ few_all few)),
        )

    not_all : (held ≡ all → s ≤ most_signals → ⊥) → many ≡ letters s → ⊥
    not_all less e = go (dec_lt most_signals s)
      where
        go : Dec (most_signals < s) → ⊥
        go (yes more) =
            omega (
              arith,
              ap length (members_wide set s fits),
              members_length set (width s) 0,
              pow_mono {i = 7} {j = s} (omega arith),
            )
        go (no h) =
            let few : s ≤ most_signals = omega arith in
            less (held_is ∙ all_kept set s e ∙ sym (few_all few)) few

    terms_text : (held ≡ all → s ≤ most_signals → ⊥) → condition_text names s set
        ≡ joined or_sign (map (term_text names) (members (width s) 0 set))
    unfolding condition_text
    terms_text less =
        rw (
          ne_eqb many 0 some_held,
          ne_eqb many (letters s) (not_all less),
          members_wide set s fits,
        )

pub returns-then-held-eq0 : goal.returns-then-held-eq0
returns-then-held-eq0 c =
    rw (none_text _ _ _ (search rules) c.all-all.ensures c.if-held-eq0.true) c.byte.ensures

pub returns-then-from-le-MOST_SIGNALS : goal.returns-then-from-le-MOST_SIGNALS
returns-then-from-le-MOST_SIGNALS c =
    rw (all_text _ _ _ (search rules) c.all-all.ensures c.if-held-eq0.false c.if-held-all.true
    (omega arith)) c.byte-then-from-le-MOST_SIGNALS.ensures

pub returns-else-held-all : goal.returns-else-held-all
returns-else-held-all c =
    let fits : c.args.set < 2 ^ set_bits = search rules in
    rw (terms_text _ _ _ fits c.all-all.ensures c.if-held-eq0.false
    (elim c.else-held-all.branch [
      | else-held-all-via-then-held-all+else-from-le-MOST_SIGNALS w ↦ λ _ few. omega arith
      | else-held-all-via-else-held-all w ↦ λ same _. w.if-held-all.false same
    ])) c.put_terms.ensures
