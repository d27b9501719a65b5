-- The answers of the search with the scratch computed are those with the scratch described. Assumes
-- nothing.
use Prim.Native.Nat.{ℕ}
use mathlib.Core.Path.{◌≡◌, refl, sym, ◌∙◌}
use Rattle.table.specs.Valid.{rows_of}
use Rattle.table.specs.declared.Table.{Table}
use Rattle.verdict.specs.declared.RowLists.{RowLists}
use Rattle.search.specs.Lent.{Lent, Searched, room_of}
use Rattle.demands.specs.Searching.{Fit, RightLists, SameScratch, Entered}
use Rattle.demands.specs.Searching.{RightAnswer}
use Rattle.demands.specs.Searching.RightAnswer.{is17, is20, is21, is_sound, is_trapped}
use Rattle.demands.specs.Inner.Answers.{with_entries, lists_in, ComputedAnswer}
use Rattle.demands.specs.Inner.Answers.ComputedAnswer.{is17 as computed17}
use Rattle.demands.specs.Inner.Answers.ComputedAnswer.{is20 as computed20, is21 as computed21}
use Rattle.demands.specs.Inner.Answers.ComputedAnswer.{is_sound as computedSound}
use Rattle.demands.specs.Inner.Answers.ComputedAnswer.{is_trapped as computedTrapped}
use Rattle.demands.proofs.VerdictMeaning.{trapped_earliest, earliest_trapped}
use Rattle.demands.proofs.VerdictMeaning.{sound_goes_on, goes_on_sound}
use Rattle.demands.proofs.Entries.{few, scratch_held, filled_lengths}
use Rattle.demands.proofs.NeverFires.{never_right, lists_only}
use Rattle.demands.proofs.ScratchLaws.{scratch_same}

-- Lent memory that agrees in all lists is the same.
lent_same : (one other : Lent) → SameScratch one other → one.index ≡ other.index
    → one.trace ≡ other.trace → one ≡ other
lent_same one other s x t = λ i. record {
  states = s.states i;
  lost = s.lost i;
  index = x i;
  trace = t i;
}

module _ (table : Table) (lent : Lent) where
  -- What is computed is as described,
  pub entries_entered : (n : ℕ) → Fit table lent n → Entered table n lent (with_entries table lent)
  entries_entered n fit = record {
    lengths = filled_lengths table lent n fit;
    scratch = scratch_held table lent n fit (with_entries table lent)
        (record { states = refl; lost = refl });
    index = refl;
    trace = refl;
  }

  -- and nothing else is.
  entered_is : (n : ℕ) (held : Lent) → Fit table lent n → Entered table n lent held
      → held ≡ with_entries table lent
  entered_is n held fit e =
      let own = entries_entered n fit in
      let a = e.lengths in
      let b = own.lengths in
      lent_same held (with_entries table lent) (scratch_same table n e.scratch own.scratch
      (record {
        states = sym a.states ∙ b.states;
        lost = sym a.lost ∙ b.lost;
        index = sym a.index ∙ b.index;
        trace = sym a.trace ∙ b.trace;
      })) e.index e.trace

  -- The lists of rows are right, and no others are.
  pub lists_right : (n : ℕ) → Fit table lent n
      → RightLists table.signals (rows_of table) (lists_in table lent)
  lists_right n fit =
      never_right table.signals (rows_of table) (room_of lent) (few table lent n fit)

  pub lists_are : (n : ℕ) (lists : RowLists) → Fit table lent n
      → RightLists table.signals (rows_of table) lists → lists ≡ lists_in table lent
  lists_are n lists fit right =
      lists_only table.signals (rows_of table) lists (lists_in table lent) right
      (lists_right n fit)

  pub described : {a : Searched} → ComputedAnswer table lent a → RightAnswer table lent a
  described (computed17 p) = is17 p
  described (computed20 p m) = is20 p m
  described (computed21 f t l) = is21 f (trapped_earliest _ _ _ t) l (entries_entered _ f)
  described (computedSound f s) =
      is_sound f (sound_goes_on _ s) (lists_right _ f) (entries_entered _ f)
  described (computedTrapped f t l) =
      is_trapped f (trapped_earliest _ _ _ t) l (lists_right _ f) (entries_entered _ f)

  pub computed : {a : Searched} → RightAnswer table lent a → ComputedAnswer table lent a
  computed (is17 p) = computed17 p
  computed (is20 p m) = computed20 p m
  computed (is21 {held = held} f t l e) =
      rw (entered_is _ held f e) (computed21 f (earliest_trapped _ _ _ t) l)
  computed (is_sound {lists = lists} {held = held} f s r e) =
      rw (lists_are _ lists f r, entered_is _ held f e) (computedSound f (goes_on_sound _ s))
  computed (is_trapped {lists = lists} {held = held} f t l r e) =
      rw (lists_are _ lists f r, entered_is _ held f e)
      (computedTrapped f (earliest_trapped _ _ _ t) l)
