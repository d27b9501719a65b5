-- Different totals give different texts: where the bytes are the same, so are the lines, and with
-- them the outcome, the totals and the number of rows. Assumes nothing.
use Prim.Native.Nat.{ℕ, suc, ◌≤◌}
use native.Mathlib.Omega.{arith}
use mathlib.Core.List.{List, [], ◌∷◌, ◌++◌, append_cancel_left}
use mathlib.Core.List.{head-eq_of_cons-eq, tail-eq_of_cons-eq}
use mathlib.Core.Path.{◌≡◌, refl, sym, ap, ap₂, ◌∙◌}
use lib.ListN.{length, take}
use lib.Seq.{length-take-le}
use Rattle.table.specs.Refusal.{Outcome}
use Rattle.std.specs.Prelude.{Ok, Err}
use Rattle.text.specs.Bounds.{decimal}
use Rattle.text.specs.Bytes.{bytes}
use Rattle.text.specs.Lines.{LF, count, Free, none, and}
use Rattle.text.specs.Inner.Cut.{lines}
use Rattle.text.proofs.Joins.{lines_ended}
use Rattle.text.proofs.Splits.{count_append}
use Rattle.load.specs.Load.{sums_of}
use Rattle.load.specs.declared.Ran.{Ran}
use Rattle.load.specs.Figures.{Sums}
use Rattle.load.specs.Figures.{Totals}
use Rattle.lines.specs.Line.{spaced}
use Rattle.totals.specs.Totals.{totals_line, totals_lines, sums_line, run_lines, run_bytes}
use Rattle.lines.proofs.Injective.{numbered_free, refused_free, byte_at, refused_injective}
use Rattle.lines.proofs.Listing.{spaced_free, spaced_injective}

-- No line has an LF in it.
totals_free : (r : ℕ) (all : List Totals) (sums : Sums)
    → Free LF (totals_lines r all ++ sums_line sums ∷ [])
unfolding totals_lines count
totals_free r [] sums = and (spaced_free LF refl refl _) none
totals_free r (t ∷ more) sums =
    let numbers = t.realised ∷ t.completed ∷ t.breaks ∷ t.pending ∷ [] in
    and (count_append LF (bytes "row " ++ decimal r) (spaced numbers)
    ∙ rw (numbered_free (bytes "row ") r refl, spaced_free LF refl refl numbers))
    (totals_free (suc r) more sums)

run_free : (rows : ℕ) (outcome : Outcome) (all : List Totals) → Free LF (run_lines rows outcome all)
unfolding run_lines
run_free rows (Err r) all = and (refused_free r.number r.line) none
run_free rows (Ok _) all = totals_free 1 (take rows all) (sums_of (take rows all))

-- Lines that are the same are of the same totals.
line_injective : (r : ℕ) (t u : Totals) → totals_line r t ≡ totals_line r u → t ≡ u
line_injective r t u e =
    let same = spaced_injective _ _ (append_cancel_left (bytes "row " ++ decimal r) _ _ e) in
    let realised : t.realised ≡ u.realised = cc in
    let completed : t.completed ≡ u.completed = cc in
    let breaks : t.breaks ≡ u.breaks = cc in
    let pending : t.pending ≡ u.pending = cc in
    λ i. record {
      realised = realised i;
      completed = completed i;
      breaks = breaks i;
      pending = pending i;
    }

rows_injective : (r : ℕ) (v w : List Totals) (sums sums' : Sums)
    → totals_lines r v ++ sums_line sums ∷ [] ≡ totals_lines r w ++ sums_line sums' ∷ [] → v ≡ w
unfolding totals_lines
rows_injective r [] [] sums sums' e = refl
rows_injective r [] (u ∷ w) sums sums' e = absurd (omega (arith, ap (byte_at 0 0) e))
rows_injective r (t ∷ v) [] sums sums' e = absurd (omega (arith, ap (byte_at 0 0) e))
rows_injective r (t ∷ v) (u ∷ w) sums sums' e =
    ap₂ ◌∷◌ (line_injective r t u (head-eq_of_cons-eq e))
    (rows_injective (suc r) v w sums sums' (tail-eq_of_cons-eq e))

-- A row's line and the sums have the same second byte, and a refusal another.
second_byte : (r : ℕ) (all : List Totals) (sums : Sums)
    → byte_at 0 1 (totals_lines r all ++ sums_line sums ∷ []) ≡ 111
unfolding totals_lines
second_byte r [] sums = refl
second_byte r (t ∷ more) sums = refl

-- What two texts show is the same: the outcome and, where it is accepted, the number of rows and
-- their totals.
pub record SameTotals (rows rows' : ℕ) (one other : Ran) : Type 0 where
  pub outcome : one.outcome ≡ other.outcome
  pub size : one.outcome ≡ Ok tt → rows ≡ rows'
  pub totals : one.outcome ≡ Ok tt → take rows one.totals ≡ take rows' other.totals

module _ (rows rows' : ℕ) where
  lines_injective : (outcome outcome' : Outcome) (all all' : List Totals) → rows ≤ length all
      → rows' ≤ length all' → run_lines rows outcome all ≡ run_lines rows' outcome' all'
      → SameTotals rows rows' (record { outcome = outcome; totals = all })
      (record { outcome = outcome'; totals = all' })
  unfolding run_lines
  lines_injective (Err r) (Err s) all all' h g e = record {
    outcome = ap Err (refused_injective r s (head-eq_of_cons-eq e));
    size = λ accepted. absurd (let z : ◌≡◌ {A = ℕ} 0 1 = cc in omega arith);
    totals = λ accepted. absurd (let z : ◌≡◌ {A = ℕ} 0 1 = cc in omega arith);
  }
  lines_injective (Err r) (Ok _) all all' h g e =
      let used = take rows' all' in
      absurd (omega (arith, ap (byte_at 0 1) e, second_byte 1 used (sums_of used)))
  lines_injective (Ok _) (Err s) all all' h g e =
      let used = take rows all in
      absurd (omega (arith, ap (byte_at 0 1) e, second_byte 1 used (sums_of used)))
  lines_injective (Ok _) (Ok _) all all' h g e =
      let same = rows_injective 1 (take rows all) (take rows' all') _ _ e in
      record {
        outcome = refl;
        size = λ accepted. sym (length-take-le rows all h) ∙ ap length same
            ∙ length-take-le rows' all' g;
        totals = λ accepted. same;
      }

  pub totals_injective : (one other : Ran) → rows ≤ length one.totals
      → rows' ≤ length other.totals → run_bytes rows one ≡ run_bytes rows' other
      → SameTotals rows rows' one other
  totals_injective one other h g same =
      lines_injective one.outcome other.outcome one.totals other.totals h g
      (sym (lines_ended _ (run_free rows one.outcome one.totals))
      ∙ ap lines same ∙ lines_ended _ (run_free rows' other.outcome other.totals))
