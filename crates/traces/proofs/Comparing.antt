-- What breaks one system breaks another; and systems with the same traces match. Assumes nothing.
use Prim.Native.Nat.{ℕ}
use mathlib.Core.Bool.{Bool, true, false}
use mathlib.Core.List.{List, [], ◌∷◌, ◌++◌}
use mathlib.Core.Path.{◌≡◌, refl, sym, ap, ◌∙◌}
use Rattle.traces.specs.System.{System}
use Rattle.traces.specs.Trace.{run, Unbroken}
use Rattle.traces.specs.Doomed.{Breaks}
use Rattle.traces.specs.Inner.Matching.{Laxer, SameTraces, OneTrace, Matching}
use Rattle.traces.proofs.Runs.{not_both, run_append, run_snoc}

module _ {X Y : System} (r : Laxer X Y) where
  -- A trace that Y keeps X keeps.
  pub laxer_keeps : (w : List ℕ) → Y.broken (run Y Y.start w) ≡ false
      → X.broken (run X X.start w) ≡ false
  laxer_keeps w h = go (X.broken (run X X.start w)) refl
    where
      go : (b : Bool) → X.broken (run X X.start w) ≡ b → b ≡ false
      go true e = absurd (not_both _ (r.breaks w e) h)
      go false e = refl

  pub laxer_unbroken : (w : List ℕ) → Unbroken Y w → Unbroken X w
  laxer_unbroken w u = record {
    letters = rw r.letters u.letters;
    unbroken = laxer_keeps w u.unbroken;
  }

  -- Where every extension by n letters breaks X, it breaks Y.
  pub laxer_extended : (w : List ℕ) (n : ℕ) → Breaks X n (run X X.start w)
      → Breaks Y n (run Y Y.start w)
  laxer_extended w n b v long low =
      rw (← run_append Y Y.start w v)
      (r.breaks (w ++ v) (rw (run_append X X.start w v) (b v long (rw r.letters low))))

module _ {X Y : System} (r : SameTraces X Y) where
  pub same_broken : (w : List ℕ)
      → X.broken (run X X.start w) ≡ Y.broken (run Y Y.start w)
  same_broken w = go (Y.broken (run Y Y.start w)) refl
    where
      go : (b : Bool) → Y.broken (run Y Y.start w) ≡ b → X.broken (run X X.start w) ≡ b
      go true e = r.back.breaks w e
      go false e = laxer_keeps r.there w e

  -- States that one trace leads to correspond.
  pub same_match : Matching X Y (OneTrace X Y)
  unfolding run
  same_match = record {
    letters = r.there.letters;
    starts = record { trace = []; here = refl; there = refl };
    steps = λ s t l low p. record {
      trace = p.trace ++ (l ∷ []);
      here = rw (run_snoc X X.start p.trace l, p.here);
      there = rw (run_snoc Y Y.start p.trace l, p.there);
    };
    broken = λ s t p.
        ap X.broken (sym p.here) ∙ same_broken p.trace ∙ ap Y.broken p.there;
    one_left = λ s s' t fine p q.
        sym p.here ∙ r.led p.trace q.trace (p.there ∙ sym q.there) ∙ q.here;
    one_right = λ s t t' fine p q.
        sym p.there ∙ r.leads p.trace q.trace (p.here ∙ sym q.here) ∙ q.there;
  }
