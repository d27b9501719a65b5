-- Scratch that is described in one way holds one thing: two lists of entries in the order of their
-- earliest traces are the same. Assumes nothing.
use Prim.Native.Nat.{ℕ, zero, suc, ◌<◌}
use native.Mathlib.Decide.{ℕ_discrete, dec_lt}
use native.Mathlib.Omega.{arith}
use mathlib.Core.List.{List}
use mathlib.Core.Logic.{inl, inr}
use mathlib.Core.Path.{◌≡◌, sym, ap, ◌∙◌}
use lib.ListN.{length, get_or}
use lib.Seq.{ext_get_or}
use Rattle.letters.specs.Lists.{ZeroFrom}
use Rattle.table.specs.declared.Table.{Table}
use Rattle.traces.specs.Order.{Earlier}
use Rattle.traces.specs.Trace.{Reached}
use Rattle.traces.proofs.Order.{earlier_irrefl, earlier_trans, not_after_antisym}
use Rattle.traces.proofs.Doomed.{lost_unique, lost_doomed}
use Rattle.step.specs.declared.Phase.{Phase}
use Rattle.successors.specs.State.{packed}
use Rattle.search.specs.Lent.{Lent, system_of}
use Rattle.demands.specs.Searching.{LostOrZero, ScratchHeld, SameLengths, SameScratch}

module _ (table : Table) (n : ℕ) where
  -- An entry's state is reached.
  entry_reached : {l : Lent} (x : ScratchHeld table n l) (e : ℕ) → e < n
      → Reached (system_of table) (x.state e)
  entry_reached x e h =
      let y = x.entry e h in
      record { trace = x.trace e; fine = y.fine; leads = y.leads }

  -- Entries with the same state have the same trace.
  same_trace : {l m : Lent} (x : ScratchHeld table n l) (y : ScratchHeld table n m) (e f : ℕ)
      → e < n → f < n → x.state e ≡ y.state f → x.trace e ≡ y.trace f
  same_trace x y e f p q is =
      let a = x.entry e p in
      let b = y.entry f q in
      not_after_antisym (a.earliest (y.trace f) b.fine (b.leads ∙ sym is))
      (b.earliest (x.trace e) a.fine (a.leads ∙ is))

  -- The same state stands at each place: below it by assumption; and a state that stood later on
  -- one side would have a trace both earlier and later than the other's.
  module _ {l m : Lent} (x : ScratchHeld table n l) (y : ScratchHeld table n m) (e : ℕ)
      (low : e < n) (below : (f : ℕ) → f < e → x.state f ≡ y.state f) where
    -- where the state of entry e stands on the other side
    not_below : (f : ℕ) → f < e → y.state f ≡ x.state e → ⊥
    not_below f h is = x.once f e h low (below f h ∙ is)

    not_below' : (f : ℕ) → f < e → x.state f ≡ y.state e → ⊥
    not_below' f h is = y.once f e h low (sym (below f h) ∙ is)

    later : (f g : ℕ) → f < n → g < n → e < f → e < g → y.state f ≡ x.state e
        → x.state g ≡ y.state e → ⊥
    later f g p q h k is is' =
        let one = x.order e g k q in
        let two = y.order e f h p in
        let a : Earlier (x.trace e) (y.trace e) = rw (same_trace x y g e q low is') at one in
        let b : Earlier (y.trace e) (x.trace e) = rw (← same_trace x y e f low p (sym is)) at two
        in
        earlier_irrefl (x.trace e) (earlier_trans a b)

    place : x.state e ≡ y.state e
    place = go (y.every _ (entry_reached x e low)) (x.every _ (entry_reached y e low))
      where
        go : (f : ℕ) × (f < n) × (y.state f ≡ x.state e)
            → (g : ℕ) × (g < n) × (x.state g ≡ y.state e) → x.state e ≡ y.state e
        go (f, p, is) (g, q, is') = pick (dec_lt f e) (dec_lt g e) (ℕ_discrete f e) (ℕ_discrete g e)
          where
            pick : Dec (f < e) → Dec (g < e) → Dec (f ≡ e) → Dec (g ≡ e) → x.state e ≡ y.state e
            pick (yes h) d c b = absurd (not_below f h is)
            pick (no h) (yes k) c b = absurd (not_below' g k is')
            pick (no h) (no k) (yes z) b = sym is ∙ ap y.state z
            pick (no h) (no k) (no z) (yes w) = sym (ap x.state w) ∙ is'
            pick (no h) (no k) (no z) (no w) =
                absurd (later f g p q (omega arith) (omega arith) is is')

  -- So it is of all places.
  module _ {l m : Lent} (x : ScratchHeld table n l) (y : ScratchHeld table n m) where
    up_to : (k e : ℕ) → e < k → e < n → x.state e ≡ y.state e
    up_to zero e h low = absurd (omega arith)
    up_to (suc k) e h low = place x y e low (λ f q. up_to k f (omega arith) (omega arith))

    states : (e : ℕ) → e < n → x.state e ≡ y.state e
    states e low = up_to (suc e) e (omega arith) low

    -- the number of a state
    number_same : (e : ℕ) → e < n → get_or l.states e 0 ≡ get_or m.states e 0
    number_same e low =
        (x.entry e low).number ∙ ap packed (states e low) ∙ sym (y.entry e low).number

    -- its lost number
    lost_same : (e : ℕ) → e < n → get_or l.lost e 0 ≡ get_or m.lost e 0
    lost_same e low = go (x.entry e low).lost (rw (states e low) (y.entry e low).lost)
      where
        go : {s : List Phase} {j k : ℕ} → LostOrZero (system_of table) s j
            → LostOrZero (system_of table) s k → j ≡ k
        go (inl p) (inl q) = p.0 ∙ sym q.0
        go {s} {j} {k} (inl p) (inr q) = absurd (p.1 (lost_doomed (system_of table) s k q))
        go {s} {j} {k} (inr p) (inl q) = absurd (q.1 (lost_doomed (system_of table) s j p))
        go {s} {j} {k} (inr p) (inr q) = lost_unique (system_of table) s j k p q

    -- and 0 after the entries
    lists_same : (u v : List ℕ) → length u ≡ length v
        → ((e : ℕ) → e < n → get_or u e 0 ≡ get_or v e 0) → ZeroFrom 0 n u → ZeroFrom 0 n v → u ≡ v
    lists_same u v long same zu zv = ext_get_or 0 u v long (λ e h. go e h (dec_lt e n))
      where
        go : (e : ℕ) → e < length u → Dec (e < n) → get_or u e 0 ≡ get_or v e 0
        go e h (yes low) = same e low
        go e h (no high) =
            zu e (omega arith) h ∙ sym (zv e (omega arith) (omega (arith, long)))

    pub scratch_same : SameLengths l m → SameScratch l m
    scratch_same long = record {
      states = lists_same l.states m.states long.states number_same x.states_end
          y.states_end;
      lost = lists_same l.lost m.lost long.lost lost_same x.lost_end y.lost_end;
    }
