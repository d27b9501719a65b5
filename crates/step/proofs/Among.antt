-- Rows of two lists after one trace: equal rows are in equal phases. So what breaks some rows
-- breaks all of them, and lists with the same rows have the same traces. Assumes nothing.
use Prim.Native.Nat.{ℕ, ◌<◌}
use mathlib.Core.Bool.{Bool, true}
use mathlib.Core.List.Memᴰ
use mathlib.Core.List.{List, [], ◌∷◌, ◌++◌, map, Memᴰ}
use mathlib.Core.Logic.{⊎_elim}
use mathlib.Core.Path.{◌≡◌, refl, sym, ◌∙◌}
use lib.ListN.{length, get_or}
use Rattle.letters.specs.Letter.{bit_at}
use Rattle.letters.specs.Lists.{some}
use Rattle.letters.specs.Sets.{picked}
use Rattle.letters.proofs.Elements.{some_if, some_found, some_map, map_agree, agree_map}
use Rattle.letters.proofs.Padding.{map_at}
use Rattle.letters.proofs.Picked.{picked_map, picked_mem, picked_more}
use Rattle.table.specs.Row.{no_row}
use Rattle.table.specs.declared.Row.{Row}
use Rattle.traces.specs.Trace.{run}
use Rattle.traces.specs.Inner.Matching.{Laxer, SameTraces}
use Rattle.step.specs.declared.Phase.{Phase}
use Rattle.step.specs.declared.Phase.TheVariants.{Waiting}
use Rattle.step.specs.Phase.{is_broken}
use Rattle.step.specs.Step.{step_row}
use Rattle.step.specs.Tick.{tick, start_phases, some_broken, row_system, table_system}
use Rattle.step.specs.Further.Among.{RowsAmong, SameRows}

module _ (s : ℕ) where
  -- The phases of all rows after a trace, and that of a row by itself.
  abbrev pub phases_after : List Row → List ℕ → List Phase
  phases_after rows w = run (table_system s rows) (start_phases rows) w

  abbrev pub phase_alone : List ℕ → Row → Phase
  phase_alone w row = run (row_system s row) Waiting w

  tick_map : (rows : List Row) (l : ℕ) (phase : Row → Phase)
      → tick rows l (map phase rows) ≡ map (λ row. step_row row l (phase row)) rows
  unfolding tick
  tick_map [] l phase = refl
  tick_map (row ∷ rows) l phase = rw (tick_map rows l phase)

  run_map : (rows : List Row) (phase : Row → Phase) (w : List ℕ)
      → run (table_system s rows) (map phase rows) w
      ≡ map (λ row. run (row_system s row) (phase row) w) rows
  unfolding run
  run_map rows phase [] = refl
  run_map rows phase (l ∷ w) = rw (tick_map rows l phase)
      (run_map rows (λ row. step_row row l (phase row)) w)

  -- Each row is in the phase that it has by itself.
  pub after_alone : (rows : List Row) (w : List ℕ)
      → phases_after rows w ≡ map (phase_alone w) rows
  after_alone rows w = run_map rows (λ _. Waiting) w

  -- So equal rows are in equal phases after every trace, whatever the other rows are,
  pub same_phase_lem : (rows others : List Row) (i j : ℕ) → i < length rows → j < length others
      → get_or rows i no_row ≡ get_or others j no_row → (w : List ℕ)
      → get_or (phases_after rows w) i Waiting ≡ get_or (phases_after others w) j Waiting
  same_phase_lem rows others i j h k e w =
      rw (
        after_alone rows w,
        after_alone others w,
        map_at (phase_alone w) rows no_row Waiting i h,
        map_at (phase_alone w) others no_row Waiting j k,
        e,
      )

  -- the phases of some rows are those that they have among all,
  pub after_picked : (set : ℕ) (rows : List Row) (w : List ℕ)
      → phases_after (picked set rows) w ≡ picked set (phases_after rows w)
  after_picked set rows w =
      rw (after_alone (picked set rows) w, after_alone rows w, picked_map (phase_alone w) set rows)

  -- and rows are broken exactly if one of them is by itself.
  pub broken_alone : (rows : List Row) (w : List ℕ)
      → some_broken (phases_after rows w) ≡ some (λ row. is_broken (phase_alone w row)) rows
  broken_alone rows w = rw (after_alone rows w) (some_map is_broken (phase_alone w) rows)

  -- What breaks some of the rows breaks them all.
  pub among_laxer : {few all : List Row} → RowsAmong few all
      → Laxer (table_system s few) (table_system s all)
  among_laxer {few} {all} r = record {
    letters = refl;
    breaks = λ w h.
        let test : Row → Bool = λ row. is_broken (phase_alone w row) in
        let row = some_found test few (rw (broken_alone few w) at h) in
        rw (broken_alone all w) (some_if test row.0 all (r.among row.0 row.1) row.2);
  }

  -- Traces that lead to one state of all rows do so of some.
  among_leads : {few all : List Row} → RowsAmong few all → (w v : List ℕ)
      → phases_after all w ≡ phases_after all v → phases_after few w ≡ phases_after few v
  among_leads {few} {all} r w v e =
      let same = map_agree (phase_alone w) (phase_alone v) all
      (sym (after_alone all w) ∙ e ∙ after_alone all v) in
      rw (after_alone few w, after_alone few v)
      (agree_map (phase_alone w) (phase_alone v) few (λ row m. same row (r.among row m)))

  pub rows_same : {one other : List Row} → SameRows one other
      → SameTraces (table_system s one) (table_system s other)
  rows_same r = record {
    there = among_laxer r.there;
    back = among_laxer r.back;
    leads = among_leads r.back;
    led = among_leads r.there;
  }

-- All rows; some of some; those of a set, and of a larger one.
pub among_refl : (rows : List Row) → RowsAmong rows rows
among_refl rows = record { among = λ row m. m }

pub among_trans : {few some all : List Row} → RowsAmong few some → RowsAmong some all
    → RowsAmong few all
among_trans r q = record { among = λ row m. q.among row (r.among row m) }

pub among_picked : (set : ℕ) (rows : List Row) → RowsAmong (picked set rows) rows
among_picked set rows = record { among = λ row m. picked_mem set no_row row rows m }

pub among_more : (set larger : ℕ) (rows : List Row)
    → ((i : ℕ) → i < length rows → bit_at set i ≡ true → bit_at larger i ≡ true)
    → RowsAmong (picked set rows) (picked larger rows)
among_more set larger rows more =
    record { among = λ row m. picked_more set larger no_row row rows more m }

-- The same rows: so are two neighbours exchanged, and one of the rows put in once more, wherever
-- that is.
pub same_refl : (rows : List Row) → SameRows rows rows
same_refl rows = record { there = among_refl rows; back = among_refl rows }

pub same_sym : {one other : List Row} → SameRows one other → SameRows other one
same_sym r = record { there = r.back; back = r.there }

pub same_trans : {one other third : List Row} → SameRows one other → SameRows other third
    → SameRows one third
same_trans r q = record {
  there = among_trans r.there q.there;
  back = among_trans q.back r.back;
}

among_exchanged : (front rest : List Row) (one other : Row)
    → RowsAmong (front ++ one ∷ other ∷ rest) (front ++ other ∷ one ∷ rest)
among_exchanged front rest one other = record {
  among = λ row m.
      ⊎_elim (λ h. Memᴰ.append_left _ h)
      (λ h. Memᴰ.append_right front
      (⊎_elim (λ e. Memᴰ.tail (Memᴰ.head e))
      (λ k. ⊎_elim (λ e. Memᴰ.head e) (λ j. Memᴰ.tail (Memᴰ.tail j))
      (Memᴰ.cases_cons k)) (Memᴰ.cases_cons h)))
      (Memᴰ.append_cases front m);
}

pub same_exchanged : (front rest : List Row) (one other : Row)
    → SameRows (front ++ one ∷ other ∷ rest) (front ++ other ∷ one ∷ rest)
same_exchanged front rest one other = record {
  there = among_exchanged front rest one other;
  back = among_exchanged front rest other one;
}

pub same_repeated : (front rest : List Row) (row : Row) → Memᴰ row (front ++ rest)
    → SameRows (front ++ rest) (front ++ row ∷ rest)
same_repeated front rest row has = record {
  there = record {
    among = λ r m.
        ⊎_elim (λ h. Memᴰ.append_left _ h)
        (λ h. Memᴰ.append_right front (Memᴰ.tail h)) (Memᴰ.append_cases front m);
  };
  back = record {
    among = λ r m.
        ⊎_elim (λ h. Memᴰ.append_left _ h)
        (λ h. ⊎_elim (λ e. Memᴰ.cast e has) (λ k. Memᴰ.append_right front k)
        (Memᴰ.cases_cons h)) (Memᴰ.append_cases front m);
  };
}
