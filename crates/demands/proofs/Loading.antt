-- What is promised of the burn-in, each with its proof. Assumes nothing.
use Prim.Native.Nat.{ℕ, suc, ◌<◌, ◌≤◌}
use mathlib.Core.Bool.{true, false}
use mathlib.Core.List.{List, [], ◌∷◌, ◌++◌, map}
use mathlib.Core.Logic.{◌↔◌}
use mathlib.Core.Path.{◌≡◌}
use lib.ListN.{length, get_or, take, replicate}
use Rattle.letters.specs.Letter.{letters, bit}
use Rattle.table.specs.Limits.{most_bytes, most_rows}
use Rattle.table.specs.Valid.{table_valid, rows_valid, rows_of}
use Rattle.table.specs.Further.Numbers.{number_of, line_of}
use Rattle.std.specs.Prelude.{Ok}
use Rattle.table.specs.declared.Row.{Row}
use Rattle.table.specs.declared.Table.{Table}
use Rattle.traces.specs.Trace.{AllBelow}
use Rattle.step.specs.declared.Phase.TheVariants.{Waiting}
use Rattle.step.specs.Events.{Event, times_of, is_open}
use Rattle.step.specs.Phase.{is_broken}
use Rattle.pass.specs.Watch.{phases_of, start_watch}
use Rattle.pass.specs.Answer.{tick_answer}
use Rattle.load.specs.declared.Ran.{Ran}
use Rattle.load.specs.Figures.{Totals}
use Rattle.load.specs.Load.{load_of, totals_of, no_totals, sums_of, longest_run, run_answer}
use Rattle.load.specs.Further.Balance.{Balanced, SumsBalanced, OneMore, AtMost, Open}
use Rattle.load.specs.Further.Numbers.{IsLoad}
use Rattle.load.proofs.Letters as Letters
use Rattle.load.proofs.RowTotals as RowTotals
use Rattle.load.proofs.Runs as Runs
use Rattle.load.proofs.Summing as Summing
use Rattle.totals.specs.Totals.{run_bytes}
use Rattle.totals.proofs.Injective as Text
use Rattle.totals.proofs.Injective.{SameTotals}
use Rattle.checker.specs.FileLoad.{load_start, load_ticks, most_totals}
use Rattle.checker.specs.Inner.Computed.{load_answer}
use Rattle.checker.proofs.TotalsLength as TotalsLength
use Rattle.demands.specs.Watching.{record_after, events_over}
use Rattle.demands.specs.Loading.{RightLoad}
use Rattle.demands.specs.Further.Load.{LoadPrints}
use Rattle.demands.proofs.LoadLaws as Laws
use Rattle.demands.proofs.LoadTexts as Texts
use Rattle.demands.proofs.Watching as Watching

-- The load is the one that document 02 describes, and no other; and each of its letters is one of
-- the table's.
module _ (s start ticks : ℕ) where
  pub load_described : IsLoad s start ticks (load_of s start ticks)
  load_described = Letters.load_described s start ticks

  pub load_only : (w : List ℕ) → IsLoad s start ticks w → w ≡ load_of s start ticks
  load_only = Letters.load_only s start ticks

  pub load_letters : AllBelow (letters s) (load_of s start ticks)
  load_letters = Letters.load_below s start ticks

-- "Takes 1,000 ticks from 1": the letters of `loadtable`.
pub program_load : (s : ℕ) → IsLoad s 1 1000 (load_of s load_start load_ticks)
program_load s = load_described s 1 1000

-- No call of the watcher is refused after a load, with 19 or otherwise.
pub load_taken : (s : ℕ) (rows : List Row) (start ticks l : ℕ) → rows_valid s rows ≡ true
    → l < letters s
    → (tick_answer s rows (record_after s rows start_watch (load_of s start ticks)) l).reply.outcome
    ≡ Ok tt
load_taken s rows start ticks l rules =
    Watching.never_refused s rows start_watch (Watching.start_accepted s rows rules)
    (load_of s start ticks) (load_letters s start ticks) l

-- "For each row realised equals completed plus broken plus open, for any load": for any trace, and
-- in the sums of any rows.
pub trace_balance : (s : ℕ) (row : Row) (w : List ℕ) → Balanced (totals_of s row w)
trace_balance = RowTotals.totals_balance

pub trace_sums_balance : (s : ℕ) (rows : List Row) (w : List ℕ)
    → SumsBalanced (sums_of (map (λ row. totals_of s row w) rows))
trace_sums_balance = Runs.rows_balance

-- "And the sums": those of no row are zeros, and a row more adds its totals.
pub sums_none : sums_of [] ≡ record { realised = 0; completed = 0; breaks = 0; pending = 0 }
sums_none = Summing.sums_none

pub sums_more : (all : List Totals) (t : Totals)
    → OneMore (sums_of all) t (sums_of (all ++ (t ∷ [])))
sums_more = Summing.sums_more

-- A run of any table value, from any number, over any ticks.
module _ (table : Table) (start ticks : ℕ) where
  abbrev ran : Ran
  ran = run_answer table start ticks

  -- The totals of place i.
  abbrev totals_at : ℕ → Totals
  totals_at i = get_or ran.totals i no_totals

  -- "Checks: 22 a longer run is asked for, after 17."
  pub run_17 : (number_of ran.outcome ≡ 17) ↔ (table_valid table ≡ false)
  run_17 = Runs.run_17 table start ticks

  pub run_22 : (number_of ran.outcome ≡ 22)
      ↔ ((table_valid table ≡ true) × (65535 < ticks))
  run_22 = Runs.run_22 table start ticks

  pub run_line : line_of ran.outcome ≡ 0
  run_line = Runs.run_line table start ticks

  -- A refused run has zeros, and so has an unused row; there is a place for each row that a table
  -- can have.
  pub refused_zeros : (n : ℕ) → number_of ran.outcome ≡ suc n
      → ran.totals ≡ replicate most_rows no_totals
  refused_zeros = Runs.run_zeros table start ticks

  pub unused_zeros : (i : ℕ) → length (rows_of table) ≤ i → totals_at i ≡ no_totals
  unused_zeros = Runs.run_unused table start ticks

  pub run_places : length ran.totals ≡ most_rows
  run_places = Runs.run_length table start ticks

  -- No total exceeds the ticks, and open is 0 or 1.
  pub run_most : (i : ℕ) → AtMost ticks (totals_at i)
  run_most = Runs.run_most table start ticks

  pub run_balance : (i : ℕ) → Balanced (totals_at i)
  run_balance = Runs.run_balance table start ticks

  pub run_sums_balance : (n : ℕ) → SumsBalanced (sums_of (take n ran.totals))
  run_sums_balance = Runs.run_sums table start ticks

  -- A run that is taken, beside the calls of the watcher for its letters, one after the other.
  module _ (passes : table_valid table ≡ true) (few : ticks ≤ longest_run) (i : ℕ)
      (used : i < length (rows_of table)) where
    pub run_taken : ran.outcome ≡ Ok tt
    run_taken = Laws.run_accepted table start ticks passes few

    -- "The first three equal the counts in the run's events."
    pub run_counts : let events =
        events_over table.signals (rows_of table) start_watch (load_of table.signals start ticks)
        in
        ((totals_at i).realised ≡ times_of Event.realised i events)
        × ((totals_at i).completed ≡ times_of Event.completed i events)
        × ((totals_at i).breaks ≡ times_of Event.broken i events)
    run_counts = Laws.run_counts table start ticks passes few i used

    -- "Open means in delay or action", after the last tick; and "a break is the tick in which the
    -- row becomes broken", so there is one exactly if the row is broken then.
    pub run_pending : (totals_at i).pending
        ≡ bit (is_open (get_or (phases_of (record_after table.signals (rows_of table) start_watch
        (load_of table.signals start ticks))) i Waiting))
    run_pending = Laws.run_pending table start ticks passes few i used

    pub run_open : ((totals_at i).pending ≡ 1)
        ↔ Open (get_or (phases_of (record_after table.signals (rows_of table) start_watch
        (load_of table.signals start ticks))) i Waiting)
    run_open = Laws.run_open table start ticks passes few i used

    pub run_breaks : (totals_at i).breaks
        ≡ bit (is_broken (get_or (phases_of (record_after table.signals (rows_of table) start_watch
        (load_of table.signals start ticks))) i Waiting))
    run_breaks = Laws.run_breaks table start ticks passes few i used

-- "Zero ticks give zeros."
pub no_ticks : (table : Table) (start : ℕ)
    → (run_answer table start 0).totals ≡ replicate most_rows no_totals
no_ticks = Runs.none_run

-- Different totals give different texts: where the bytes are the same, so are the outcomes and, of
-- runs that are taken, the rows and their totals.
pub same_totals : (rows rows' : ℕ) (one other : Ran) → rows ≤ length one.totals
    → rows' ≤ length other.totals → run_bytes rows one ≡ run_bytes rows' other
    → SameTotals rows rows' one other
same_totals = Text.totals_injective

-- From the bytes of any file to the bytes that `loadtable` prints: those of `RightLoad`, and no
-- others; never 17, 20 or 22; and no more than its buffer holds.
module _ (bytes : List ℕ) where
  pub load_answered : RightLoad bytes (load_answer bytes)
  load_answered = Texts.load_answered bytes

  pub load_text_only : (text : List ℕ) → RightLoad bytes text → load_answer bytes ≡ text
  load_text_only = Texts.load_only bytes

  pub load_prints : LoadPrints (load_answer bytes)
  load_prints = Texts.load_prints bytes

  pub load_short : length (load_answer bytes) ≤ most_totals
  load_short = TotalsLength.load_short bytes

  -- It reads no more of a file than its first 4,097 bytes.
  pub load_first_bytes : load_answer (take (suc most_bytes) bytes) ≡ load_answer bytes
  load_first_bytes = Texts.load_first_bytes bytes
