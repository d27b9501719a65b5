-- The promises, in the words of the demands. What has to be believed: this file, the specs, and in
-- src/ the declared structs and enums and the contracts of the public functions. What each of these
-- answers, refused or not, is its contract: one equation with a definition of the specs; here stands
-- what follows of those definitions. More is promised, by subject, in `Reading`, `Watching`,
-- `Happening`, `Searching`, `Reporting`, `Loading`, `Writing` and `Cases`. Assumes nothing.
use Prim.Native.Nat.{ℕ, suc, ◌+◌, ◌<◌, ◌≤◌, min}
use mathlib.Core.Bool.{true, false}
use mathlib.Core.List.{List}
use mathlib.Core.Logic.{◌⊎◌, ◌↔◌}
use mathlib.Core.Path.{◌≡◌, refl, ap, ◌∙◌}
use lib.ListN.{length, get_or, take}
use Rattle.letters.specs.Letter.{letters, bit_at, bit}
use Rattle.table.specs.Limits.{most_bytes, most_rows}
use Rattle.table.specs.Row.{no_row}
use Rattle.table.specs.Valid.{table_valid, rows_valid, rows_of}
use Rattle.table.specs.declared.Row.{Row}
use Rattle.table.specs.declared.Table.{Table}
use Rattle.traces.specs.Trace.{AllBelow, run}
use Rattle.traces.specs.Count.{ReachedMany}
use Rattle.step.specs.declared.Phase.TheVariants.{Waiting}
use Rattle.step.specs.Tick.{row_system}
use Rattle.step.specs.Fires.{Fires}
use Rattle.step.specs.Events.{no_events, row_events, Event, times_of, is_open}
use Rattle.step.specs.Valid.{phases_valid}
use Rattle.pass.specs.declared.Watch.{Watch}
use Rattle.pass.specs.Watch.{phases_of, start_watch}
use Rattle.pass.specs.Answer.{tick_answer}
use Rattle.watcher.specs.Counts.{count_of, no_counts}
use Rattle.watcher.specs.Inner.Tables.{table_play}
use Rattle.reader.specs.Reading.{accepted}
use Rattle.reader.specs.Grammar.{IsFile}
use Rattle.reader.specs.Right.{RightReading}
use Rattle.reader.specs.Inner.File.{read_answer}
use Rattle.reader.specs.declared.Reading.{Reading as FileReading}
use Rattle.reader.proofs.Found as ReadingFound
use Rattle.reader.proofs.Only as ReadingOnly
use Rattle.load.specs.Load.{load_of, totals_of, no_totals, longest_run, run_answer}
use Rattle.verdict.specs.declared.RowLists.{RowLists}
use Rattle.verdict.specs.Found.{Verdict, values_of, sound_found, trapped_found}
use Rattle.lists.specs.Room.{zeros}
use Rattle.search.specs.Lent.{Lent, Searched, room_of, system_of, traced}
use Rattle.search.specs.Inner.Computed.{search_answer}
use Rattle.demands.specs.Watching.{record_after, events_over, CallValid}
use Rattle.demands.specs.Searching.{search_values, Dead, EarliestDead, CanGoOn, Fit}
use Rattle.demands.specs.Searching.{RightLists}
use Rattle.demands.specs.Searching.{Entered, RightAnswer, SameLengths, SameScratch}
use Rattle.demands.specs.Reporting.{RightReport}
use Rattle.demands.specs.Loading.{RightLoad}
use Rattle.demands.specs.Writing.{Writable, IsWritten, SameTable, RightWriting}
use Rattle.writer.specs.File.{file_text, unwritten, wrote, write_answer}
use Rattle.checker.specs.FileReport.{FileReport}
use Rattle.checker.specs.Inner.Computed.{check_answer, load_answer, writing_answer}
use Rattle.demands.proofs.Reading as Reading
use Rattle.demands.proofs.Watching as Watching
use Rattle.demands.proofs.Happening as Happening
use Rattle.demands.proofs.Searching as Searching
use Rattle.demands.proofs.Reported as Reported
use Rattle.demands.proofs.Loading as Loading
use Rattle.demands.proofs.Writing as Writing
use Rattle.demands.proofs.WatchLaws as WatchLaws
use Rattle.demands.proofs.Answers as Answers
use Rattle.demands.proofs.SearchLaws as SearchLaws
use Rattle.demands.proofs.SameInput as SameInput
use Rattle.demands.proofs.Described as Described

-- Demand 1, for the reader: any bytes have one of the answers of `RightReading`, a table or a
-- refusal by the first fitting number, and what it says is so; and no other answer says what is so.
pub read_answered : (bytes : List ℕ) → RightReading bytes (read_answer bytes)
read_answered = ReadingFound.read_answered

pub read_only : (bytes : List ℕ) (r : FileReading) → RightReading bytes r → read_answer bytes ≡ r
read_only = ReadingOnly.read_only

-- Demand 2: "The reader accepts exactly the tables that document 01 describes, keeps each name and
-- bound and gives each condition its meaning" (`IsFile`),
pub accepts_exactly : (bytes : List ℕ) (table : Table)
    → (read_answer bytes ≡ accepted table) ↔ IsFile bytes table
accepts_exactly bytes table = (Reading.accepted_file bytes table, Reading.file_accepted bytes table)

-- "and after every trace of ticks each row is in the phase that the step rules give, broken or
-- not": from any record that number 18 lets by;
pub rows_follow : (s : ℕ) (rows : List Row) (watch : Watch) (w : List ℕ) → CallValid s rows watch
    → AllBelow (letters s) w → (i : ℕ) → i < length rows
    → get_or (phases_of (record_after s rows watch w)) i Waiting
    ≡ run (row_system s (get_or rows i no_row)) (get_or (phases_of watch) i Waiting) w
rows_follow = WatchLaws.row_follows

-- and so from the start: "All start waiting."
pub from_start : (s : ℕ) (rows : List Row) (w : List ℕ) → rows_valid s rows ≡ true
    → AllBelow (letters s) w → (i : ℕ) → i < length rows
    → get_or (phases_of (record_after s rows start_watch w)) i Waiting
    ≡ run (row_system s (get_or rows i no_row)) Waiting w
from_start = Watching.from_start

-- Document 02, ask 1: "Each tick shall also give, for each row, which of these happened": what a
-- call gives for a row, after every trace, is what the step rules say at the phase of that row; and
-- a trace that is played gives how often each event happened at its calls.
pub events_follow : (s : ℕ) (rows : List Row) (watch : Watch) (w : List ℕ) (l : ℕ)
    → CallValid s rows watch → AllBelow (letters s) w → l < letters s → (i : ℕ) → i < length rows
    → get_or (tick_answer s rows (record_after s rows watch w) l).reply.events i no_events
    ≡ row_events (get_or rows i no_row) l
    (run (row_system s (get_or rows i no_row)) (get_or (phases_of watch) i Waiting) w)
events_follow = Happening.events_follow

pub counted : (table : Table) (watch : Watch) (w : List ℕ) → table_valid table ≡ true
    → phases_valid (rows_of table) (phases_of watch) ≡ true → AllBelow (letters table.signals) w
    → (i : ℕ) → i < most_rows → (event : Event)
    → count_of (get_or (table_play table watch w).counts i no_counts) event
    ≡ times_of event i (events_over table.signals (rows_of table) watch w)
counted = Watching.counted

-- Demand 1, for the search: any table value and any lent memory have one of the five answers of
-- `RightAnswer`, and what it says is so; and no other answer says what is so.
module _ (table : Table) (lent : Lent) where
  pub search_answered : RightAnswer table lent (search_answer table lent)
  search_answered = Described.described table lent (Answers.one_of_five table lent)

  pub search_only : (a : Searched) → RightAnswer table lent a → search_answer table lent ≡ a
  search_only a right = Answers.answer_is table lent (Described.computed table lent right)

  -- "The room is then the shorter of two lists, at most 4,096 as before."
  pub room_limited : room_of lent ≡ min 4096 (min (length lent.states) (length lent.lost))
  unfolding room_of
  room_limited = refl

  -- "If the states don't fit, and only then, the search says so."
  pub room_exactly : table_valid table ≡ true
      → ((search_values table lent).number ≡ 20)
      ↔ ReachedMany (system_of table) (suc (room_of lent))
  room_exactly passes = (
    Searching.says_20 table lent,
    λ many. ap (λ (a : Searched). (values_of a.found).number)
        (Searching.refused_20 table lent passes many),
  )

-- Demand 3: "For any accepted table whose states reached by unbroken traces fit the lent scratch",
-- n of them,
module _ (table : Table) (lent : Lent) (n : ℕ) (fit : Fit table lent n) where
  -- "trapped exactly when some unbroken trace has a number of ticks after which every extension is
  -- broken": it is shown, or refused with 21;
  pub trapped_exactly : (
      ((search_values table lent).verdict ≡ Verdict.says_trapped)
      ⊎ ((search_values table lent).number ≡ 21))
      ↔ ((w : List ℕ) × (k : ℕ) × Dead (system_of table) w k)
  trapped_exactly = SearchLaws.trapped_exactly table lent n fit

  -- "sound exactly when every unbroken trace can go on unbroken for every number of ticks."
  pub sound_exactly : ((search_values table lent).verdict ≡ Verdict.says_sound)
      ↔ CanGoOn (system_of table)
  sound_exactly = (
    λ says. (Searching.sound_means (system_of table)).0 (Searching.says_sound table lent n fit says),
    λ on. ap (λ (a : Searched). (values_of a.found).verdict)
        (Searching.sound_answer table lent n fit ((Searching.sound_means (system_of table)).1 on)),
  )

  -- "Trapped shows such a trace: every other such trace is longer, or as long with a larger letter
  -- where the two first differ. With it goes one such number, and every other for that trace is
  -- larger. Both verdicts give the count of the states reached."
  pub earliest_shown : (w : List ℕ) (k : ℕ) → EarliestDead (system_of table) w k
      → length w ≤ length lent.trace
      → (lists : RowLists) → RightLists table.signals (rows_of table) lists
      → (held : Lent) × Entered table n lent held
      × (search_answer table lent
      ≡ record { found = trapped_found n lists w k; lent = traced w held })
  earliest_shown w k shown short lists right = (
    _,
    Described.entries_entered table lent n fit,
    Searching.trapped_answer table lent n fit w k
        ((Searching.trapped_means (system_of table) w k).1 shown) short
        ∙ rw (Described.lists_are table lent n lists fit right),
  )

  pub sound_counted : CanGoOn (system_of table)
      → (lists : RowLists) → RightLists table.signals (rows_of table) lists
      → (held : Lent) × Entered table n lent held
      × (search_answer table lent ≡ record { found = sound_found n lists; lent = held })
  sound_counted on lists right = (
    _,
    Described.entries_entered table lent n fit,
    Searching.sound_answer table lent n fit ((Searching.sound_means (system_of table)).1 on)
        ∙ rw (Described.lists_are table lent n lists fit right),
  )

  -- Document 02, ask 2: "each row whose trigger is realised in no unbroken trace, and no other,
  -- from the states reached", with every verdict.
  pub never_exactly : (search_values table lent).number ≡ 0 → (i : ℕ)
      → (bit_at (search_values table lent).never i ≡ true)
      ↔ ((i < length (rows_of table)) × (Fires table.signals (rows_of table) i → ⊥))
  never_exactly = SearchLaws.never_exactly table lent n fit

  -- "A trapped table is refused instead exactly when that trace is longer than its buffer."
  pub buffer_exactly : (w : List ℕ) (k : ℕ) → EarliestDead (system_of table) w k
      → ((search_values table lent).number ≡ 21)
      ↔ (length lent.trace < length w)
  buffer_exactly w k shown =
      Searching.refused_exactly table lent n fit w k
      ((Searching.trapped_means (system_of table) w k).1 shown)

-- "Whatever scratch and trace buffer held before": only their lengths count.
module _ (table : Table) (one other : Lent) (lengths : SameLengths one other) where
  pub same_found : (search_answer table one).found ≡ (search_answer table other).found
  same_found = SameInput.same_found table one other lengths

  pub same_scratch : table_valid table ≡ true
      → SameScratch (search_answer table one).lent (search_answer table other).lent
  same_scratch = SameInput.same_scratch table one other lengths

-- Document 02, ask 7: "Verdict, trace, lost number and count must be the same for every table and
-- room", with the refusal, whatever the lengths of lists and index and whatever they held. The
-- index is work space: afterwards it is all 0, and under 17 it is unchanged (`search_answered`).
module _ (table : Table) (one other : Lent) (room : room_of one ≡ room_of other)
    (buffer : length one.trace ≡ length other.trace) where
  pub room_chooses : (search_answer table one).found ≡ (search_answer table other).found
  room_chooses = SameInput.room_chooses table one other room buffer

  pub room_shows : take (search_values table one).length (search_answer table one).lent.trace
      ≡ take (search_values table one).length (search_answer table other).lent.trace
  room_shows = SameInput.room_shows table one other room buffer

pub index_emptied : (table : Table) (lent : Lent) → table_valid table ≡ true
    → (search_answer table lent).lent.index ≡ zeros lent.index
index_emptied = SameInput.index_emptied

-- "The signals and rows alone choose the verdict", with its trace, lost number and count, wherever
-- the states and the trace fit.
module _ (one other : Table) (lent held : Lent) (n : ℕ) (fit : Fit one lent n)
    (passes : table_valid other ≡ true) (signals : one.signals ≡ other.signals)
    (rows : rows_of one ≡ rows_of other) (room : n ≤ room_of held)
    (short : (w : List ℕ) (k : ℕ) → EarliestDead (system_of one) w k
    → (length w ≤ length lent.trace) × (length w ≤ length held.trace)) where
  pub rows_choose : (search_answer one lent).found ≡ (search_answer other held).found
  rows_choose = SameInput.rows_choose one other lent held n fit passes signals rows room
      (λ w k t. short w k ((Searching.trapped_means (system_of one) w k).0 t))

  pub rows_show : take (search_values one lent).length (search_answer one lent).lent.trace
      ≡ take (search_values one lent).length (search_answer other held).lent.trace
  rows_show = SameInput.rows_show one other lent held n fit passes signals rows room
      (λ w k t. short w k ((Searching.trapped_means (system_of one) w k).0 t))

-- Point 5, the report: from the bytes of any file to the bytes that are printed, in any lent
-- memory. A file has one of the two reports of `RightReport`, and no other.
module _ (bytes : List ℕ) (lent : Lent) where
  pub report_answered : RightReport bytes lent (check_answer bytes lent)
  report_answered = Reported.report_answered bytes lent

  pub report_only : (f : FileReport) → RightReport bytes lent f → check_answer bytes lent ≡ f
  report_only = Reported.report_only bytes lent

  -- The program reads no more of a file than its first 4,097 bytes: they have the report of all.
  pub first_bytes : check_answer (take (suc most_bytes) bytes) lent ≡ check_answer bytes lent
  first_bytes = Reported.first_bytes bytes lent

-- Document 02, ask 5, totals after a burn-in: any file has one of the two texts of `RightLoad`, and
-- no other.
module _ (bytes : List ℕ) where
  pub load_answered : RightLoad bytes (load_answer bytes)
  load_answered = Loading.load_answered bytes

  pub load_text_only : (text : List ℕ) → RightLoad bytes text → load_answer bytes ≡ text
  load_text_only = Loading.load_text_only bytes

-- What a run of an accepted table gives for row i, from any number: "The first three equal the
-- counts in the run's events", those of one call of the watcher for each letter; "Open means in
-- delay or action", after the last.
module _ (table : Table) (start ticks : ℕ) (passes : table_valid table ≡ true)
    (few : ticks ≤ longest_run) (i : ℕ) (used : i < length (rows_of table)) where
  pub run_counts : let totals = get_or (run_answer table start ticks).totals i no_totals in
      let events = events_over table.signals (rows_of table) start_watch
      (load_of table.signals start ticks) in
      (totals.realised ≡ times_of Event.realised i events)
      × (totals.completed ≡ times_of Event.completed i events)
      × (totals.breaks ≡ times_of Event.broken i events)
  run_counts = Loading.run_counts table start ticks passes few i used

  pub run_pending : let totals = get_or (run_answer table start ticks).totals i no_totals in
      totals.pending
      ≡ bit (is_open (get_or (phases_of (record_after table.signals (rows_of table) start_watch
      (load_of table.signals start ticks))) i Waiting))
  run_pending = Loading.run_pending table start ticks passes few i used

-- "For each row realised equals completed plus broken plus open, for any load": for any trace.
pub trace_balance : (s : ℕ) (row : Row) (w : List ℕ) → let totals = totals_of s row w in
    totals.realised ≡ totals.completed + totals.breaks + totals.pending
trace_balance = Loading.trace_balance

-- Document 02, ask 6: "Write any table value back as a version 0001 file", where it does not
-- "exceed 4,096 bytes"; "Reading the file yields the table it came from."
pub written_file : (table : Table) → Writable table
    → IsFile (file_text table) table ↔ (length (file_text table) ≤ most_bytes)
written_file = Writing.written_file

pub written_read : (table : Table) → IsWritten table
    → read_answer (file_text table) ≡ accepted table
written_read = Writing.written_read

-- "Two accepted tables that are both written give equal bytes if and only if their names, sets,
-- bounds and row order are equal"; then they are the same table value, which has no other parts;
module _ (one other : Table) where
  pub bytes_exactly : IsWritten one → IsWritten other
      → (file_text one ≡ file_text other) ↔ SameTable one other
  bytes_exactly = Writing.bytes_exactly one other

  pub same_parts : Writable one → Writable other → SameTable one other → one ≡ other
  same_parts = Writing.same_parts one other

-- and so for the tables of any two files.
pub files_alike : (bytes others : List ℕ) (one other : Table) → IsFile bytes one
    → IsFile others other → length (file_text one) ≤ most_bytes → length (file_text other) ≤ most_bytes
    → (file_text one ≡ file_text other) ↔ (one ≡ other)
files_alike = Writing.files_alike

-- "Checks: 23 the file would exceed 4,096 bytes, then 24 the lent buffer is shorter than the file,
-- both after 17; the buffer is then unchanged. When the file is written, the answer gives its
-- length and the bytes behind it are unchanged."
module _ (table : Table) (buffer : List ℕ) where
  pub write_17 : (write_answer table buffer ≡ unwritten 17 buffer) ↔ (table_valid table ≡ false)
  write_17 = Writing.write_17 table buffer

  pub write_23 : (write_answer table buffer ≡ unwritten 23 buffer)
      ↔ ((table_valid table ≡ true) × (most_bytes < length (file_text table)))
  write_23 = Writing.write_23 table buffer

  pub write_24 : (write_answer table buffer ≡ unwritten 24 buffer)
      ↔ ((table_valid table ≡ true) × (length (file_text table) ≤ most_bytes)
      × (length buffer < length (file_text table)))
  write_24 = Writing.write_24 table buffer

  pub written_exactly : (write_answer table buffer ≡ wrote (file_text table) buffer)
      ↔ ((table_valid table ≡ true) × (length (file_text table) ≤ most_bytes)
      × (length (file_text table) ≤ length buffer))
  written_exactly = Writing.written_exactly table buffer

-- From the bytes of any file to the bytes that `writetable` prints: one of the three texts of
-- `RightWriting`, and no other.
module _ (bytes : List ℕ) where
  pub writing_answered : RightWriting bytes (writing_answer bytes)
  writing_answered = Writing.writing_answered bytes

  pub writing_text_only : (text : List ℕ) → RightWriting bytes text → writing_answer bytes ≡ text
  writing_text_only = Writing.writing_text_only bytes
