-- The rows that are gathered of the lines. Assumes nothing.
use Prim.Native.Nat.{ℕ, zero, suc, ◌+◌, ◌-◌, ◌<◌, ◌≤◌}
use native.Mathlib.Omega.{arith}
use mathlib.Core.Bool.{cond}
use mathlib.Core.List.{List, [], ◌∷◌, ◌++◌, map, append_assoc, append-nil, map-append}
use mathlib.Core.Path.{◌≡◌, refl, sym, ap, ◌∙◌}
use borrow.Author.Tests.{lt-ltb, le-ltb}
use lib.Dec.{ltb}
use lib.ListN.{length, get_or, take, drop, set, replicate, length-append, length-map}
use Rattle.letters.specs.Letter.{width}
use Rattle.letters.proofs.Filling.{Filled, filled_all}
use Rattle.table.specs.Limits.{most_rows}
use Rattle.table.specs.Row.{zero_row}
use Rattle.table.specs.Valid.{table_from}
use Rattle.std.specs.Prelude.{Result, Ok, Err}
use Rattle.table.specs.declared.Name.{Name}
use Rattle.table.specs.declared.Row.{Row}
use Rattle.text.specs.Lines.{LF}
use Rattle.text.specs.declared.Version.{Version}
use Rattle.text.specs.Inner.Cut.{lines, front}
use Rattle.text.proofs.Joins.{lines_cons}
use Rattle.header.proofs.SignalLaws.{added_few, length_none}
use Rattle.rows.specs.declared.RowRead.{RowRead}
use Rattle.rows.specs.Inner.Row.{row_from, row_answer}
use Rattle.reader.specs.Reading.{refused_file}
use Rattle.reader.specs.Inner.File.{Rows, rows_read, fault, after_row, after_line, row_of, rows_from}
use Rattle.reader.specs.Inner.File.{rows_reading, rows_answer}
use Rattle.reader.specs.Inner.Gathering.{gathered}
use Rattle.reader.proofs.Lines.{lines_next, lines_end}

-- The rows of gathered sets and bounds, place by place.
pub gathered_length : (sets bounds : List (List ℕ)) → length sets ≡ length bounds
    → length (gathered sets bounds) ≡ length sets
unfolding gathered
gathered_length [] bounds e = refl
gathered_length (s ∷ sets) [] e = absurd (omega arith)
gathered_length (s ∷ sets) (b ∷ bounds) e = ap suc (gathered_length sets bounds (omega arith))

pub gathered_at : (sets bounds : List (List ℕ)) (d : Row) (i : ℕ) → i < length sets
    → i < length bounds
    → get_or (gathered sets bounds) i d ≡ row_from (get_or sets i []) (get_or bounds i [])
unfolding gathered
gathered_at [] bounds d i h k = absurd (omega arith)
gathered_at (s ∷ sets) [] d i h k = absurd (omega arith)
gathered_at (s ∷ sets) (b ∷ bounds) d zero h k = refl
gathered_at (s ∷ sets) (b ∷ bounds) d (suc i) h k =
    gathered_at sets bounds d i (omega arith) (omega arith)

-- The sets and the bounds of the rows read so far, in eight places.
abbrev no_sets : List ℕ
no_sets = replicate 6 0

abbrev pub sets_of : List RowRead → List (List ℕ)
sets_of reads = map (λ (r : RowRead). r.sets) reads ++ replicate (most_rows - length reads) no_sets

abbrev pub bounds_of : List RowRead → List (List ℕ)
bounds_of reads = map (λ (r : RowRead). r.bounds) reads ++ replicate (most_rows - length reads)
    no_sets

gathered_none : (k : ℕ) → gathered (replicate k no_sets) (replicate k no_sets) ≡ replicate k zero_row
unfolding gathered
gathered_none zero = refl
gathered_none (suc k) = ap (λ (l : List Row). zero_row ∷ l) (gathered_none k)

gathered_rows : (reads : List RowRead) (k : ℕ)
    → gathered (map (λ (r : RowRead). r.sets) reads ++ replicate k no_sets)
    (map (λ (r : RowRead). r.bounds) reads ++ replicate k no_sets)
    ≡ map row_of reads ++ replicate k zero_row
unfolding gathered
gathered_rows [] k = gathered_none k
gathered_rows (r ∷ reads) k = ap (λ (l : List Row). row_of r ∷ l) (gathered_rows reads k)

-- The rows from the top: some are read, the others are still lines.
abbrev pub after_rows : List Row → Rows → Rows
after_rows rows (rows_read more) = rows_read (rows ++ more)
after_rows rows (fault number line) = fault number line

after_snoc : (rows : List Row) (row : Row) (rest : Rows)
    → after_rows rows (after_row row rest) ≡ after_rows (rows ++ (row ∷ [])) rest
after_snoc rows row (rows_read more) = ap rows_read (sym (append_assoc rows (row ∷ []) more))
after_snoc rows row (fault number line) = refl

module _ (names : List Name) (signals : ℕ) (version : Version) (rest : List ℕ) where
  -- What holds when n rows have been read, up to the place `at`.
  pub record Gathering (reads : List RowRead) (sets bounds : List (List ℕ)) (n at : ℕ) : Type 0
    where
      pub rows : rows_from names signals version 0 (lines rest)
          ≡ after_rows (map row_of reads) (rows_from names signals version n (lines (drop at rest)))
      pub many : length reads ≡ n
      pub few : n ≤ most_rows
      pub sets_kept : sets ≡ sets_of reads
      pub bounds_kept : bounds ≡ bounds_of reads

  module _ (reads : List RowRead) (sets bounds : List (List ℕ)) (n at : ℕ)
      (g : Gathering reads sets bounds n at) where
    abbrev line : List ℕ
    line = front LF (drop at rest)

    abbrev read : Result RowRead ℕ
    read = row_answer (take signals names) (width signals) version line

    -- the line that a turn looks at
    turn : at < length rest → rows_from names signals version n (lines (drop at rest))
        ≡ cond (ltb n most_rows) (after_line n read (rows_from names signals version (n + 1)
        (lines (drop (at + length line + 1) rest)))) (fault 9 (n + 3))
    unfolding rows_from
    turn h = ap (rows_from names signals version n) (lines_next rest at h)

    pub gathering_ninth : at < length rest → most_rows ≤ n
        → rows_from names signals version 0 (lines rest) ≡ fault 9 (n + 3)
    gathering_ninth h k = g.rows ∙ rw (turn h, le-ltb n most_rows k)

    pub gathering_fault : at < length rest → n < most_rows → {number : ℕ} → read ≡ Err number
        → rows_from names signals version 0 (lines rest) ≡ fault number (n + 3)
    gathering_fault h k e = g.rows ∙ rw (turn h, lt-ltb n most_rows k, e)

    pub gathering_next : at < length rest → n < most_rows → {row : RowRead} → read ≡ Ok row
        → Gathering (reads ++ (row ∷ [])) (set sets n row.sets) (set bounds n row.bounds)
        (n + 1) (at + length line + 1)
    gathering_next h k {row} e = record {
      rows =
          g.rows ∙ rw (turn h, lt-ltb n most_rows k, e)
          (after_snoc (map row_of reads) (row_of row) later
          ∙ ap (λ (l : List Row). after_rows l later) (sym (map-append row_of reads (row ∷ []))));
      many = length-append reads (row ∷ []) ∙ omega (arith, g.many);
      few = omega arith;
      sets_kept = kept (λ (r : RowRead). r.sets) sets g.sets_kept;
      bounds_kept = kept (λ (r : RowRead). r.bounds) bounds g.bounds_kept;
    }
      where
        later : Rows
        later = rows_from names signals version (n + 1) (lines (drop (at + length line + 1) rest))

        kept : (f : RowRead → List ℕ) (old : List (List ℕ))
            → old ≡ map f reads ++ replicate (most_rows - length reads) no_sets
            → set old n (f row) ≡ map f (reads ++ (row ∷ [])) ++ replicate
            (most_rows - length (reads ++ (row ∷ []))) no_sets
        kept f old o =
            let longer = length-append reads (row ∷ []) in
            let same = g.many in
            let free : most_rows - length (reads ++ (row ∷ [])) ≡ most_rows - suc n = omega arith in
            let before : most_rows - length reads ≡ most_rows - n = omega arith in
            rw (o, before, free, map-append f reads (row ∷ []))
            (added_few (map f reads) no_sets (f row) n most_rows (length-map reads f ∙ g.many) k)

    -- no line is left
    pub gathering_ends : length rest ≤ at
        → rows_from names signals version 0 (lines rest) ≡ rows_read (map row_of reads)
    unfolding rows_from
    gathering_ends h =
        g.rows ∙ rw (lines_end rest at h) (ap rows_read (append-nil (map row_of reads)))

    pub gathered_all : gathered sets bounds
        ≡ map row_of reads ++ replicate (most_rows - length (map row_of reads)) zero_row
    gathered_all =
        rw (g.sets_kept, g.bounds_kept, length-map reads row_of)
        (gathered_rows reads (most_rows - length reads))

  -- There is a row.
  pub rows_some : 0 < length rest → rows_answer names signals version (lines rest)
      ≡ rows_reading names signals version (rows_from names signals version 0 (lines rest))
  unfolding rows_answer
  rows_some h = rw (lines_cons rest h)

  -- What the lines give, by what their rows come to.
  pub rows_none : length rest ≡ 0 → rows_answer names signals version (lines rest) ≡ refused_file 16 3
  unfolding rows_answer lines
  rows_none e = rw (length_none rest e)

  pub rows_fault : 0 < length rest → (number line : ℕ)
      → rows_from names signals version 0 (lines rest) ≡ fault number line
      → rows_answer names signals version (lines rest) ≡ refused_file number line
  rows_fault h number its_line e = rows_some h ∙ ap (rows_reading names signals version) e

  pub rows_accepted : 0 < length rest → (rows : List Row)
      → rows_from names signals version 0 (lines rest) ≡ rows_read rows
      → rows_answer names signals version (lines rest)
      ≡ record { outcome = Ok tt; table = table_from signals names rows }
  rows_accepted h rows e = rows_some h ∙ ap (rows_reading names signals version) e

-- The row of the sets and bounds at a place. When every place is filled, they are those gathered.
abbrev pub row_at : List (List ℕ) → List (List ℕ) → ℕ → Row
row_at sets bounds j = row_from (get_or sets j []) (get_or bounds j [])

pub gathered_filled : (sets bounds : List (List ℕ)) (rows : List Row) (i : ℕ)
    → Filled zero_row (row_at sets bounds) most_rows rows i → most_rows ≤ i → length sets ≡ most_rows
    → length bounds ≡ most_rows → rows ≡ gathered sets bounds
gathered_filled sets bounds rows i f past s b =
    filled_all zero_row (row_at sets bounds) most_rows rows (gathered sets bounds) i f past
    (gathered_length sets bounds (omega arith) ∙ s)
    (λ j low. gathered_at sets bounds zero_row j (omega arith) (omega arith))
