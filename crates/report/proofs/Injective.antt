-- Different findings give different reports: where the bytes are the same, so are the lines, and
-- with them what is found, its lists of rows, its trace and the number of rows. Assumes nothing.
use Prim.Native.Nat.{ℕ, suc, ◌^◌, ◌<◌, ◌≤◌}
use native.Mathlib.Omega.{arith}
use mathlib.Core.Bool.{true}
use mathlib.Core.List.{List, [], ◌∷◌, ◌++◌, append_assoc}
use mathlib.Core.List.{head-eq_of_cons-eq, tail-eq_of_cons-eq}
use mathlib.Core.Path.{◌≡◌, refl, sym, ap, ap₂, ◌∙◌}
use lib.ListN.{length, take}
use lib.Seq.{length-take-le}
use Rattle.letters.specs.Letter.{letter_valid}
use Rattle.letters.specs.Lists.{every}
use Rattle.letters.proofs.Lists.{and_left, and_right}
use Rattle.text.specs.Bytes.{bytes}
use Rattle.text.specs.Lines.{LF, count, Free, none, and}
use Rattle.text.specs.Inner.Cut.{lines}
use Rattle.text.proofs.Joins.{lines_ended}
use Rattle.std.specs.Prelude.{Ok, Err}
use Rattle.verdict.specs.declared.Finding.TheVariants.{Sound, Trapped}
use Rattle.verdict.specs.declared.RowLists.{RowLists}
use Rattle.verdict.specs.declared.Summary.{Summary}
use Rattle.verdict.specs.declared.Trap.{Trap}
use Rattle.verdict.specs.Found.{Found, Verdict, values_of}
use Rattle.lines.specs.Line.{tick_lines, row_numbers}
use Rattle.lines.proofs.Injective.{numbered_free, refused_free, ticks_free, byte_at}
use Rattle.lines.proofs.Injective.{numbered_injective, refused_injective, tick_injective}
use Rattle.lines.proofs.Listing.{or_dash_free, row_line_injective}
use Rattle.report.specs.Report.{size_lines, sound_line, trapped_line, lost_line, trap_lines}
use Rattle.report.specs.Report.{list_lines, report_lines, report_bytes}
use Rattle.report.specs.Further.Lists.{ListedRows}
use Rattle.report.specs.Further.Trace.{TraceInBuffer}

-- No line has an LF in it.
sizes_free : (rows n : ℕ) (more : List (List ℕ)) → Free LF more
    → Free LF (size_lines rows n ++ more)
unfolding count
sizes_free rows n more f =
    and (numbered_free (bytes "rules ") rows refl)
    (and (numbered_free (bytes "configurations ") n refl) f)

lists_free : (rows : ℕ) (lists : RowLists) → Free LF (list_lines rows lists)
unfolding count
lists_free rows lists = and (or_dash_free (row_numbers rows 0 lists.never)) none

module _ (signals : ℕ) where
  report_free : (rows : ℕ) (buffer : List ℕ) (found : Found)
      → Free LF (report_lines rows signals buffer found)
  unfolding report_lines count
  report_free rows buffer (Err r) = and refl (and (refused_free r.number r.line) none)
  report_free rows buffer (Ok (Sound summary)) =
      let lists = list_lines rows summary.lists in
      and refl (sizes_free rows summary.count (sound_line ∷ lists)
      (and refl (lists_free rows summary.lists)))
  report_free rows buffer (Ok (Trapped summary trap)) =
      let w = take trap.length buffer in
      let lost = lost_line trap.lost in
      let lists = list_lines rows summary.lists in
      let ticks = tick_lines signals 1 w in
      rw (append_assoc ticks (lost ∷ []) lists) (and refl (sizes_free rows summary.count
      (trapped_line ∷ ticks ++ lost ∷ lists) (and refl (ticks_free signals 1 w (lost ∷ lists)
      (and (numbered_free (bytes "lost ") trap.lost refl) (lists_free rows summary.lists))))))

-- Lines that are the same are of the same numbers.
sizes_injective : (rows rows' m n : ℕ) (xs ys : List (List ℕ))
    → size_lines rows m ++ xs ≡ size_lines rows' n ++ ys → (rows ≡ rows') × (m ≡ n) × (xs ≡ ys)
sizes_injective rows rows' m n xs ys e =
    let others = tail-eq_of_cons-eq e in (
      numbered_injective (bytes "rules ") rows rows' (head-eq_of_cons-eq e),
      numbered_injective (bytes "configurations ") m n (head-eq_of_cons-eq others),
      tail-eq_of_cons-eq others,
    )

lists_injective : (rows rows' : ℕ) (m n : RowLists) → rows ≡ rows' → m.never < 2 ^ rows
    → n.never < 2 ^ rows' → list_lines rows m ≡ list_lines rows' n → m ≡ n
lists_injective rows rows' m n same p q e =
    let never = row_line_injective m.never n.never (bytes "never") rows' (rw same at p) q
    (rw same at (head-eq_of_cons-eq e)) in
    λ i. record { never = never i }

trap_injective : (s t : Trap) (b c : List ℕ) → s.length ≤ length b → t.length ≤ length c
    → (take s.length b ≡ take t.length c) × (s.lost ≡ t.lost) → s ≡ t
trap_injective s t b c h g same =
    ap₂ {C = Trap} (λ n m. record { length = n; lost = m })
    (sym (length-take-le s.length b h) ∙ ap length same.0 ∙ length-take-le t.length c g)
    same.1

module _ (signals : ℕ) where
  trace_injective : (m n tick : ℕ) (v w : List ℕ) (xs ys : List (List ℕ))
      → every (letter_valid signals) v ≡ true → every (letter_valid signals) w ≡ true
      → tick_lines signals tick v ++ lost_line m ∷ xs ≡ tick_lines signals tick w ++ lost_line n ∷ ys
      → (v ≡ w) × (m ≡ n) × (xs ≡ ys)
  unfolding tick_lines every
  trace_injective m n tick [] [] xs ys f g e = (
    refl,
    numbered_injective (bytes "lost ") m n (head-eq_of_cons-eq e),
    tail-eq_of_cons-eq e,
  )
  trace_injective m n tick [] (y ∷ w) xs ys f g e = absurd (omega (arith, ap (byte_at 0 0) e))
  trace_injective m n tick (x ∷ v) [] xs ys f g e = absurd (omega (arith, ap (byte_at 0 0) e))
  trace_injective m n tick (x ∷ v) (y ∷ w) xs ys f g e =
      let fits = letter_valid signals in
      let first = tick_injective signals tick x y (and_left (fits x) (every fits v) f)
      (and_left (fits y) (every fits w) g) (head-eq_of_cons-eq e) in
      let others = trace_injective m n (suc tick) v w xs ys (and_right (fits x) (every fits v) f)
      (and_right (fits y) (every fits w) g) (tail-eq_of_cons-eq e) in
      (ap₂ ◌∷◌ first others.0, others.1, others.2)

-- What two reports show is the same: what is found, with its lists, the trace and, under a verdict,
-- the number of rows.
pub record SameReported (rows rows' : ℕ) (one other : Found) (b c : List ℕ) : Type 0 where
  pub found : one ≡ other
  pub trace : take (values_of one).length b ≡ take (values_of other).length c
  pub size : ((values_of one).verdict ≡ Verdict.no_verdict → ⊥) → rows ≡ rows'

summary_same : {m n : Summary} → m.count ≡ n.count → m.lists ≡ n.lists → m ≡ n
summary_same count lists = λ i. record { count = count i; lists = lists i }

module _ (signals rows rows' : ℕ) where
  lines_injective : (one other : Found) (b c : List ℕ) → TraceInBuffer signals b one
      → TraceInBuffer signals c other → ListedRows rows one → ListedRows rows' other
      → report_lines rows signals b one ≡ report_lines rows' signals c other
      → SameReported rows rows' one other b c
  unfolding report_lines
  lines_injective (Err r) (Err s) b c p q l k e = record {
    found = ap Err (refused_injective r s (head-eq_of_cons-eq (tail-eq_of_cons-eq e)));
    trace = refl;
    size = λ verdict. absurd (verdict refl);
  }
  lines_injective (Err r) (Ok (Sound n)) b c p q l k e = absurd (omega (arith, ap (byte_at 1 1) e))
  lines_injective (Err r) (Ok (Trapped n t)) b c p q l k e =
      absurd (omega (arith, ap (byte_at 1 1) e))
  lines_injective (Ok (Sound m)) (Err s) b c p q l k e = absurd (omega (arith, ap (byte_at 1 1) e))
  lines_injective (Ok (Sound m)) (Ok (Sound n)) b c p q l k e =
      let sizes = sizes_injective rows rows' m.count n.count
      (sound_line ∷ list_lines rows m.lists) (sound_line ∷ list_lines rows' n.lists)
      (tail-eq_of_cons-eq e) in
      let lists = lists_injective rows rows' m.lists n.lists sizes.0 l.never k.never
      (tail-eq_of_cons-eq sizes.2) in
      record {
        found = ap (λ (n : Summary). Ok (Sound n)) (summary_same sizes.1 lists);
        trace = refl;
        size = λ verdict. sizes.0;
      }
  lines_injective (Ok (Sound m)) (Ok (Trapped n t)) b c p q l k e =
      absurd (omega (arith, ap (byte_at 3 8) e))
  lines_injective (Ok (Trapped m s)) (Err r) b c p q l k e =
      absurd (omega (arith, ap (byte_at 1 1) e))
  lines_injective (Ok (Trapped m s)) (Ok (Sound n)) b c p q l k e =
      absurd (omega (arith, ap (byte_at 3 8) e))
  lines_injective (Ok (Trapped m s)) (Ok (Trapped n t)) b c p q l k e =
      let v = take s.length b in
      let w = take t.length c in
      let sizes = sizes_injective rows rows' m.count n.count
      (trapped_line ∷ trap_lines signals b s ++ list_lines rows m.lists)
      (trapped_line ∷ trap_lines signals c t ++ list_lines rows' n.lists) (tail-eq_of_cons-eq e) in
      let same = trace_injective signals s.lost t.lost 1 v w (list_lines rows m.lists)
      (list_lines rows' n.lists) p.letters q.letters
      (simp append_assoc at (tail-eq_of_cons-eq sizes.2)) in
      let lists = lists_injective rows rows' m.lists n.lists sizes.0 l.never k.never
      same.2 in
      record {
        found = ap₂ (λ (n : Summary) (t : Trap). Ok (Trapped n t)) (summary_same sizes.1 lists)
            (trap_injective s t b c p.whole q.whole (same.0, same.1));
        trace = same.0;
        size = λ verdict. sizes.0;
      }

  pub bytes_injective : (one other : Found) (b c : List ℕ) → TraceInBuffer signals b one
      → TraceInBuffer signals c other → ListedRows rows one → ListedRows rows' other
      → report_bytes rows signals b one ≡ report_bytes rows' signals c other
      → SameReported rows rows' one other b c
  bytes_injective one other b c p q l k same =
      lines_injective one other b c p q l k
      (sym (lines_ended (report_lines rows signals b one) (report_free signals rows b one))
      ∙ ap lines same
      ∙ lines_ended (report_lines rows' signals c other) (report_free signals rows' c other))
