-- What the answers of the search say. Assumes nothing.
use Prim.Native.Nat.{ℕ, suc, ◌≤◌, ◌<◌}
use native.Mathlib.Omega.{arith}
use mathlib.Core.Bool.{true, false, true≢false}
use mathlib.Core.List.{List}
use mathlib.Core.Logic.{◌⊎◌, ◌↔◌}
use mathlib.Core.Logic.◌⊎◌.{inl, inr}
use mathlib.Core.Path.{◌≡◌, refl, sym, ap, ◌∙◌}
use lib.ListN.{length}
use Rattle.letters.specs.Letter.{bit_at}
use Rattle.table.specs.Valid.{table_valid, rows_of}
use Rattle.table.specs.declared.Table.{Table}
use Rattle.traces.specs.Count.{ReachedMany}
use Rattle.traces.specs.Inner.Verdicts.{Trapped, Sound}
use Rattle.traces.proofs.Count.{count_unique, fits_or_not}
use Rattle.traces.proofs.Verdict.{trapped_unique, sound_not_doomed}
use Rattle.step.specs.Fires.{Fires}
use Rattle.verdict.specs.Found.{Verdict, Values, values_of}
use Rattle.verdict.specs.Found.{refused_found, sound_found, trapped_found}
use Rattle.search.specs.Further.Bound.{most_states}
use Rattle.search.specs.Lent.{Lent, Searched, room_of, system_of, traced}
use Rattle.search.specs.Inner.Computed.{search_answer}
use Rattle.search.proofs.Bound.{count_bounded}
use Rattle.demands.specs.Searching.{Dead, Fit, RightLists, SameScratch, search_values}
use Rattle.demands.specs.Inner.Answers.{with_entries, lists_in, ComputedAnswer}
use Rattle.demands.specs.Inner.Answers.ComputedAnswer.{is17, is20, is21, is_sound, is_trapped}
use Rattle.demands.proofs.Answers.{one_of_five, answer_is}
use Rattle.demands.proofs.Described.{lists_right}
use Rattle.demands.proofs.VerdictMeaning.{dead_doomed, trapped_earliest}

-- Two verdicts are not the same.
clash : ◌≡◌ {A = ℕ} 0 1 → ⊥
clash e = omega arith

-- What is so of the table, by the values of what is found.
module _ (table : Table) (lent : Lent) where
  -- A trace into the trap, with its lost number, that fits the buffer or does not.
  abbrev pub FitTrace : Type 0
  FitTrace = (w : List ℕ) × (k : ℕ) × Trapped (system_of table) w k
      × (length w ≤ length lent.trace)

  abbrev pub LongTrace : Type 0
  LongTrace = (w : List ℕ) × (k : ℕ) × Trapped (system_of table) w k
      × (length lent.trace < length w)

  pub record Said (values : Values) : Type 0 where
    pub line : values.line ≡ 0
    pub most : values.count ≤ most_states (rows_of table)
    pub none : (number : ℕ) → values.number ≡ suc number → values.never ≡ 0
    pub by_17 : values.number ≡ 17 → table_valid table ≡ false
    pub by_20 : values.number ≡ 20 → ReachedMany (system_of table) (suc (room_of lent))
    pub by_21 : values.number ≡ 21 → LongTrace
    pub by_sound : values.verdict ≡ Verdict.says_sound → Sound (system_of table)
    pub by_trapped : values.verdict ≡ Verdict.says_trapped → FitTrace

  refused_says : (number : ℕ) → (number ≡ 17 → table_valid table ≡ false)
      → (number ≡ 20 → ReachedMany (system_of table) (suc (room_of lent)))
      → (number ≡ 21 → LongTrace) → Said (values_of (refused_found number))
  refused_says number invalid many long = record {
    line = refl;
    most = omega arith;
    none = λ k e. refl;
    by_17 = invalid;
    by_20 = many;
    by_21 = long;
    by_sound = λ e. absurd (clash (cc));
    by_trapped = λ e. absurd (clash (cc));
  }

  fit_most : (n : ℕ) → Fit table lent n → n ≤ most_states (rows_of table)
  fit_most n f = count_bounded table.signals (rows_of table) n f.count.many

  answer_says : {a : Searched} → ComputedAnswer table lent a → Said (values_of a.found)
  answer_says (is17 p) =
      refused_says 17 (λ e. p) (λ e. absurd (omega arith)) (λ e. absurd (omega arith))
  answer_says (is20 p m) =
      refused_says 20 (λ e. absurd (omega arith)) (λ e. m) (λ e. absurd (omega arith))
  answer_says (is21 {k = k} {w = w} f t l) =
      refused_says 21 (λ e. absurd (omega arith)) (λ e. absurd (omega arith)) (λ e. (w, k, t, l))
  answer_says (is_sound f s) = record {
    line = refl;
    most = fit_most _ f;
    none = λ k e. absurd (omega arith);
    by_17 = λ e. absurd (omega arith);
    by_20 = λ e. absurd (omega arith);
    by_21 = λ e. absurd (omega arith);
    by_sound = λ e. s;
    by_trapped = λ e. absurd (clash (cc));
  }
  answer_says (is_trapped {k = k} {w = w} f t l) = record {
    line = refl;
    most = fit_most _ f;
    none = λ k e. absurd (omega arith);
    by_17 = λ e. absurd (omega arith);
    by_20 = λ e. absurd (omega arith);
    by_21 = λ e. absurd (omega arith);
    by_sound = λ e. absurd (clash (cc));
    by_trapped = λ e. (w, k, t, l);
  }

  pub search_says : Said (search_values table lent)
  search_says = answer_says (one_of_five table lent)

  -- The states of an accepted table fit, or there are more of them than the room.
  pub fit_or_many : table_valid table ≡ true
      → ((n : ℕ) × Fit table lent n) ⊎ ReachedMany (system_of table) (suc (room_of lent))
  fit_or_many q = go (one_of_five table lent)
    where
      go : {a : Searched} → ComputedAnswer table lent a
          → ((n : ℕ) × Fit table lent n) ⊎ ReachedMany (system_of table) (suc (room_of lent))
      go (is17 p) = absurd (true≢false (sym q ∙ p))
      go (is20 p m) = inr m
      go (is21 {n = n} f t l) = inl (n, f)
      go (is_sound {n = n} f s) = inl (n, f)
      go (is_trapped {n = n} f t l) = inl (n, f)

-- States that fit, n of them.
module _ (table : Table) (lent : Lent) (n : ℕ) (fit : Fit table lent n) where
  pub sound_answer : Sound (system_of table)
      → search_answer table lent
      ≡ record { found = sound_found n (lists_in table lent); lent = with_entries table lent }
  sound_answer s = answer_is table lent (is_sound fit s)

  pub trapped_answer : (w : List ℕ) (k : ℕ) → Trapped (system_of table) w k
      → length w ≤ length lent.trace
      → search_answer table lent ≡ record {
        found = trapped_found n (lists_in table lent) w k;
        lent = traced w (with_entries table lent);
      }
  trapped_answer w k t l = answer_is table lent (is_trapped fit t l)

  pub refused_answer : (w : List ℕ) (k : ℕ) → Trapped (system_of table) w k
      → length lent.trace < length w
      → search_answer table lent ≡ record { found = refused_found 21; lent = with_entries table lent }
  refused_answer w k t l = answer_is table lent (is21 fit t l)

  -- There are three answers then.
  pub fit_cases : (Goal : Searched → Type 0)
      → ((w : List ℕ) (k : ℕ) → Trapped (system_of table) w k → length lent.trace < length w
      → Goal (record { found = refused_found 21; lent = with_entries table lent }))
      → (Sound (system_of table)
      → Goal (record { found = sound_found n (lists_in table lent); lent = with_entries table lent }))
      → ((w : List ℕ) (k : ℕ) → Trapped (system_of table) w k → length w ≤ length lent.trace
      → Goal (record {
        found = trapped_found n (lists_in table lent) w k;
        lent = traced w (with_entries table lent);
      }))
      → Goal (search_answer table lent)
  fit_cases Goal long sound short = go (one_of_five table lent)
    where
      same_count : (m : ℕ) → Fit table lent m → n ≡ m
      same_count m f = count_unique (system_of table) n m fit.count f.count

      go : {a : Searched} → ComputedAnswer table lent a → Goal a
      go (is17 p) = absurd (true≢false (sym fit.passes ∙ p))
      go (is20 p m) =
          absurd (fits_or_not (system_of table) n (room_of lent) fit.count fit.room m)
      go (is21 {k = k} {w = w} f t l) = long w k t l
      go (is_sound {n = m} f s) = rw (← same_count m f) (sound s)
      go (is_trapped {n = m} {k = k} {w = w} f t l) = rw (← same_count m f) (short w k t l)

  -- Under a verdict the listed rows are those that never fire.
  pub never_exactly : (search_values table lent).number ≡ 0 → (i : ℕ)
      → (bit_at (search_values table lent).never i ≡ true)
      ↔ ((i < length (rows_of table)) × (Fires table.signals (rows_of table) i → ⊥))
  never_exactly = fit_cases (λ a. (values_of a.found).number ≡ 0 → (i : ℕ)
      → (bit_at (values_of a.found).never i ≡ true)
      ↔ ((i < length (rows_of table)) × (Fires table.signals (rows_of table) i → ⊥)))
      (λ w k t l e. absurd (omega arith)) (λ s e. right.never) (λ w k t l e. right.never)
    where
      right : RightLists table.signals (rows_of table) (lists_in table lent)
      right = lists_right table lent n fit

  -- Trapped, or refused for its trace, exactly when some unbroken trace is dead.
  pub trapped_exactly : (
      ((search_values table lent).verdict ≡ Verdict.says_trapped)
      ⊎ ((search_values table lent).number ≡ 21))
      ↔ ((w : List ℕ) × (k : ℕ) × Dead (system_of table) w k)
  trapped_exactly = (there, back)
    where
      dead_trace : (w : List ℕ) (k : ℕ) → Trapped (system_of table) w k
          → (v : List ℕ) × (j : ℕ) × Dead (system_of table) v j
      dead_trace w k t = (w, k, (trapped_earliest (system_of table) w k t).such)

      there : ((search_values table lent).verdict ≡ Verdict.says_trapped)
          ⊎ ((search_values table lent).number ≡ 21)
          → (w : List ℕ) × (k : ℕ) × Dead (system_of table) w k
      there (inl e) =
          let r = (search_says table lent).by_trapped e in dead_trace r.0 r.1 r.2
      there (inr e) = let r = (search_says table lent).by_21 e in dead_trace r.0 r.1 r.2

      back : (w : List ℕ) × (k : ℕ) × Dead (system_of table) w k
          → ((search_values table lent).verdict ≡ Verdict.says_trapped)
          ⊎ ((search_values table lent).number ≡ 21)
      back (v, j, d) = fit_cases (λ a. ((values_of a.found).verdict ≡ Verdict.says_trapped)
          ⊎ ((values_of a.found).number ≡ 21)) (λ w k t l. inr refl)
          (λ s. absurd (sound_not_doomed (system_of table) s v d.fine
          (dead_doomed (system_of table) v j d)))
          (λ w k t l. inl refl)

  -- A trapped table is refused exactly when the trace is longer than its buffer.
  module _ (w : List ℕ) (k : ℕ) (t : Trapped (system_of table) w k) where
    the_trace : (v : List ℕ) (j : ℕ) → Trapped (system_of table) v j → w ≡ v
    the_trace v j u = (trapped_unique (system_of table) w v k j t u).0

    pub shown_exactly : ((search_values table lent).verdict ≡ Verdict.says_trapped)
        ↔ (length w ≤ length lent.trace)
    shown_exactly = (
      (λ e. go ((search_says table lent).by_trapped e)),
      (λ l. ap (λ (a : Searched). (values_of a.found).verdict) (trapped_answer w k t l)),
    )
      where
        go : FitTrace table lent → length w ≤ length lent.trace
        go r = rw (the_trace r.0 r.1 r.2) r.3

    pub refused_exactly : ((search_values table lent).number ≡ 21)
        ↔ (length lent.trace < length w)
    refused_exactly = (
      (λ e. go ((search_says table lent).by_21 e)),
      (λ l. ap (λ (a : Searched). (values_of a.found).number) (refused_answer w k t l)),
    )
      where
        go : LongTrace table lent → length lent.trace < length w
        go r = rw (the_trace r.0 r.1 r.2) r.3

  -- The scratch then is the entries' columns.
  pub scratch_is : SameScratch (search_answer table lent).lent (with_entries table lent)
  scratch_is = fit_cases (λ a. SameScratch a.lent (with_entries table lent)) (λ w k t l. same)
      (λ s. same)
      (λ w k t l. record { states = refl; lost = refl })
    where
      same : SameScratch (with_entries table lent) (with_entries table lent)
      same = record { states = refl; lost = refl }
