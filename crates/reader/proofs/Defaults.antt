-- What the derived `Default` of a table makes is the empty table. Assumes nothing.
use Prim.Native.Nat.{ℕ}
use native.Mathlib.Omega.{arith}
use mathlib.Core.List.{List}
use mathlib.Core.Path.{◌≡◌, sym, ◌∙◌}
use lib.ListN.{get_or, replicate, length-replicate, get_or-replicate}
use lib.Seq.{ext_get_or}
use Rattle.std.specs.Array.{AllOfLen}
use Rattle.table.specs.Limits.{most_signals, most_rows, name_length, conditions}
use Rattle.table.specs.Row.{zero_row}
use Rattle.table.specs.declared.Name.{Name}
use Rattle.table.specs.declared.Row.{Row}
use Rattle.table.specs.declared.Table.{Table}
use Rattle.table.proofs.Laws.{default_row}
use Rattle.header.specs.Header.{no_name}
use Rattle.reader.specs.Reading.{empty_table}

-- Elements that are each the same.
all_same : {A : Type 0} (P : A → Type 0) (a : A) → ((x : A) → P x → x ≡ a) → (n : ℕ) (xs : List A)
    → AllOfLen P xs n → xs ≡ replicate n a
all_same P a same n xs all =
    ext_get_or a xs (replicate n a) (all.long ∙ sym (length-replicate n a))
    (λ i low. same (get_or xs i a) (all.at i a (omega (arith, all.long)))
    ∙ sym (get_or-replicate n i a a (omega (arith, all.long))))

abbrev Zeros : ℕ → List ℕ → Type 0
Zeros n xs = AllOfLen (λ x. x ≡ 0) xs n

zeros : (n : ℕ) (xs : List ℕ) → Zeros n xs → xs ≡ replicate n 0
zeros = all_same (λ x. x ≡ 0) 0 (λ x e. e)

default_name : (name : Name) → Zeros name_length name.chars → name ≡ no_name
default_name name z = λ i. record { chars = zeros name_length name.chars z i }

abbrev ZeroRow : Row → Type 0
ZeroRow r = Zeros conditions r.sets × ((r.tmin ≡ 0) × ((r.tmax ≡ 0) × ((r.lmin ≡ 0)
    × ((r.lmax ≡ 0) × ((r.amin ≡ 0) × (r.amax ≡ 0))))))

pub default_table : (t : Table) → (t.signals ≡ 0)
    × (AllOfLen (λ (name : Name). Zeros name_length name.chars) t.names most_signals
    × ((t.count ≡ 0) × AllOfLen ZeroRow t.rows most_rows)) → t ≡ empty_table
default_table t (signals, (names, (count, rows))) = λ i. record {
  signals = signals i;
  names = all_same (λ (name : Name). Zeros name_length name.chars) no_name default_name
      most_signals t.names names i;
  count = count i;
  rows = all_same ZeroRow zero_row default_row most_rows t.rows rows i;
}
