-- Fields as they are described, against the numbers and values that are computed of them, both
-- ways. Assumes nothing.
use Prim.Native.Nat.{ℕ, ◌+◌}
use native.Mathlib.Omega.{arith}
use mathlib.Core.Bool.{Bool, true, false}
use mathlib.Core.List.{List, [], ◌∷◌, map}
use mathlib.Core.Path.{◌≡◌, refl, ap₂}
use lib.ListN.{length}
use Rattle.std.specs.Prelude.{Option, Some, None, Result, Ok, Err}
use Rattle.table.specs.Inner.Fields.{bound_at}
use Rattle.table.specs.declared.Name.{Name}
use Rattle.letters.specs.Lists.{within}
use Rattle.text.specs.Lines.{count, Free, none as no-piece, and as and-piece}
use Rattle.text.specs.Inner.Bounds.{bound_of}
use Rattle.text.proofs.Bounds.{bound_of_complete, bound_of_right, bound_of_wrong, bound_of_none}
use Rattle.text.proofs.Bounds.{decimal_free}
use Rattle.conditions.specs.Judge.{RightCondition, is_set}
use Rattle.conditions.specs.Inner.Judge.{judge}
use Rattle.conditions.proofs.Judging.{judge_right, right_judge}
use Rattle.conditions.proofs.Signs.{in_condition, condition_free}
use Rattle.rows.specs.Row.{FieldKind, a_condition, a_bound, field_kinds, IsField, AreFields}
use Rattle.rows.specs.Row.{none, and, FirstFault, no_condition, no_bound, later}
use Rattle.rows.specs.Inner.Row.{field_of, fields_of, all_values}

-- The kinds of the fields from field k on are these.
abbrev is_bound_kind : FieldKind → Bool
is_bound_kind a_condition = false
is_bound_kind a_bound = true

pub data KindsFrom : ℕ → List FieldKind → Type 0 where
  end : {k : ℕ} → KindsFrom k []
  next : {k : ℕ} {kind : FieldKind} {kinds : List FieldKind} → bound_at k ≡ is_bound_kind kind
      → KindsFrom (k + 1) kinds → KindsFrom k (kind ∷ kinds)

pub kinds_all : KindsFrom 0 field_kinds
kinds_all =
    next refl (next refl (next refl (next refl (next refl (next refl (next refl (next refl
    (next refl (next refl (next refl (next refl end)))))))))))

module _ (names : List Name) (n : ℕ) where
  -- What a field is, is found.
  field_value : (k : ℕ) (kind : FieldKind) → bound_at k ≡ is_bound_kind kind → (xs : List ℕ) (v : ℕ)
      → IsField names n kind xs v → field_of names n k xs ≡ Ok v
  unfolding field_of
  field_value k a_condition e xs v h = rw (e, right_judge names n xs (Ok v) (is_set h))
  field_value k a_bound e xs v h = rw (e, bound_of_complete xs v h)

  pub fields_values : {k : ℕ} {kinds : List FieldKind} {fields : List (List ℕ)} {values : List ℕ}
      → KindsFrom k kinds → AreFields names n kinds fields values
      → fields_of names n k fields ≡ map Ok values
  unfolding fields_of
  fields_values end none = refl
  fields_values (next {k} {kind} e more) (and {xs} {v} h right) =
      ap₂ ◌∷◌ (field_value k kind e xs v h) (fields_values more right)

  -- So is the first number.
  pub fault_found : {k : ℕ} {kinds : List FieldKind} {fields : List (List ℕ)} {number : ℕ}
      → KindsFrom k kinds → FirstFault names n kinds fields number
      → all_values (fields_of names n k fields) ≡ Err number
  unfolding fields_of all_values field_of
  fault_found (end {k}) fault = elim fault [ ]
  fault_found (next e more) (no_condition {xs} {number} h) =
      rw (e, right_judge names n xs (Err number) h)
  fault_found (next e more) (no_bound {xs} h) = rw (e, bound_of_none xs h)
  fault_found (next {k} {kind} e more) (later {xs} v h fault) =
      rw (field_value k kind e xs v h, fault_found more fault)

  -- Fields are right, or there is a first fault.
  pub data FieldsFound (kinds : List FieldKind) (fields : List (List ℕ)) : Type 0 where
    right : (values : List ℕ) → AreFields names n kinds fields values → FieldsFound kinds fields
    fault : (number : ℕ) → FirstFault names n kinds fields number → FieldsFound kinds fields

  pub fields_found : (kinds : List FieldKind) (fields : List (List ℕ))
      → length fields ≡ length kinds → FieldsFound kinds fields
  fields_found [] [] e = right [] none
  fields_found [] (xs ∷ fields) e = absurd (omega arith)
  fields_found (kind ∷ kinds) [] e = absurd (omega arith)
  fields_found (kind ∷ kinds) (xs ∷ fields) e = go kind (fields_found kinds fields (omega arith))
    where
      rest : (kind : FieldKind) (v : ℕ) → IsField names n kind xs v → FieldsFound kinds fields
          → FieldsFound (kind ∷ kinds) (xs ∷ fields)
      rest kind v h (right values all) = right (v ∷ values) (and {kind = kind} h all)
      rest kind v h (fault number first) = fault number (later {kind = kind} v h first)

      judged : (j : Result ℕ ℕ) → RightCondition names n xs j → FieldsFound kinds fields
          → FieldsFound (a_condition ∷ kinds) (xs ∷ fields)
      judged (Ok v) (is_set c) others = rest a_condition v c others
      judged (Err m) h others = fault m (no_condition h)

      bounded : (b : Option ℕ) → bound_of xs ≡ b → FieldsFound kinds fields
          → FieldsFound (a_bound ∷ kinds) (xs ∷ fields)
      bounded (Some v) is others = rest a_bound v (bound_of_right xs v is) others
      bounded None is others = fault 14 (no_bound (bound_of_wrong xs is))

      go : (kind : FieldKind) → FieldsFound kinds fields → FieldsFound (kind ∷ kinds) (xs ∷ fields)
      go a_condition = judged (judge names n xs) (judge_right names n xs)
      go a_bound = bounded (bound_of xs) refl

  -- A byte of neither conditions nor bounds is in no field.
  pub fields_free : (b : ℕ) → in_condition b ≡ false → within 48 57 b ≡ false
      → {kinds : List FieldKind} {fields : List (List ℕ)} {values : List ℕ}
      → AreFields names n kinds fields values → Free b fields
  fields_free b e d none = no-piece
  fields_free b e d (and {kind} {xs} {v} h more) =
      and-piece (free kind xs v h) (fields_free b e d more)
    where
      free : (kind : FieldKind) (xs : List ℕ) (v : ℕ) → IsField names n kind xs v
          → count b xs ≡ 0
      free a_condition xs v h = condition_free names n b e h
      free a_bound xs v h = rw (← h.bytes) (decimal_free b d v)
