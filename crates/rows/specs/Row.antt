-- One row's line, and what is wrong with another line: numbers 10 to 15.
use Rattle.std.specs.Prelude.{ℕ, ◌≤◌, List, [], ◌∷◌, ◌++◌, ◌≡◌, Err, length, take, drop}
use Rattle.table.specs.declared.Name.{Name}
use Rattle.table.specs.declared.Row.{Row}
use Rattle.text.specs.Bounds.{IsBound}
use Rattle.text.specs.Lines.{comma, joined, Free}
use Rattle.text.specs.Words.{rule_word}
use Rattle.text.specs.declared.Version.{Version}
use Rattle.conditions.specs.Judge.{IsCondition, RightCondition}

-- "Every further line is `rule `, then twelve fields with eleven commas between them: TSE, TC, TEE,
-- Tmin, Tmax, Lmin, Lmax, ASE, AC, AEE, Amin, Amax." A field is a condition, or a bound.
pub data FieldKind : Type 0 where
  a_condition a_bound : FieldKind

abbrev pub field_kinds : List FieldKind
field_kinds =
    a_condition ∷ a_condition ∷ a_condition ∷ a_bound ∷ a_bound ∷ a_bound ∷ a_bound
    ∷ a_condition ∷ a_condition ∷ a_condition ∷ a_bound ∷ a_bound ∷ []

pub record IsRule (line : List ℕ) (fields : List (List ℕ)) : Type 0 where
  pub line_is : line ≡ rule_word ++ joined comma fields
  pub apart : Free comma fields
  pub twelve : length fields ≡ length field_kinds

-- The values of a row, in the order of its fields: the set of each condition, and each bound.
abbrev pub row_values : Row → List ℕ
row_values row =
    take 3 row.sets ++ (row.tmin ∷ row.tmax ∷ row.lmin ∷ row.lmax ∷ [])
    ++ drop 3 row.sets ++ (row.amin ∷ row.amax ∷ [])

-- "Least is not above most."
pub record Ordered (row : Row) : Type 0 where
  pub trigger : row.tmin ≤ row.tmax
  pub delay : row.lmin ≤ row.lmax
  pub action : row.amin ≤ row.amax

module _ (names : List Name) (letters : ℕ) where
  abbrev pub IsField : FieldKind → List ℕ → ℕ → Type 0
  IsField a_condition xs v = IsCondition names letters xs v
  IsField a_bound xs v = IsBound xs v

  -- Fields of these kinds, that are all right, with these values.
  pub data AreFields : List FieldKind → List (List ℕ) → List ℕ → Type 0 where
    none : AreFields [] [] []
    and : {kind : FieldKind} {xs : List ℕ} {v : ℕ} {kinds : List FieldKind}
        {fields : List (List ℕ)} {values : List ℕ} → IsField kind xs v
        → AreFields kinds fields values → AreFields (kind ∷ kinds) (xs ∷ fields) (v ∷ values)

  -- The line is a rule whose fields are all right, with the values of this row.
  pub record HasFields (line : List ℕ) (row : Row) : Type 0 where
    pub fields : List (List ℕ)
    pub rule : IsRule line fields
    pub right : AreFields field_kinds fields (row_values row)

  -- The line is this row, in a file of a version. Rows are the same in each.
  pub record IsRow (version : Version) (line : List ℕ) (row : Row) : Type 0 where
    pub has : HasFields line row
    pub ordered : Ordered row

  -- "The fields from the left (11, 12, 13 over the whole condition, or 14)": the number of the
  -- first field that is not right.
  pub data FirstFault : List FieldKind → List (List ℕ) → ℕ → Type 0 where
    no_condition : {xs : List ℕ} {number : ℕ} {kinds : List FieldKind} {fields : List (List ℕ)}
        → RightCondition names letters xs (Err number)
        → FirstFault (a_condition ∷ kinds) (xs ∷ fields) number
    no_bound : {xs : List ℕ} {kinds : List FieldKind} {fields : List (List ℕ)}
        → ((n : ℕ) → IsBound xs n → ⊥) → FirstFault (a_bound ∷ kinds) (xs ∷ fields) 14
    later : {kind : FieldKind} {xs : List ℕ} {kinds : List FieldKind} {fields : List (List ℕ)}
        {number : ℕ} (v : ℕ) → IsField kind xs v
        → FirstFault kinds fields number → FirstFault (kind ∷ kinds) (xs ∷ fields) number

  -- "On a row: .. 10 [no `rule ` or not eleven commas], then the fields from the left .., then 15
  -- [least above most] for T, L, A."
  pub data RowFault (version : Version) (line : List ℕ) : ℕ → Type 0 where
    misshapen : ((fields : List (List ℕ)) → IsRule line fields → ⊥) → RowFault version line 10
    in_field : {fields : List (List ℕ)} {number : ℕ} → IsRule line fields
        → FirstFault field_kinds fields number → RowFault version line number
    crossed : {row : Row} → HasFields line row → (Ordered row → ⊥) → RowFault version line 15
