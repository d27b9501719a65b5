-- What the calls of a reader's `read` bring, one after the other, and what is read of them. A call
-- answers how many bytes came, 0 at the end of the input, or that it failed.
use Rattle.std.specs.Prelude.{ℕ, ◌+◌, ◌<◌, ◌≤◌, List, ◌≡◌, length, take, drop, Option, Result, Ok, Err}
use Rattle.std.specs.Io.KnownBytes.{Consumes, Keeps, IsAtEnd}
use Rattle.std.specs.declared.io.Error.{Error}

-- A piece has a place from `done` on.
abbrev pub HasPlace : ℕ → ℕ → Result ℕ Error → Type 0
HasPlace done room (Ok n) = 1 ≤ n → done + n ≤ room
HasPlace done room (Err e) = Unit {0}

-- What one call leaves in the buffer, from place `done` on: what earlier pieces brought stays.
pub record Brought (done : ℕ) (file : List ℕ) (piece : Result ℕ Error) (next : List ℕ) : Type 0 where
  pub place : HasPlace done (length file) piece
  pub long : length next ≡ length file
  pub front : take done next ≡ take done file

-- What is read with `done` bytes in the buffer already: one call after the other, until one says
-- that the input ended or that reading failed, or the buffer is full. The count is that of all
-- pieces; the end of the input and a failure are told apart.
pub data Reads : ℕ → List ℕ → Result ℕ Error → List ℕ → Type 0 where
  full : {done : ℕ} {file : List ℕ} → length file ≡ done → Reads done file (Ok done) file
  ended : {done : ℕ} {file next : List ℕ} → Brought done file (Ok 0) next
      → Reads done file (Ok done) next
  failed : {done : ℕ} {file next : List ℕ} {e : Error} → Brought done file (Err e) next
      → Reads done file (Err e) next
  more : {done n : ℕ} {file next last : List ℕ} {r : Result ℕ Error} → 1 ≤ n
      → Brought done file (Ok n) next → Reads (done + n) next r last → Reads done file r last

-- What one call takes of the bytes that a reader has left, where they are known: those that came,
-- from place `done` on. None is left at the end, where there was room for one, and a call that fails
-- takes none.
abbrev pub Takes : Option (List ℕ) → Option (List ℕ) → ℕ → Result ℕ Error → List ℕ → Type 0
Takes left rest done (Ok n) file =
    Consumes left rest (take n (drop done file)) × (n ≡ 0 → done < length file → IsAtEnd rest)
Takes left rest done (Err e) file = Keeps left rest

-- What all calls together take of them: what is read stands at the buffer's front, and none is left
-- where the buffer is not full; where reading failed, what was taken stands there too.
abbrev pub TakesAll : Option (List ℕ) → Option (List ℕ) → Result ℕ Error → List ℕ → Type 0
TakesAll left rest (Ok n) file = Consumes left rest (take n file) × (n < length file → IsAtEnd rest)
TakesAll left rest (Err e) file = (n : ℕ) × (n ≤ length file) × Consumes left rest (take n file)

-- No more is read than there is room for.
abbrev pub Fits : Result ℕ Error → List ℕ → Type 0
Fits (Ok n) file = n ≤ length file
Fits (Err e) file = Unit {0}
