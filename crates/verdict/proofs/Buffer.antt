-- A list that fits its buffer, written there. Assumes nothing.
use Prim.Native.Nat.{ℕ, ◌≤◌}
use mathlib.Core.List.{List, ◌++◌}
use mathlib.Core.Path.{◌≡◌, sym}
use lib.ListN.{length, take, drop}
use lib.Seq.{length_front, length-take-le, take_all, take-append_seam}
use Rattle.verdict.specs.Buffer.{written}

module _ (list buffer : List ℕ) (fits : length list ≤ length buffer) where
  pub written_fits : written list buffer ≡ list ++ drop (length list) buffer
  written_fits = rw (take_all (length buffer) list fits)

  pub written_front : take (length list) (written list buffer) ≡ list
  written_front = rw written_fits (take-append_seam list (drop (length list) buffer))

  pub written_length : length (written list buffer) ≡ length buffer
  written_length = rw written_fits (length_front buffer list (length list)
      (sym (length-take-le (length list) buffer fits)))
