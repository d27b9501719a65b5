-- The lists of rows of what is found.
use Rattle.std.specs.Prelude.{ℕ, ◌<◌, ◌^◌}
use Rattle.verdict.specs.Found.{Found, values_of}

-- The listed rows are rows of the table, which has so many.
pub record ListedRows (rows : ℕ) (found : Found) : Type 0 where
  pub never : (values_of found).never < 2 ^ rows
