-- What a row did, and the same of several rows together.
use Rattle.std.specs.Prelude.{ℕ}
use Rattle.load.specs.declared.Figures.{Figures}

abbrev pub Totals : Type 0
Totals = Figures ℕ

abbrev pub Sums : Type 0
Sums = Figures ℕ
