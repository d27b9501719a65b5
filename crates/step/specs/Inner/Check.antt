-- What the code's three checks share. The step rules of `Step` say what is right.
use Rattle.std.specs.Prelude.{ℕ, ◌+◌, Bool, ◌&&◌, cond, leb, ltb}
use Rattle.step.specs.declared.Check.{Check}
use Rattle.step.specs.declared.Check.TheVariants.{Done, Continue, Fail}

abbrev pub check_of : Bool → Bool → ℕ → ℕ → ℕ → Check
check_of end hold least most t =
    cond (end && leb least t) Done (cond (hold && ltb t most) (Continue (t + 1)) Fail)
