-- Document 01's starred rows and its example of the program, gathered under one proof: reals, one conversion and the array, and whole cells. Assumes nothing.
use mathlib.Core.Path.{◌≡◌}
use lib.Dec.{T}
use Rattle.gds_format.proofs.Rows as Reals
use Rattle.conversion.proofs.Rows as Conversions
use Rattle.cases.specs.Case.{halved, pass_all}
use Rattle.cases.specs.Cells.{rows}
use Rattle.cases.proofs.Open.{opened}

pub record Rows : Type 0 where
  pub reals : Reals.answers Reals.rows ≡ Reals.expectations Reals.rows
  pub conversions : T (Conversions.all_hold Conversions.rows)
  pub cells : T (pass_all rows)

pub rows-hold : Rows
unfolding opened halved rows
rows-hold = record { reals = Reals.rows-hold; conversions = Conversions.rows-hold; cells = tt }
