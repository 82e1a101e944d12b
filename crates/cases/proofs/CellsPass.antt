-- The definitions give every cell its known answer: number and block; or length, entry count, greatest error, stream and report. Computed. Assumes nothing.
use lib.Dec.{T}
use Rattle.cases.specs.Case.{halved, pass_all}
use Rattle.cases.specs.Cells.{cells}
use Rattle.cases.proofs.Open.{opened}

pub cells-pass : T (pass_all cells)
unfolding opened halved cells
cells-pass = tt
