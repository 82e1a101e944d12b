-- The definitions give every library its known answer: number, cell and block; or length, entry count, greatest error, file and report. Computed. Assumes nothing.
use lib.Dec.{T}
use Rattle.cases.specs.Case.{halved}
use Rattle.cases.specs.LibraryCase.{pass_libraries}
use Rattle.cases.specs.Libraries.{libraries}
use Rattle.cases.proofs.Open.{opened}

pub libraries-pass : T (pass_libraries libraries)
unfolding opened halved libraries
libraries-pass = tt
