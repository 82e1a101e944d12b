-- `test_report::differ` meets its contract. Assumes nothing.
use Rattle.std.proofs.Common.{arith, add-one}
use Rattle.test_report.specs.Cases.Differ.{none, more}
use Rattle.test_report.proofs.DifferingLaws.{few}
use Rattle.test_report.proofs.differ.Goals as goal

pub loop-k-init : goal.loop-k-init
loop-k-init g c = none

pub tell_case-found-requires : goal.tell_case-found-requires
tell_case-found-requires g c = let h = few c.loop-k.invariant in omega arith

pub loop-k-preserved : goal.loop-k-preserved
loop-k-preserved g c = rw (c.tell_case-found.ensures, add-one) (more c.agrees.result c.agrees.ensures c.loop-k.invariant)
