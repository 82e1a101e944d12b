-- The loop's invariant of `test_report::differ`: the cases below k are told.
use Rattle.test_report.specs.Cases.{Differ}
use Rattle.test_report.proofs.differ.Given as goal

abbrev pub invariant-loop-k : goal.invariant-loop-k
invariant-loop-k g l = Differ (goal.F-post g l.agrees) l.k l.found
