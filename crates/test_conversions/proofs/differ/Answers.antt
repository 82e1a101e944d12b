-- `test_conversions::differ` meets its contract. Assumes nothing.
use Rattle.std.proofs.Common.{rules}
use Rattle.test_report.proofs.DifferingLaws.{by_answers}
use Rattle.test_conversions.specs.Case.{agrees}
use Rattle.test_conversions.proofs.differ.Goals as goal

pub returns : goal.returns
returns c = by_answers (agrees c.args.cases.now) (λ k b l p. search rules) c.differ.ensures
