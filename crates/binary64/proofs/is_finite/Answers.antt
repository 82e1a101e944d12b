-- `binary64::is_finite` meets its contract, by the laws of `Finite`. Assumes nothing.
use mathlib.Core.Path.{◌∙◌}
use Rattle.binary64.proofs.Finite.{finite-below, finite-not}
use Rattle.binary64.proofs.is_finite.Goals as goal

pub returns-then-x : goal.returns-then-x
returns-then-x c = finite-below c.args.x c.if-x.true

pub returns-else-x : goal.returns-else-x
returns-else-x c = c.if-x.false ∙ finite-not c.args.x c.if-x.false
