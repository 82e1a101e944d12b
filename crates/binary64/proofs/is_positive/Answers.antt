-- `binary64::is_positive` meets its contract, by the laws of `Finite`. Assumes nothing.
use mathlib.Core.Path.{◌∙◌}
use Rattle.binary64.proofs.Finite.{positive-below, positive-not}
use Rattle.binary64.proofs.is_positive.Goals as goal

pub returns-then-x : goal.returns-then-x
returns-then-x c = positive-below c.args.x c.if-x.true

pub returns-else-x : goal.returns-else-x
returns-else-x c = c.if-x.false ∙ positive-not c.args.x c.if-x.false
