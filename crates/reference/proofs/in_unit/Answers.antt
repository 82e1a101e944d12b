-- `reference::in_unit` meets its contract. Assumes nothing.
use mathlib.Core.Path.{refl, ◌∙◌}
use lib.Ieee.{of_bits, neg}
use Rattle.reference.proofs.CheckLaws.{unit-from, unit-below}
use Rattle.reference.proofs.in_unit.Goals as goal

pub returns-then-x : goal.returns-then-x
unfolding of_bits neg
returns-then-x c =
    unit-from _ _ c.args.x refl refl c.if-x.true

pub returns-else-x : goal.returns-else-x
unfolding of_bits neg
returns-else-x c =
    c.if-x.false ∙ unit-below _ c.args.x refl c.if-x.false
