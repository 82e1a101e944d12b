-- `conversion::difference` meets its contract: it is the definition, with q as the machine reads it. Assumes nothing.
use mathlib.Core.Path.{ap}
use mir.Syntax.{w32}
use mir.ValLaws.{to_z-of_z}
use Rattle.conversion.specs.Convert.{difference}
use Rattle.conversion.proofs.difference.Goals as goal

pub returns : goal.returns
unfolding difference
returns c = let a = c.args in
    ap (difference a.d a.p) (to_z-of_z w32 a.q c.ranges.q)
