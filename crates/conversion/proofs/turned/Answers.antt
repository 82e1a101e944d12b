-- `conversion::turned` meets its contract. Assumes nothing.
use mathlib.Core.Path.{ap₂}
use lib.Ieee.{Float}
use Rattle.conversion.specs.Array.{turned}
use Rattle.conversion.proofs.turned.Goals as goal

pub returns : goal.returns
unfolding turned
returns c = ap₂ (λ (x y : Float). record { x = x; y = y }) c.mul_add.ensures c.mul_add-2.ensures
