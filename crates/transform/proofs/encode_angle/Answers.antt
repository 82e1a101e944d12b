-- Equal to 0, or encoded. Assumes nothing.
use mathlib.Core.Path.{◌∙◌}
use lib.Ieee.{of_bits}
use Rattle.cell.specs.Write.{write_angle}
use Rattle.transform.proofs.TransformLaws.{mapped}
use Rattle.transform.proofs.encode_angle.Goals as goal

pub returns-then-degrees : goal.returns-then-degrees
unfolding write_angle of_bits
returns-then-degrees c = rw c.if-degrees.true

pub returns : goal.returns
unfolding write_angle of_bits
returns c = rw c.if-degrees.false (mapped _ _ c.map.ensures.cases ∙ c.encode_real.ensures)
