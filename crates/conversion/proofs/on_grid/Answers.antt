-- `conversion::on_grid` meets its contract: of two doubles of one sign the bits but the sign are compared; the steps are those of the function's attribute. Assumes nothing.
use Rattle.binary64.proofs.PartsLaws.{finite-no-nan}
use Rattle.binary64.proofs.NearestLaws.{int-no-nan}
use Rattle.conversion.proofs.on_grid.Goals as goal

pub float_to_bits-a : goal.float_to_bits-a
float_to_bits-a c = finite-no-nan c.args.s c.requires.s_finite

pub float_to_bits-b : goal.float_to_bits-b
float_to_bits-b c = int-no-nan _
