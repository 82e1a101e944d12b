-- `test_arithmetic::double_of` meets its contract. Assumes nothing.
use Rattle.std.proofs.Common.{sym, ap, ◌∙◌}
use Rattle.binary64.proofs.Bits.{zero_by_zero}
use Rattle.test_arithmetic.specs.Case.{double_of}
use Rattle.test_arithmetic.proofs.double_of.Goals as goal

pub returns-in-NotFinite : goal.returns-in-NotFinite
returns-in-NotFinite c = zero_by_zero ∙ sym (ap (double_of c.args.x) c.in-NotFinite.is)
