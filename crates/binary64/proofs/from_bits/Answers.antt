-- `binary64::from_bits` meets its contract. A pattern above the infinity's, its sign taken off, is a NaN's. Assumes nothing.
use mathlib.Core.Path.{◌∙◌}
use Rattle.binary64.proofs.Bits.{nan_is, nan-above, nan-not-below}
use Rattle.binary64.proofs.from_bits.Goals as goal

pub float_from_bits-result : goal.float_from_bits-result
float_from_bits-result c = nan-not-below c.args.bits c.if-bits-gt-INFINITE.false

pub returns-then-bits-gt-INFINITE : goal.returns-then-bits-gt-INFINITE
returns-then-bits-gt-INFINITE c = nan_is ∙ nan-above c.args.bits c.if-bits-gt-INFINITE.true
