-- `binary64::to_bits` meets its contract. Assumes nothing.
use mathlib.Core.Path.{sym, ◌∙◌}
use Rattle.binary64.proofs.Bits.{nan-bits}
use Rattle.binary64.proofs.to_bits.Goals as goal

pub returns-then-is_nan : goal.returns-then-is_nan
returns-then-is_nan c = nan-bits c.args.x (sym c.is_nan.ensures.value ∙ c.if-is_nan.true)
