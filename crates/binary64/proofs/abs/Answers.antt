-- `binary64::abs` meets its contract, by the bits of x; a NaN is its own size. Assumes nothing.
use mathlib.Core.Path.{sym, ◌∙◌, subst}
use mathlib.Core.Bool.{not}
use lib.Dec.{T}
use lib.Ieee.{is_nan}
use Rattle.std.proofs.lemmas.Float.{T_from_false}
use Rattle.binary64.proofs.AbsLaws.{abs-bits, abs-pattern, abs-nan}
use Rattle.binary64.proofs.abs.Goals as goal

no_nan : (c : goal.Else-is_nan) → T (not (is_nan c.args.x))
no_nan c = T_from_false _ (sym c.is_nan.ensures.value ∙ c.if-is_nan.false)

pub float_from_bits-result : goal.float_from_bits-result
float_from_bits-result c = abs-pattern c.args.x (subst T (sym c.well_formed.0.1) tt) (no_nan c)

pub returns-then-is_nan : goal.returns-then-is_nan
returns-then-is_nan c = abs-nan c.args.x (sym c.is_nan.ensures.value ∙ c.if-is_nan.true)

pub returns-else-is_nan : goal.returns-else-is_nan
returns-else-is_nan c = abs-bits c.args.x (subst T (sym c.well_formed.0.1) tt) (no_nan c)
