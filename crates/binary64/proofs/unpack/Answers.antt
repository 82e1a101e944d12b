-- `binary64::unpack` meets its contract, by the laws of `PartsLaws`. Assumes nothing.
use mathlib.Core.Path.{sym, subst}
use lib.Dec.{T}
use lib.Ieee.{binary64, fits}
use Rattle.binary64.proofs.PartsLaws.{finite-no-nan, parts-zero, parts-suc}
use Rattle.binary64.proofs.unpack.Goals as goal

-- what owning an `f64` tells: the format holds it
held : (c : goal.Start) → T (fits binary64 c.args.x)
held c = subst T (sym c.well_formed.0.1) tt

pub float_to_bits-bits : goal.float_to_bits-bits
float_to_bits-bits c = finite-no-nan c.args.x c.requires

pub returns-then-field-eq0 : goal.returns-then-field-eq0
returns-then-field-eq0 c = parts-zero c.args.x (held c.before) c.requires c.if-field-eq0.true

pub returns-else-field-eq0 : goal.returns-else-field-eq0
returns-else-field-eq0 c = parts-suc c.args.x (held c.before) c.requires c.if-field-eq0.false
