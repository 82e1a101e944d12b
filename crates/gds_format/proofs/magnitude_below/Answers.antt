-- `gds_format::magnitude_below` meets its contract, by the law of `Magnitude`. Assumes nothing.
use mathlib.Core.Path.{sym, ap, ◌∙◌, subst}
use mathlib.Core.Bool.{Bool, false, cond}
use lib.Dec.{T}
use lib.Ieee.{lt}
use Rattle.gds_format.proofs.Magnitude as Magnitude
use Rattle.gds_format.proofs.magnitude_below.Goals as goal

pub returns-then-limit-x : goal.returns-then-limit-x
returns-then-limit-x c = sym (ap (λ (b : Bool). cond b (lt c.args.x c.args.limit) false) c.if-limit-x.true) ∙ Magnitude.magnitude-below c.args.x c.args.limit (subst T (sym c.well_formed.0.1) tt) (subst T (sym c.well_formed.1.0.1) tt) c.requires.x_finite c.requires.limit_finite c.requires.limit_positive

pub returns-else-limit-x : goal.returns-else-limit-x
returns-else-limit-x c = c.if-limit-x.false ∙ sym (ap (λ (b : Bool). cond b (lt c.args.x c.args.limit) false) c.if-limit-x.false) ∙ Magnitude.magnitude-below c.args.x c.args.limit (subst T (sym c.well_formed.0.1) tt) (subst T (sym c.well_formed.1.0.1) tt) c.requires.x_finite c.requires.limit_finite c.requires.limit_positive
