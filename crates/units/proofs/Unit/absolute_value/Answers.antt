-- `Unit::absolute_value` meets its contract, in each arm by the coordinate that stands there. Assumes nothing.
use mathlib.Core.Path.{sym, ap, ◌∙◌}
use lib.IntN.{ℤ}
use lib.Ieee.{binary64, of_int, mul}
use mir.Val.{SFits}
use mir.Syntax.{w32}
use mir.ValLaws.{to_z-of_z}
use Rattle.units.specs.Physical.{physical}
use borrow.Author.Rules.{rules}
use Rattle.units.proofs.Unit.absolute_value.Goals as goal

pub returns-in-Integer : goal.returns-in-Integer
unfolding physical
returns-in-Integer c =
    let f : SFits w32 c.in-Integer.value = search rules in
    ap (λ (y : ℤ). mul binary64 (of_int binary64 y) c.in-Integer.units) (to_z-of_z w32 c.in-Integer.value f) ∙ sym (ap physical c.in-Integer.is)

pub returns-in-Float : goal.returns-in-Float
unfolding physical
returns-in-Float c = sym (ap physical c.in-Float.is)
