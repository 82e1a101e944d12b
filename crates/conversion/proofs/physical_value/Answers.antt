-- `conversion::physical_value` meets its contract. Assumes nothing.
use mathlib.Core.Path.{◌≡◌, sym, ap, ◌∙◌}
use mathlib.Core.Bool.{true}
use lib.Ieee.Positive.{positive}
use Rattle.units.specs.Physical.{units_of}
use Rattle.conversion.proofs.AnswerLaws.{physical-source, physical-finite, physical-infinite}
use Rattle.conversion.proofs.physical_value.Goals as goal

pub returns-then-not-is_positive : goal.returns-then-not-is_positive
returns-then-not-is_positive c = physical-source c.args.u (ap positive (sym c.units.ensures) ∙ sym c.is_positive.ensures ∙ c.if-not-is_positive.true)

pub returns-then-is_finite : goal.returns-then-is_finite
returns-then-is_finite c =
    let is_positive : positive (units_of c.args.u) ≡ true = ap positive (sym c.units.ensures) ∙ sym c.is_positive.ensures ∙ c.if-not-is_positive.false in
    let v = c.absolute_value-p in
    physical-finite c.args.u is_positive v.result v.ensures (sym c.is_finite.ensures ∙ c.if-is_finite.true)

pub returns-else-is_finite : goal.returns-else-is_finite
returns-else-is_finite c =
    let is_positive : positive (units_of c.args.u) ≡ true = ap positive (sym c.units.ensures) ∙ sym c.is_positive.ensures ∙ c.if-not-is_positive.false in
    let v = c.absolute_value-p in
    physical-infinite c.args.u is_positive v.result v.ensures (sym c.is_finite.ensures ∙ c.if-is_finite.false)
