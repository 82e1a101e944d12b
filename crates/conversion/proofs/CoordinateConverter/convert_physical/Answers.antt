-- `CoordinateConverter::convert_physical` meets its contract: the database value, and then its deviation. Assumes nothing.
use mathlib.Core.Path.{◌≡◌, sym, ap, ◌∙◌}
use mathlib.Core.Bool.{true}
use lib.Ieee.{binary64, div}
use lib.Ieee.Scale.{finite}
use mir.Val.{SFits}
use mir.Syntax.{w32}
use mir.ValLaws.{to_z-of_z}
use lib.IntN.{ℤ}
use Rattle.conversion.specs.Made.{made}
use Rattle.conversion.specs.Convert.{deviations}
use Rattle.conversion.proofs.CodeLaws.{outcome-on}
use Rattle.conversion.proofs.AnswerLaws.{value-finite, value-infinite, physical-refused, physical-made}
use borrow.Author.Rules.{rules}
use Rattle.conversion.proofs.CoordinateConverter.convert_physical.Goals as goal

pub returns-then-not-is_finite : goal.returns-then-not-is_finite
returns-then-not-is_finite c =
    let a = c.args in
    λ at. physical-refused a.self.policy a.self.d a.p at _ (value-infinite a.self.policy a.self.d a.p (sym c.is_finite.ensures ∙ c.if-not-is_finite.true))

pub returns-in_err-value : goal.returns-in_err-value
returns-in_err-value c =
    let is_finite : finite (div binary64 c.args.p c.args.self.d) ≡ true = sym c.is_finite.ensures ∙ c.if-not-is_finite.false in
    let a = c.args in
    let r = c.in_err-value.field-0.0 in
    λ at. outcome-on r at c.from_residual.result c.from_residual.ensures.1
    ∙ physical-refused a.self.policy a.self.d a.p at r (c.in_err-value.ensures ∙ value-finite a.self.policy a.self.d a.p is_finite)

pub returns : goal.returns
returns c =
    let is_finite : finite (div binary64 c.args.p c.args.self.d) ≡ true = sym c.is_finite.ensures ∙ c.if-not-is_finite.false in
    let a = c.args in
    let q = c.in_ok-value.value in
    let f : SFits w32 q = search rules in
    λ at. c.quantization.ensures at ∙ ap (λ (z : ℤ). made z (deviations a.self.d at a.p z)) (to_z-of_z w32 q f)
    ∙ physical-made a.self.policy a.self.d a.p at q (c.in_ok-value.ensures ∙ value-finite a.self.policy a.self.d a.p is_finite)
