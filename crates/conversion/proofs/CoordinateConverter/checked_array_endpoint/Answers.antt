-- `CoordinateConverter::checked_array_endpoint` meets its contract: the sum and the product fit 64 bits, so that they are those of the whole numbers. Assumes nothing.
use mathlib.Core.Path.{◌≡◌, sym, ap, ◌∙◌}
use mathlib.Core.Bool.{true}
use lib.IntN.{ℤ}
use lib.Ieee.Scale.{finite}
use mir.Val.{SFits}
use mir.Syntax.{w32}
use mir.ValLaws.{to_z-of_z}
use Rattle.conversion.specs.Made.{made}
use Rattle.conversion.specs.Convert.{deviations}
use Rattle.conversion.proofs.CodeLaws.{outcome-on}
use Rattle.conversion.proofs.AnswerLaws.{endpoint-infinite, endpoint-refused, endpoint-made}
use Rattle.conversion.proofs.SignedLaws.{product-read, sum_read, sum_is}
use borrow.Author.Rules.{rules}
use Rattle.conversion.proofs.CoordinateConverter.checked_array_endpoint.Goals as goal

pub returns-then-not-is_finite : goal.returns-then-not-is_finite
returns-then-not-is_finite c =
    let a = c.args in
    λ at. endpoint-infinite a.self.d at a.origin a.spacing a.count a.p (sym c.is_finite.ensures ∙ c.if-not-is_finite.true)

pub overflow_mul-z : goal.overflow_mul-z
overflow_mul-z c = product-read c.args.origin c.args.spacing c.args.count c.ranges.origin c.ranges.spacing c.ranges.count

pub overflow_add-z : goal.overflow_add-z
overflow_add-z c = sum_read c.args.origin c.args.spacing c.args.count c.ranges.origin c.ranges.spacing c.ranges.count

pub returns-in_err-value : goal.returns-in_err-value
returns-in_err-value c =
    let is_finite : finite c.args.p ≡ true = sym c.is_finite.ensures ∙ c.if-not-is_finite.false in
    let a = c.args in
    let r = c.in_err-value.field-0.0 in
    let e = sum_is a.origin a.spacing a.count c.ranges.origin c.ranges.spacing c.ranges.count in
    λ at. outcome-on r at c.from_residual.result c.from_residual.ensures.1
    ∙ endpoint-refused a.self.d at a.origin a.spacing a.count a.p is_finite _ e r c.in_err-value.ensures

pub returns : goal.returns
returns c =
    let is_finite : finite c.args.p ≡ true = sym c.is_finite.ensures ∙ c.if-not-is_finite.false in
    let a = c.args in
    let q = c.in_ok-value.value in
    let f : SFits w32 q = search rules in
    let e = sum_is a.origin a.spacing a.count c.ranges.origin c.ranges.spacing c.ranges.count in
    λ at. c.quantization.ensures at ∙ ap (λ (z : ℤ). made z (deviations a.self.d at a.p z)) (to_z-of_z w32 q f)
    ∙ endpoint-made a.self.d at a.origin a.spacing a.count a.p is_finite _ e q c.in_ok-value.ensures
