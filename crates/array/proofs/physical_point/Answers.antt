-- `array::physical_point` meets its contract: x, and then y. Assumes nothing.
use mathlib.Core.Path.{◌≡◌, ap, ◌∙◌}
use Rattle.conversion.specs.Array.{physical_point}
use Rattle.conversion.specs.Convert.{physical_value}
use Rattle.block_places.specs.code.Place.{point_at}
use Rattle.steps.proofs.StepLaws.{handed}
use Rattle.array.specs.code.Corners.{physicals_of}
use Rattle.array.proofs.CoordinateLaws.{physical-x-refused, physical-y-refused, physical-both}
use Rattle.array.proofs.physical_point.Goals as goal

pub returns-in_err-x : goal.returns-in_err-x
unfolding point_at
returns-in_err-x c =
    let p = point_at c.args.b.now c.args.at in
    let r = c.in_err-x.field-0.0 in
    handed (λ w. physicals_of w ≡ physical_point p) r c.from_residual.result c.from_residual.ensures.1 (physical-x-refused p r (c.in_err-x.ensures ∙ ap physical_value c.unit_at.ensures))

pub returns-in_err-y : goal.returns-in_err-y
unfolding point_at
returns-in_err-y c =
    let p = point_at c.args.b.now c.args.at in
    let r = c.in_err-y.field-0.0 in
    let w = c.from_residual-in_err-y in
    handed (λ w. physicals_of w ≡ physical_point p) r w.result w.ensures.1
    (physical-y-refused p c.in_ok-x.x (c.in_ok-x.ensures ∙ ap physical_value c.unit_at.ensures) r (c.in_err-y.ensures ∙ ap physical_value c.unit_at-2.ensures))

pub returns : goal.returns
unfolding point_at
returns c =
    let p = point_at c.args.b.now c.args.at in
    physical-both p c.in_ok-x.x (c.in_ok-x.ensures ∙ ap physical_value c.unit_at.ensures) c.in_ok-y.y (c.in_ok-y.ensures ∙ ap physical_value c.unit_at-2.ensures)
