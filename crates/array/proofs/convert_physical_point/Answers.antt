-- `array::convert_physical_point` meets its contract, by the conversions of both coordinates, of which x's may stop before y is asked. Assumes nothing.
use Rattle.conversion.specs.code.Answer.{point_of}
use Rattle.conversion.specs.Array.{write_physical}
use Rattle.conversion.specs.Field.{x_axis, y_axis}
use Rattle.conversion.specs.Points.{spot}
use Rattle.steps.proofs.StepLaws.{handed}
use Rattle.array.specs.code.Corners.{GivesArrayPoint}
use Rattle.array.proofs.CoordinateLaws.{physical-x-stops, physical-y-stops, point-stops, point-made}
use Rattle.array.proofs.convert_physical_point.Goals as goal

pub returns-in_err-x : goal.returns-in_err-x
returns-in_err-x c =
    let a = c.args in
    let g = a.converter in
    let p = point_of a.p in
    let r = c.in_err-x.field-0.0 in
    handed (GivesArrayPoint a.entry p (write_physical g.policy g.d a.field p)) r c.from_residual.result c.from_residual.ensures.1
    (physical-x-stops g.policy g.d a.field p a.entry r (c.in_err-x.ensures (spot a.field x_axis 0)))

pub returns-in_err-y : goal.returns-in_err-y
returns-in_err-y c =
    let a = c.args in
    let g = a.converter in
    let p = point_of a.p in
    let r = c.in_err-y.field-0.0 in
    handed (GivesArrayPoint a.entry p (write_physical g.policy g.d a.field p)) r c.from_residual-in_err-y.result c.from_residual-in_err-y.ensures.1
    (physical-y-stops g.policy g.d a.field p a.entry r c.in_ok-x.x (c.in_ok-x.ensures (spot a.field x_axis 0)) (c.in_err-y.ensures (spot a.field y_axis 0)))

pub returns-in_err-database : goal.returns-in_err-database
returns-in_err-database c =
    let a = c.args in
    let g = a.converter in
    let p = point_of a.p in
    let r = c.in_err-database.field-0.0 in
    handed (GivesArrayPoint a.entry p (write_physical g.policy g.d a.field p)) r c.from_residual-in_err-database.result c.from_residual-in_err-database.ensures.1
    (point-stops g.policy g.d a.field p a.entry _ _ c.in_ok-x.ensures c.in_ok-y.ensures r c.in_err-database.ensures)

pub returns : goal.returns
returns c =
    let a = c.args in
    point-made a.converter.policy a.converter.d a.field (point_of a.p) a.entry _ _ c.in_ok-x.ensures c.in_ok-y.ensures c.in_ok-database.database c.in_ok-database.ensures
