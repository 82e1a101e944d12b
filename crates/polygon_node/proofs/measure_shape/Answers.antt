-- `polygon_node::measure_shape` meets its contract: the checks, then the points. Assumes nothing.
use mathlib.Core.Path.{◌∙◌}
use native.Mathlib.Omega.{arith}
use Rattle.std.proofs.lemmas.Result.{err_from_is_err_and}
use Rattle.validation.proofs.CheckLaws.{passed-within}
use Rattle.polygon_node.proofs.CheckLaws.{shape-stops, shape-goes-on}
use Rattle.polygon_node.proofs.measure_shape.Goals as goal

pub measure_points-requires : goal.measure_points-requires
measure_points-requires c =
    let a = c.args in
    let p = c.requires in
    let w = passed-within a.least a.places.points.count a.most a.places.layer a.places.datatype c.in_ok-check_shape.ensures in
    let le = p.le_least in
    let least = w.0 in
    let most = w.1 in
    let k = p.most_le_max_points in
    let spare = p.spare in
    record { count_in_bounds = p.shape_in.points-in; le_count = omega arith; count_le_max_points = omega arith; spare = omega arith }

pub returns-in_err-check_shape : goal.returns-in_err-check_shape
returns-in_err-check_shape c =
    let a = c.args in
    let e = err_from_is_err_and c.from_residual.result c.from_residual.ensures.1 in
    rw (e.1, e.2) (shape-stops a.converter.policy a.converter.d a.least a.most a.b.now a.places a.entry c.in_err-check_shape.field-0.0 c.in_err-check_shape.ensures)

pub returns : goal.returns
returns c =
    let a = c.args in
    c.measure_points.ensures ∙ shape-goes-on a.converter.policy a.converter.d a.least a.most a.b.now a.places a.entry c.in_ok-check_shape.ensures
