-- The checks, then the points. Assumes nothing.
use Rattle.std.proofs.lemmas.Result.{err_from_is_err_and}
use Rattle.boxes.proofs.BoxLaws.{checks-stop, checks-pass}
use Rattle.boxes.proofs.box_values.Goals as goal

pub returns-in_err-check_layer_and_type : goal.returns-in_err-check_layer_and_type
returns-in_err-check_layer_and_type c =
    let a = c.args in
    let e = err_from_is_err_and c.from_residual.result c.from_residual.ensures.1 in
    rw (e.1, e.2) (checks-stop a.converter.policy a.converter.d a.b.now a.places a.entry _ c.in_err-check_layer_and_type.ensures)

pub returns : goal.returns
returns c =
    let a = c.args in
    checks-pass a.converter.policy a.converter.d a.b.now a.places a.entry c.in_ok-check_layer_and_type.ensures
    _ (c.count_points.ensures a.converter.policy a.converter.d _ _ c.convert_corners.ensures)
