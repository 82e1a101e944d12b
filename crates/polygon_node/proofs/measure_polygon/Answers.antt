-- `polygon_node::measure_polygon` meets its contract: the shape, then its ends. Assumes nothing.
use Rattle.std.proofs.lemmas.Result.{err_from_is_err_and}
use Rattle.polygon_node.proofs.PolygonLaws.{polygon-refused, polygon-measured, polygon-open}
use Rattle.polygon_node.proofs.measure_polygon.Goals as goal

pub returns-in_err-walked : goal.returns-in_err-walked
returns-in_err-walked c =
    let a = c.args in
    let e = err_from_is_err_and c.from_residual.result c.from_residual.ensures.1 in
    rw (e.1, e.2) (polygon-refused a.converter.policy a.converter.d a.b.now a.places a.entry _ c.in_err-walked.ensures)

pub returns-then-ne : goal.returns-then-ne
returns-then-ne c =
    let a = c.args in
    polygon-open a.converter.policy a.converter.d a.b.now a.places a.entry _ c.in_ok-walked.ensures c.if-ne.ensures

pub returns : goal.returns
returns c =
    let a = c.args in
    polygon-measured a.converter.policy a.converter.d a.b.now a.places a.entry _ c.in_ok-walked.ensures c.if-ne.ensures
