-- `polygon_node::put_polygon` meets its contract: a polygon that succeeds is its points. Assumes nothing.
use mathlib.Core.Path.{sym}
use Rattle.steps.proofs.StepLaws.{same_step}
use Rattle.polygon_node.proofs.PolygonLaws.{polygon-ready}
use Rattle.polygon_node.proofs.put_polygon.Goals as goal

pub put_shape-requires : goal.put_shape-requires
put_shape-requires c =
    let a = c.args in
    let p = c.requires in
    let ready = polygon-ready a.converter.policy a.converter.d a.b.now a.places p.succeeds in
    record { shape_in = p.shape_in; count_le_max_points = ready.counted; succeeds = ready.points; count_in_bounds = p.count_in_bounds; spare = p.spare }

pub returns : goal.returns
returns c =
    let a = c.args in
    same_step (sym (polygon-ready a.converter.policy a.converter.d a.b.now a.places c.requires.succeeds).is) c.put_shape.ensures
