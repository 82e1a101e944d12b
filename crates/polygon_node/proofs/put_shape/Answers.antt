-- `polygon_node::put_shape` meets its contract: the head, then the points. Assumes nothing.
use Rattle.polygon_node.proofs.ShapeLaws.{shape-put}
use Rattle.polygon_node.proofs.put_shape.Goals as goal

pub returns : goal.returns
returns g c =
    let a = c.args in
    shape-put a.converter.policy a.converter.d a.b.now a.places a.entry g.row.CODE g.row.TYPE_CODE c.put_shape_head-to.ensures c.put_points.ensures
