-- `polygon_node::measure_node` meets its contract. Assumes nothing.
use mathlib.Core.Path.{◌∙◌}
use Rattle.polygon_node.proofs.PolygonLaws.{node-measured}
use Rattle.polygon_node.proofs.measure_node.Goals as goal

pub returns : goal.returns
returns c =
    let a = c.args in
    let r = c.measure_shape-walked in
    c.with_length.ensures ∙ node-measured a.converter.policy a.converter.d a.b.now a.places a.entry r.result r.ensures
