-- `bodies::measure_body` meets its contract: in each arm what its kind promises.
-- Assumes nothing.
use Rattle.bodies.proofs.BodyLaws.{polygon-as, path-as, text-as, node-as, reference-as, box-as}
use Rattle.bodies.proofs.measure_body.Goals as goal

pub returns-in-Polygon : goal.returns-in-Polygon
returns-in-Polygon c = (polygon-as _ _ _ c.in-Polygon.is).measures _ _ c.measure_polygon.ensures

pub returns-in-Path : goal.returns-in-Path
returns-in-Path c = (path-as _ _ _ c.in-Path.is).measures _ _ c.measure_path.ensures

pub returns-in-Text : goal.returns-in-Text
returns-in-Text c = (text-as _ _ _ c.in-Text.is).measures _ _ c.measure_text.ensures

pub returns-in-Node : goal.returns-in-Node
returns-in-Node c = (node-as _ _ _ c.in-Node.is).measures _ _ c.measure_node.ensures

pub returns-in-Reference : goal.returns-in-Reference
returns-in-Reference c = (reference-as _ _ _ c.in-Reference.is).measures _ _ c.measure_reference.ensures

pub returns-in-Box : goal.returns-in-Box
returns-in-Box c = (box-as _ _ _ c.in-Box.is).measures _ _ c.measure_box.ensures
