-- `put_body` meets its contract: each kind's function writes the body's bytes. Assumes nothing.
use native.Mathlib.Omega.{arith}
use Rattle.bodies.specs.code.Body.{body_length}
use Rattle.bodies.proofs.BodyLaws.{polygon-as, path-as, text-as, node-as, reference-as, box-as, room_of}
use Rattle.bodies.proofs.put_body.Goals as goal

pub put_polygon-requires : goal.put_polygon-requires
unfolding body_length
put_polygon-requires c =
    let r = room_of c.in-Polygon.is c.requires.body_in c.requires.body_in_bounds in
    record { shape_in = r.inside; succeeds = (polygon-as _ _ _ c.in-Polygon.is).accepts c.requires.succeeds; count_in_bounds = r.fits; spare = c.requires.spare }

pub put_path-requires : goal.put_path-requires
unfolding body_length
put_path-requires c =
    let r = room_of c.in-Path.is c.requires.body_in c.requires.body_in_bounds in
    record { path_in = r.inside; succeeds = (path-as _ _ _ c.in-Path.is).accepts c.requires.succeeds; path_in_bounds = r.fits; spare = c.requires.spare }

pub put_text-requires : goal.put_text-requires
unfolding body_length
put_text-requires c =
    let r = room_of c.in-Text.is c.requires.body_in c.requires.body_in_bounds in
    let fits = r.fits in
    let spare = c.requires.spare in
    record { text_in = r.inside; succeeds = (text-as _ _ _ c.in-Text.is).accepts c.requires.succeeds; spare = omega arith; text_in_bounds = omega arith }

pub put_node-requires : goal.put_node-requires
unfolding body_length
put_node-requires c =
    let r = room_of c.in-Node.is c.requires.body_in c.requires.body_in_bounds in
    record { shape_in = r.inside; succeeds = (node-as _ _ _ c.in-Node.is).accepts c.requires.succeeds; count_in_bounds = r.fits; spare = c.requires.spare }

pub put_reference-requires : goal.put_reference-requires
unfolding body_length
put_reference-requires c =
    let r = room_of c.in-Reference.is c.requires.body_in c.requires.body_in_bounds in
    let fits = r.fits in
    let spare = c.requires.spare in
    record { reference_in = r.inside; succeeds = (reference-as _ _ _ c.in-Reference.is).accepts c.requires.succeeds; spare = omega arith; reference_in_bounds = omega arith }

pub put_box-requires : goal.put_box-requires
unfolding body_length
put_box-requires c =
    let r = room_of c.in-Box.is c.requires.body_in c.requires.body_in_bounds in
    record { box_in = r.inside; succeeds = (box-as _ _ _ c.in-Box.is).accepts c.requires.succeeds; spare = c.requires.spare; box_length_in_bounds = r.fits }

pub returns-in-Polygon : goal.returns-in-Polygon
returns-in-Polygon c = (polygon-as _ _ _ c.in-Polygon.is).writes c.put_polygon.ensures

pub returns-in-Path : goal.returns-in-Path
returns-in-Path c = (path-as _ _ _ c.in-Path.is).writes c.put_path.ensures

pub returns-in-Text : goal.returns-in-Text
returns-in-Text c = (text-as _ _ _ c.in-Text.is).writes c.put_text.ensures

pub returns-in-Node : goal.returns-in-Node
returns-in-Node c = (node-as _ _ _ c.in-Node.is).writes c.put_node.ensures

pub returns-in-Reference : goal.returns-in-Reference
returns-in-Reference c = (reference-as _ _ _ c.in-Reference.is).writes c.put_reference.ensures

pub returns-in-Box : goal.returns-in-Box
returns-in-Box c = (box-as _ _ _ c.in-Box.is).writes c.put_box.ensures
