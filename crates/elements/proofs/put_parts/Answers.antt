-- `elements::put_parts` meets its contract: the body, then the tail where the body ended. Assumes nothing.
use Rattle.elements.proofs.PutLaws.{body-accepted, tail-accepted, tail-fits, parts-put}
use Rattle.elements.proofs.put_parts.Goals as goal

pub put_body-written-requires-clause-succeeds : goal.put_body-written-requires-clause-succeeds
put_body-written-requires-clause-succeeds c =
    let a = c.args in
    body-accepted a.converter.policy a.converter.d a.b.now a.body a.properties c.requires.succeeds

pub put_tail-requires-clause-succeeds : goal.put_tail-requires-clause-succeeds
put_tail-requires-clause-succeeds c =
    let a = c.args in
    tail-accepted a.converter.policy a.converter.d a.b.now a.body a.properties c.requires.succeeds

pub put_tail-requires-clause-place_in_bounds_2 : goal.put_tail-requires-clause-place_in_bounds_2
put_tail-requires-clause-place_in_bounds_2 c =
    let a = c.args in
    let p = c.requires in
    tail-fits a.converter.policy a.converter.d a.b.now a.body a.properties p.element_in a.part.now p.place_in_bounds a.entry c.put_body-written.ensures

pub returns : goal.returns
returns c =
    let a = c.args in
    let p = c.requires in
    parts-put a.converter.policy a.converter.d a.b.now a.body a.properties p.element_in a.part.now p.place_in_bounds a.entry c.put_body-written.ensures c.put_tail.ensures
