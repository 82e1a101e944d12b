-- `reference::place_reference` meets its contract: the origin, or the array. Assumes nothing.
use Rattle.block_places.specs.code.Places.{reference_at}
use Rattle.transform.specs.code.Strans.{said_of}
use Rattle.steps.proofs.StepLaws.{handed}
use Rattle.reference.specs.code.Reference.{after_transform, GivesReference}
use Rattle.reference.proofs.ValueLaws.{single-stops, single-made, array-stops, array_made}
use Rattle.reference.proofs.place_reference.Goals as goal

pub returns-in_err-origin : goal.returns-in_err-origin
returns-in_err-origin c =
    let a = c.args in
    let g = a.converter in
    let p = c.requires in
    let r = c.in_err-origin.field-0.0 in
    handed (GivesReference a.b.now a.s a.entry (after_transform g.policy g.d (reference_at a.b.now a.s) (said_of a.strans))) r c.from_residual.result c.from_residual.ensures.1
    (single-stops g.policy g.d a.b.now a.s a.strans a.entry p.bounded p.encodes (cc) r c.in_err-origin.ensures)

pub returns-then-is_single : goal.returns-then-is_single
returns-then-is_single c =
    let a = c.args in
    let p = c.requires in
    single-made a.converter.policy a.converter.d a.b.now a.s a.strans a.entry p.bounded p.encodes (cc) c.in_ok-origin.origin c.in_ok-origin.ensures

pub returns-in_err-array : goal.returns-in_err-array
returns-in_err-array c =
    let a = c.args in
    let g = a.converter in
    let p = c.requires in
    let r = c.in_err-array.field-0.0 in
    let w = c.from_residual-in_err-array in
    handed (GivesReference a.b.now a.s a.entry (after_transform g.policy g.d (reference_at a.b.now a.s) (said_of a.strans))) r w.result w.ensures.1
    (array-stops g.policy g.d a.b.now a.s a.strans a.entry p.bounded p.encodes (cc) r c.in_err-array.ensures)

pub returns : goal.returns
returns c =
    let a = c.args in
    let p = c.requires in
    array_made a.converter.policy a.converter.d a.b.now a.s a.strans a.entry p.bounded p.encodes (cc) c.in_ok-array.array c.in_ok-array.ensures
