-- `reference::convert_reference` meets its contract: the transform, and then the conversions. Assumes nothing.
use Rattle.block_places.specs.code.Places.{reference_at}
use Rattle.steps.proofs.StepLaws.{handed}
use Rattle.reference.specs.code.Reference.{after_checks, GivesReference}
use Rattle.reference.proofs.ValueLaws.{transform-stops, transform-goes-on}
use Rattle.reference.proofs.convert_reference.Goals as goal

pub returns-in_err-strans : goal.returns-in_err-strans
returns-in_err-strans c =
    let a = c.args in
    let g = a.converter in
    let r = c.in_err-strans.field-0.0 in
    handed (GivesReference a.b.now a.s a.entry (after_checks g.policy g.d (reference_at a.b.now a.s))) r c.from_residual.result c.from_residual.ensures.1
    (transform-stops g.policy g.d a.b.now a.s a.entry r c.in_err-strans.ensures)

pub returns : goal.returns
returns c =
    let a = c.args in
    let r = c.place_reference in
    transform-goes-on a.converter.policy a.converter.d a.b.now a.s a.entry c.in_ok-strans.strans c.in_ok-strans.ensures r.result r.ensures
