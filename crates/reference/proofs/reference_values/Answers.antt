-- `reference::reference_values` meets its contract: the checks, and then what follows them. Assumes nothing.
use Rattle.cell.specs.Write.{write_reference}
use Rattle.block_places.specs.code.Places.{reference_at}
use Rattle.steps.proofs.StepLaws.{handed}
use Rattle.reference.specs.code.Reference.{GivesReference}
use Rattle.reference.proofs.ValueLaws.{checks-stop, checks-pass}
use Rattle.reference.proofs.reference_values.Goals as goal

pub returns-in_err-check_reference : goal.returns-in_err-check_reference
returns-in_err-check_reference c =
    let a = c.args in
    let g = a.converter in
    let r = c.in_err-check_reference.field-0.0 in
    handed (GivesReference a.b.now a.s a.entry (write_reference g.policy g.d (reference_at a.b.now a.s))) r c.from_residual.result c.from_residual.ensures.1
    (checks-stop g.policy g.d a.b.now a.s a.entry r c.in_err-check_reference.ensures.is)

pub returns : goal.returns
returns c =
    let a = c.args in
    let r = c.convert_reference in
    checks-pass a.converter.policy a.converter.d a.b.now a.s a.entry c.in_ok-check_reference.ensures.is r.result r.ensures
