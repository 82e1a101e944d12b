-- `convert_lengths` meets its contract. Assumes nothing.
use Rattle.block_places.specs.code.Places.{path_at}
use Rattle.steps.proofs.StepLaws.{handed}
use Rattle.path.specs.code.Front.{write_extent, GivesExtent}
use Rattle.path.proofs.FrontLaws.{width-stops, begin-stops, end-stops, all_there}
use Rattle.path.proofs.convert_lengths.Goals as goal

pub returns-in_err-width : goal.returns-in_err-width
unfolding path_at
returns-in_err-width c =
    let a = c.args in
    let p = path_at a.b.now a.path in
    let r = c.in_err-width.field-0.0 in
    handed (GivesExtent p a.entry (write_extent a.converter.policy a.converter.d p)) r c.from_residual.result c.from_residual.ensures.1
    (width-stops a.converter.policy a.converter.d p a.entry r c.in_err-width.ensures)

pub returns-in_err-begin : goal.returns-in_err-begin
unfolding path_at
returns-in_err-begin c =
    let a = c.args in
    let p = path_at a.b.now a.path in
    let r = c.in_err-begin.field-0.0 in
    handed (GivesExtent p a.entry (write_extent a.converter.policy a.converter.d p)) r c.from_residual-in_err-begin.result c.from_residual-in_err-begin.ensures.1
    (begin-stops a.converter.policy a.converter.d p a.entry c.in_ok-width.width c.in_ok-width.ensures r c.in_err-begin.ensures)

pub returns-in_err-end : goal.returns-in_err-end
unfolding path_at
returns-in_err-end c =
    let a = c.args in
    let p = path_at a.b.now a.path in
    let r = c.in_err-end.field-0.0 in
    handed (GivesExtent p a.entry (write_extent a.converter.policy a.converter.d p)) r c.from_residual-in_err-end.result c.from_residual-in_err-end.ensures.1
    (end-stops a.converter.policy a.converter.d p a.entry c.in_ok-width.width c.in_ok-width.ensures c.in_ok-begin.begin c.in_ok-begin.ensures r c.in_err-end.ensures)

pub returns : goal.returns
unfolding path_at
returns c =
    let a = c.args in
    all_there a.converter.policy a.converter.d (path_at a.b.now a.path) a.entry c.in_ok-width.width c.in_ok-width.ensures c.in_ok-begin.begin c.in_ok-begin.ensures c.in_ok-end.end c.in_ok-end.ensures
