-- `path::convert_front` meets its contract: the checks, then the lengths. Assumes nothing.
use Rattle.block_places.specs.code.Places.{path_at}
use Rattle.points.proofs.WalkLaws.{length_from}
use Rattle.steps.proofs.StepLaws.{handed}
use Rattle.path.specs.code.Front.{write_front, GivesExtent}
use Rattle.path.proofs.FrontLaws.{checks-stop, checks-pass}
use Rattle.path.proofs.convert_front.Goals as goal

pub returns-in_err-check_shape : goal.returns-in_err-check_shape
unfolding path_at
returns-in_err-check_shape c =
    let a = c.args in
    let p = path_at a.b.now a.path in
    let r = c.in_err-check_shape.field-0.0 in
    handed (GivesExtent p a.entry (write_front a.converter.policy a.converter.d p)) r c.from_residual.result c.from_residual.ensures.1
    (checks-stop a.converter.policy a.converter.d p a.entry r
    (rw (length_from a.path.points.count a.b.now a.path.points.place) c.in_err-check_shape.ensures))

pub returns : goal.returns
unfolding path_at
returns c =
    let a = c.args in
    let p = path_at a.b.now a.path in
    checks-pass a.converter.policy a.converter.d p a.entry c.convert_lengths.result (rw (length_from a.path.points.count a.b.now a.path.points.place) c.in_ok-check_shape.ensures) c.convert_lengths.ensures
