-- `coordinate::convert_point` meets its contract, by the conversions of both coordinates. Assumes nothing.
use Rattle.block_places.specs.code.Place.{point_at}
use Rattle.coordinate.proofs.ValueLaws.{point-recorded}
use Rattle.coordinate.proofs.convert_point.Goals as goal

pub returns : goal.returns
unfolding point_at
returns c =
    let a = c.args in
    let x = c.convert_at-cx in
    let y = c.convert_at-cy in
    let r = c.record_point in
    point-recorded a.converter.policy a.converter.d (point_at a.b.now a.at) x.result y.result x.ensures y.ensures a.field a.place a.entry r.result r.ensures
