-- `points::measure_rest` meets its contract. What is left to convert, run from the entry reached, stays what the whole was. Assumes nothing.
use mathlib.Core.Path.{◌≡◌, sym, ◌∙◌}
use Prim.Native.Nat.{◌+◌, ◌≤◌}
use native.Mathlib.Omega.{arith}
use Rattle.std.specs.Prelude.{Ok, Err}
use Rattle.conversion.specs.code.Answer.{grid_point_of}
use Rattle.conversion.specs.code.Fold.{run}
use Rattle.conversion.specs.Points.{write_point, write_points}
use Rattle.block_places.specs.code.Place.{point_at}
use Rattle.steps.proofs.StepLaws.{handed}
use Rattle.coordinate.specs.code.Coordinate.{GivesPoint}
use Rattle.coordinate.proofs.ValueLaws.{point-recorded, point-plain}
use Rattle.points.specs.code.Walk.{through}
use Rattle.points.specs.code.Integers.{count_of, points_in}
use Rattle.points.proofs.PassingLaws.{rest-first}
use Rattle.points.proofs.WalkLaws.{same-pointed, go_on, go-stop, go-end}
use Rattle.points.proofs.measure_rest.Goals.{in-Some, in_default+in_ok-pointed}
use Rattle.points.proofs.measure_rest.Goals as goal

pub returns-in_err-pointed : goal.returns-in_err-pointed
unfolding point_at
returns-in_err-pointed c =
    let a = c.args in
    let l = c.loop-i in
    let x = c.convert_at-cx in
    let y = c.convert_at-cy in
    let f = grid_point_of a.first.point in
    let r = c.in_err-pointed.field-0.0 in
    let h = point-recorded a.converter.policy a.converter.d (point_at a.rest.now l.at) x.result y.result x.ensures y.ensures 0 l.i l.entry (Err r) c.in_err-pointed.ensures in
    handed (λ w. w ≡ run Err a.first.entry (write_points a.converter.policy a.converter.d a.from (points_in a.rest.now)) (through f f)) r c.from_residual.result c.from_residual.ensures.1
    (sym (rest-first a.converter.policy a.converter.d a.from (count_of a.rest.now) a.rest.now 0 Err a.first.entry (through f f)
    ∙ l.invariant.rest
    ∙ go-stop Err a.converter.policy a.converter.d (a.from + (count_of a.rest.now)) l.i a.rest.now l.at l.entry (through f (grid_point_of l.last)) c.loop-i-test.true r h))

pub loop-i-preserved : goal.loop-i-preserved
unfolding through point_at
loop-i-preserved c =
    let a = c.args in
    let l = c.loop-i in
    let v = l.invariant in
    let m = c.match-plain_point in
    let x = c.convert_at-cx in
    let y = c.convert_at-cy in
    let p = point_at a.rest.now l.at in
    let t : GivesPoint l.entry (write_point a.converter.policy a.converter.d 0 l.i p) (Ok (record { point = m.last; entry = m.entry })) =
    elim m.branch [
      | in-Some w ↦ same-pointed _ m.last m.entry (point-plain a.converter.policy a.converter.d p x.result y.result x.ensures y.ensures 0 l.i l.entry w.in-Some.point w.in-Some.ensures) w.last-is w.entry-is
      | in_default+in_ok-pointed w ↦
          same-pointed w.in_ok-pointed.pointed m.last m.entry (point-recorded a.converter.policy a.converter.d p x.result y.result x.ensures y.ensures 0 l.i l.entry _ w.in_ok-pointed.ensures) w.last-is w.entry-is
    ] in
    let k : m.entry.count ≤ l.entry.count + 2 = t.grown in
    record {
      place = omega arith;
      spare = omega arith;
      rest = v.rest
          ∙ go_on Err a.converter.policy a.converter.d (a.from + (count_of a.rest.now)) l.i a.rest.now l.at l.entry (through (grid_point_of a.first.point) (grid_point_of l.last)) c.loop-i-test.true _ t;
    }

pub returns : goal.returns
unfolding through
returns c =
    let a = c.args in
    let l = c.loop-i in
    let f = grid_point_of a.first.point in
    sym (rest-first a.converter.policy a.converter.d a.from (count_of a.rest.now) a.rest.now 0 Err a.first.entry (through f f)
    ∙ l.invariant.rest
    ∙ go-end Err a.converter.policy a.converter.d (a.from + (count_of a.rest.now)) l.i a.rest.now l.at l.entry (through f (grid_point_of l.last)) c.loop-i-test.false)
