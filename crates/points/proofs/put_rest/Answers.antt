-- `points::put_rest` meets its contract. What is left to convert and write, run from the entry and the place reached, stays what the whole was, and succeeds. Assumes nothing.
use mathlib.Core.Path.{◌∙◌}
use Prim.Native.Nat.{◌+◌, ◌-◌, ◌≤◌}
use native.Mathlib.Omega.{arith}
use Rattle.std.specs.Prelude.{Ok}
use Rattle.big_endian.proofs.BufferLaws.{length_at}
use Rattle.conversion.specs.code.Answer.{grid_point_of}
use Rattle.conversion.specs.Points.{write_point, write_points}
use Rattle.conversion.proofs.FoldLaws.{run-same}
use Rattle.stream.specs.Records.{points_bytes}
use Rattle.block_places.specs.code.Place.{point_at, points_from}
use Rattle.steps.proofs.StepLaws.{stopped, putting, writes}
use Rattle.coordinate.specs.code.Coordinate.{GivesPoint}
use Rattle.coordinate.proofs.ValueLaws.{point-recorded, point-plain}
use Rattle.points.specs.code.Integers.{count_of}
use Rattle.points.proofs.PassingLaws.{rest-first}
use Rattle.points.proofs.WalkLaws.{same-pointed, go_on, go-end, put-turn, put-end, never-pointed, first-succeeds}
use Rattle.points.proofs.put_rest.Goals.{in-Some, in_default+in-Ok}
use Rattle.points.proofs.put_rest.Goals as goal

-- no point is refused
pub returns-in_default-record_point : goal.returns-in_default-record_point
unfolding point_at
returns-in_default-record_point c =
    let a = c.args in
    let l = c.loop-i in
    let x = c.convert_at-cx in
    let y = c.convert_at-cy in
    let r = c.in_default-record_point in
    never-pointed (first-succeeds a.converter.policy a.converter.d (a.from + (count_of a.rest.now)) l.i a.rest.now l.at c.loop-i-test.true l.invariant.accepted).point
    (point-recorded a.converter.policy a.converter.d (point_at a.rest.now l.at) x.result y.result x.ensures y.ensures 0 l.i l.entry _ r.ensures)

pub loop-i-preserved : goal.loop-i-preserved
unfolding point_at
loop-i-preserved c =
    let a = c.args in
    let l = c.loop-i in
    let v = l.invariant in
    let m = c.match-plain_point in
    let x = c.convert_at-cx in
    let y = c.convert_at-cy in
    let p = point_at a.rest.now l.at in
    let t : GivesPoint l.entry (write_point a.converter.policy a.converter.d 0 l.i p) (Ok (record { point = m.point; entry = m.entry })) =
    elim m.branch [
      | in-Some w ↦ same-pointed _ m.point m.entry (point-plain a.converter.policy a.converter.d p x.result y.result x.ensures y.ensures 0 l.i l.entry w.in-Some.plain w.in-Some.ensures) w.point-is w.entry-is
      | in_default+in-Ok w ↦
          same-pointed w.in-Ok.pointed m.point m.entry (point-recorded a.converter.policy a.converter.d p x.result y.result x.ensures y.ensures 0 l.i l.entry _ w.in-Ok.ensures) w.point-is w.entry-is
    ] in
    let k : m.entry.count ≤ l.entry.count + 2 = t.grown in
    let w = c.put_point-to.ensures in
    let j = w.count in
    let h = c.loop-i-test.true in
    record {
      place = omega arith;
      count = omega arith;
      accepted = (first-succeeds a.converter.policy a.converter.d (a.from + (count_of a.rest.now)) l.i a.rest.now l.at h v.accepted).rest;
      long = length_at w ∙ v.long;
      spare = omega arith;
      rest = v.rest
          ∙ go_on stopped a.converter.policy a.converter.d (a.from + (count_of a.rest.now)) l.i a.rest.now l.at l.entry (putting points_bytes l.to l.out) h _ t
          ∙ run-same stopped m.entry (write_points a.converter.policy a.converter.d (l.i + 1) (points_from (a.from + (count_of a.rest.now) - (l.i + 1)) a.rest.now (l.at + 34))) _ _ (put-turn (grid_point_of m.point) w);
    }

pub returns : goal.returns
returns c =
    let a = c.args in
    let l = c.loop-i in
    let v = l.invariant in
    let j = v.count in
    let room = c.requires.count_in_bounds in
    writes points_bytes a.front.entry (write_points a.converter.policy a.converter.d a.from (points_from (count_of a.rest.now) a.rest.now 0)) a.front.to a.out.now l.out l.to l.entry
    (rest-first a.converter.policy a.converter.d a.from (count_of a.rest.now) a.rest.now 0 stopped a.front.entry (putting points_bytes a.front.to a.out.now)
    ∙ v.rest
    ∙ go-end stopped a.converter.policy a.converter.d (a.from + (count_of a.rest.now)) l.i a.rest.now l.at l.entry (putting points_bytes l.to l.out) c.loop-i-test.false
    ∙ put-end l.to l.out l.entry)
    (omega arith)
