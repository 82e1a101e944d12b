-- `points::put_points` meets its contract: the points in front that pass, then the rest. Assumes nothing.
use mathlib.Core.Path.{sym, subst}
use mathlib.Core.List.{List}
use Prim.Native.Nat.{◌+◌, ◌-◌, ◌*◌}
use native.Mathlib.Omega.{arith}
use Rattle.std.specs.List.{between}
use Rattle.units.specs.declared.Unit.{Unit}
use Rattle.units.specs.Point.{Point}
use Rattle.conversion.specs.Points.{write_points}
use Rattle.stream.specs.Records.{points_bytes}
use Rattle.steps.specs.code.Steps.{Succeeds, Writes}
use Rattle.points.proofs.ChunkLaws.{listed, listed-rest}
use Rattle.points.proofs.PassingLaws.{pass-put, rest-succeeds}
use Rattle.points.proofs.put_points.Goals as goal

pub returns : goal.returns
returns c =
    let a = c.args in
    let i = listed a.b.now a.place a.count c.requires.count_in_bounds in
    let s = between a.place (a.place + 34 * a.count) a.b.now in
    let u = c.put_passing-passing.ensures in
    let k = c.put_passing-passing.result in
    let w = u.passing.within in
    let n = i.number in
    let g = i.long in
    subst (λ (ps : List (Point Unit)). Writes points_bytes a.front.entry (write_points a.converter.policy a.converter.d 0 ps) a.front.to a.out.now c.put_rest.new.out c.put_rest.result) i.same
    (pass-put a.converter.policy a.converter.d s a.count k (a.count - k) 0 (34 * k) (omega arith) (omega arith) u.passing.pass a.front.entry u.wrote
    (subst (λ (ps : List (Point Unit)). Writes points_bytes a.front.entry (write_points a.converter.policy a.converter.d k ps) (a.front.to + 8 * k) c.put_passing-passing.new.out c.put_rest.new.out c.put_rest.result) (listed-rest s c.rest_of-rest.result.now k (a.count - k) (omega arith) c.rest_of-rest.ensures) c.put_rest.ensures))

pub put_rest-requires-clause-succeeds : goal.put_rest-requires-clause-succeeds
put_rest-requires-clause-succeeds c =
    let a = c.args in
    let i = listed a.b.now a.place a.count c.requires.count_in_bounds in
    let s = between a.place (a.place + 34 * a.count) a.b.now in
    let u = c.put_passing-passing.ensures in
    let k = c.put_passing-passing.result in
    let w = u.passing.within in
    let n = i.number in
    let g = i.long in
    subst (λ (ps : List (Point Unit)). Succeeds (write_points a.converter.policy a.converter.d k ps)) (sym (listed-rest s c.rest_of-rest.result.now k (a.count - k) (omega arith) c.rest_of-rest.ensures))
    (rest-succeeds a.converter.policy a.converter.d s a.count k (a.count - k) 0 (34 * k) (omega arith) (omega arith) u.passing.pass a.front.entry
    (subst (λ (ps : List (Point Unit)). Succeeds (write_points a.converter.policy a.converter.d 0 ps)) (sym i.same) c.requires.succeeds))
