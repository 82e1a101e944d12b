-- `path::put_path` meets its contract: the lengths are there, since nothing is refused; then the head and the points. Assumes nothing.
use mathlib.Core.Path.{sym}
use native.Mathlib.Omega.{arith}
use Rattle.std.specs.Prelude.{Ok}
use Rattle.block_places.specs.code.Places.{path_at}
use Rattle.points.proofs.WalkLaws.{length_from}
use Rattle.path.specs.code.Front.{write_front, GivesExtent}
use Rattle.path.proofs.FrontLaws.{points-succeed, front-past, never-refused}
use Rattle.path.proofs.PathLaws.{Known, front-known, path-written}
use Rattle.path.proofs.put_path.Goals as goal
use Rattle.path.proofs.put_path.Goals.{After-unwrap-lengths}

pub unwrap-lengths-requires : goal.unwrap-lengths-requires
unwrap-lengths-requires c = never-refused c.args.converter.policy c.args.converter.d (path_at c.args.b.now c.args.path) c.requires.succeeds c.convert_lengths.ensures

-- the front of the path gives these lengths
front : (c : After-unwrap-lengths)
    → GivesExtent (path_at c.args.b.now c.args.path) c.args.entry (write_front c.args.converter.policy c.args.converter.d (path_at c.args.b.now c.args.path)) (Ok c.unwrap-lengths.result)
front c = front-past c.args.converter.policy c.args.converter.d (path_at c.args.b.now c.args.path) c.requires.succeeds (rw c.unwrap-lengths.ensures at c.convert_lengths.ensures)

known : (c : After-unwrap-lengths) → Known c.args.b.now c.args.path c.args.entry c.unwrap-lengths.result.extent c.unwrap-lengths.result.entry
known c = front-known c.args.converter.policy c.args.converter.d c.args.b.now c.args.path c.args.entry c.unwrap-lengths.result (front c)

pub put_head-to-requires : goal.put_head-to-requires
put_head-to-requires c =
    let k = known (goal.at.put_head-to-requires c).After-unwrap-lengths in
    let room = c.requires.path_in_bounds in
    record { count_le_max_points = k.counted; extent_in_bounds = omega arith }

pub put_points-requires : goal.put_points-requires
unfolding path_at
put_points-requires c =
    let a = c.args in
    let k = known (goal.at.put_points-requires c).After-unwrap-lengths in
    let p = c.requires in
    let room = p.path_in_bounds in
    let spare = p.spare in
    let end = c.put_head-to.ensures.end in
    let long = c.put_head-to.ensures.long in
    record { count_in_bounds = p.path_in.points-in; count_le_max_points = k.counted; succeeds = points-succeed a.converter.policy a.converter.d (path_at a.b.now a.path) p.succeeds; count_in_bounds_2 = omega arith; spare = omega arith }

pub returns : goal.returns
unfolding path_at
returns c =
    let a = c.args in
    path-written a.converter.policy a.converter.d (path_at a.b.now a.path) a.entry c.unwrap-lengths.result (front (goal.at.returns c).After-unwrap-lengths)
    a.path.points.count (sym (length_from a.path.points.count a.b.now a.path.points.place)) c.put_head-to.ensures c.put_points.ensures
