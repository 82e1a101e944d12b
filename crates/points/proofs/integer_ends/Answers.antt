-- `points::integer_ends` meets its contract: the first point and the last. Assumes nothing.
use native.Mathlib.Omega.{arith}
use Rattle.points.specs.code.Integers.{count_of}
use Rattle.points.proofs.IntegerLaws.{ends-are}
use Rattle.points.proofs.integer_ends.Goals as goal

pub returns : goal.returns
returns c =
    let a = c.args in
    let r = c.requires in
    ends-are a.list.now (count_of a.list.now) 0 _ a.entry _ _ (omega arith) (omega arith) c.integer_point.ensures c.integer_point-2.ensures
