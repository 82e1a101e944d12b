-- `coordinate::put_point` meets its contract: x, then y. Assumes nothing.
use mir.Syntax.{w32}
use mir.Val.{SFits}
use mir.ValLaws.{to_z-of_z}
use Rattle.big_endian.proofs.BufferLaws.{then_at}
use Rattle.coordinate.proofs.ValueLaws.{same_point}
use borrow.Author.Rules.{rules}
use Rattle.coordinate.proofs.put_point.Goals as goal

pub returns : goal.returns
returns c =
    let p = c.args.p in
    let f : SFits w32 p.x = search rules in
    let h : SFits w32 p.y = search rules in
    same_point (to_z-of_z w32 p.x f) (to_z-of_z w32 p.y h) (then_at c.put_i32_at-a.ensures c.put_i32_at.ensures)
