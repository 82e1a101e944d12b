-- A head, then the five points. Assumes nothing.
use mathlib.Core.Path.{refl}
use mir.Syntax.{w32}
use mir.ValLaws.{to_z-of_z}
use mir.Val.{SFits}
use borrow.Author.Rules.{rules}
use Rattle.conversion.specs.code.Answer.{grid_point_of}
use Rattle.stream.specs.Records.{xy_record}
use Rattle.records.proofs.RecordLaws.{record-at}
use Rattle.boxes.specs.code.Box.{box_xy_length, corners_of}
use Rattle.boxes.proofs.BoxLaws.{five-points}
use Rattle.boxes.proofs.put_xy.Goals as goal

pub returns : goal.returns
returns c =
    let p = c.args.first in
    let q = c.args.second in
    let f1 : SFits w32 p.x = search rules in
    let f2 : SFits w32 p.y = search rules in
    let f3 : SFits w32 q.x = search rules in
    let f4 : SFits w32 q.y = search rules in
    record-at (xy_record (corners_of p q)) box_xy_length refl c.put_head_at-a1.ensures.wrote
    (five-points (grid_point_of p) (grid_point_of q) c.put_point-a2.ensures (rw (to_z-of_z w32 q.x f3, to_z-of_z w32 p.y f2) at c.put_point-a3.ensures) c.put_point-a4.ensures (rw (to_z-of_z w32 p.x f1, to_z-of_z w32 q.y f4) at c.put_point-a5.ensures) c.put_point.ensures)
