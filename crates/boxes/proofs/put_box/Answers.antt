-- The values are there, since nothing is refused, and the records are written. Assumes nothing.
use mathlib.Core.Path.{refl}
use Rattle.std.specs.Prelude.{Ok}
use Rattle.steps.proofs.ReadyLaws.{write-ready}
use Rattle.boxes.specs.code.Box.{box_bytes}
use Rattle.boxes.proofs.BoxLaws.{ready-past, never-refused}
use Rattle.boxes.proofs.put_box.Goals as goal

pub unwrap-values-requires : goal.unwrap-values-requires
unwrap-values-requires c =
    let a = c.args in
    never-refused a.converter.policy a.converter.d a.b.now a.places a.entry c.requires.succeeds _ (c.count_points.ensures a.converter.policy a.converter.d _ _ c.convert_corners.ensures)

pub returns : goal.returns
returns c =
    let a = c.args in
    let i = ready-past a.converter.policy a.converter.d a.b.now a.places a.entry c.requires.succeeds (Ok c.unwrap-values.result) (rw c.unwrap-values.ensures at c.count_points.ensures a.converter.policy a.converter.d _ _ c.convert_corners.ensures) in
    write-ready a.entry _ _ i box_bytes _ _ _ refl c.put_records.ensures.wrote
