-- `reference::turned_array` meets its contract: sine and cosine, and then the array. Assumes nothing.
use mathlib.Core.Path.{◌≡◌, ◌∙◌}
use mathlib.Core.Bool.{true, false, ◌&&◌}
use Rattle.std.specs.Prelude.{Err}
use Rattle.cell.specs.Write.{in_unit}
use Rattle.block_places.specs.code.Places.{reference_at}
use Rattle.array.specs.code.Corners.{cornered}
use Rattle.reference.proofs.CheckLaws.{and-left, and-on}
use Rattle.reference.proofs.ValueLaws.{turn-stops, turned_on}
use Rattle.reference.proofs.turned_array.Goals.{then-in_unit, else-in_unit}
use Rattle.reference.proofs.turned_array.Goals as goal

pub returns-then-not-in_unit : goal.returns-then-not-in_unit
unfolding reference_at
returns-then-not-in_unit c =
    let a = c.args in
    let h : in_unit a.s.sine && in_unit a.s.cosine ≡ false = elim c.if-in_unit.branch [ then-in_unit w ↦ and-on (in_unit a.s.sine) (in_unit a.s.cosine) false (cc) (cc) | else-in_unit w ↦ and-left (in_unit a.s.sine) (in_unit a.s.cosine) (cc) ] in
    turn-stops (λ x. Err x) a.entry a.converter.policy a.converter.d (reference_at a.b.now a.s) (cornered a.s.columns a.s.rows) h

pub returns : goal.returns
unfolding reference_at
returns c =
    let a = c.args in
    let h : in_unit a.s.sine && in_unit a.s.cosine ≡ true = elim c.if-in_unit.branch [ then-in_unit w ↦ and-on (in_unit a.s.sine) (in_unit a.s.cosine) true (cc) (cc) | else-in_unit w ↦ cc ] in
    c.convert_array.ensures ∙ turned_on (λ x. Err x) a.entry a.converter.policy a.converter.d (reference_at a.b.now a.s) (cornered a.s.columns a.s.rows) h
