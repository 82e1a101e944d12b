-- `reference::measure_reference` meets its contract: the length is that of the records. Assumes nothing.
use mathlib.Core.Path.{refl, sym, ap, ◌∙◌, subst}
use Rattle.std.specs.Prelude.{Ok}
use Rattle.conversion.specs.code.Answer.{grid_point_of}
use Rattle.cell.specs.Write.{write_reference}
use Rattle.block_places.specs.code.Places.{reference_at}
use Rattle.transform.specs.code.Strans.{said_of}
use Rattle.array.specs.code.Corners.{steps_of}
use Rattle.steps.specs.code.Steps.{Measures}
use Rattle.steps.proofs.StepLaws.{handed}
use Rattle.steps.proofs.ReadyLaws.{measure-stopped, measure-ready}
use Rattle.reference.specs.declared.ReferenceValues.{ReferenceValues}
use Rattle.reference.specs.code.Reference.{reference_bytes, ready_of, Fine, sref_of, aref_of}
use Rattle.reference.proofs.RecordLaws.{length-sref, length-aref, length-sum}
use Rattle.reference.proofs.measure_reference.Goals as goal

pub returns-in_err-values : goal.returns-in_err-values
returns-in_err-values c =
    let a = c.args in
    let g = a.converter in
    let r = c.in_err-values.field-0.0 in
    handed (Measures reference_bytes a.entry (write_reference g.policy g.d (reference_at a.b.now a.reference))) r c.from_residual.result c.from_residual.ensures.1
    (measure-stopped a.entry _ _ c.in_err-values.ensures.is reference_bytes r refl)

pub returns-in-Single : goal.returns-in-Single
unfolding sref_of
returns-in-Single c =
    let a = c.args in
    let b = a.b.now in
    let s = a.reference in
    let k = c.in-Single in
    let v = c.in_ok-values in
    let f = subst (λ (v : ReferenceValues). Fine b s (Ok v)) k.is v.ensures.fine in
    measure-ready a.entry _ _ v.ensures.is reference_bytes (sref_of b s k.strans k.point) k.e _ (ap (λ (v : ReferenceValues). ready_of b s (Ok v)) k.is)
    (length-sum _ _ _ _ c.front_length.ensures.value ∙ sym (length-sref b s (said_of k.strans) _ c.requires.reference_in.name_in f.bytes (grid_point_of k.point)))

pub returns-in-Array : goal.returns-in-Array
unfolding aref_of
returns-in-Array c =
    let a = c.args in
    let b = a.b.now in
    let s = a.reference in
    let k = c.in-Array in
    let v = c.in_ok-values in
    let p = steps_of k.corners in
    let f = subst (λ (v : ReferenceValues). Fine b s (Ok v)) k.is v.ensures.fine in
    measure-ready a.entry _ _ v.ensures.is reference_bytes (aref_of b s k.strans k.corners) k.e _ (ap (λ (v : ReferenceValues). ready_of b s (Ok v)) k.is)
    (length-sum _ _ _ _ c.front_length-in-Array.ensures.value ∙ sym (length-aref b s (said_of k.strans) _ c.requires.reference_in.name_in f.0.bytes s.columns s.rows p.origin p.column_step p.row_step))
