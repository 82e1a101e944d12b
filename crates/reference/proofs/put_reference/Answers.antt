-- `reference::put_reference` meets its contract: the values are ready, since nothing is refused, and the records are written. Assumes nothing.
use mathlib.Core.Path.{ap}
use native.Mathlib.Omega.{arith}
use Rattle.std.specs.Prelude.{Ok}
use Rattle.block_places.specs.code.Places.{reference_at}
use Rattle.cell.specs.Write.{write_reference}
use Rattle.steps.proofs.ReadyLaws.{write-ready}
use Rattle.reference.specs.declared.ReferenceValues.{ReferenceValues}
use Rattle.reference.specs.code.Reference.{reference_bytes, ready_of, sref_of, aref_of, GivesReference}
use Rattle.reference.proofs.ValueLaws.{reference-bounded, reference-past, reference-never-refused}
use Rattle.reference.proofs.put_reference.Goals.{After-unwrap-values}
use Rattle.reference.proofs.put_reference.Goals as goal

pub convert_reference-requires : goal.convert_reference-requires
convert_reference-requires c =
    let a = c.args in
    let p = c.requires in
    record {
      reference_in = p.reference_in;
      bounded = reference-bounded a.converter.policy a.converter.d a.b.now a.reference a.entry p.succeeds p.reference_in.name_in;
      spare = omega (arith, p.spare);
    }

pub unwrap-values-requires : goal.unwrap-values-requires
unwrap-values-requires c =
    let a = c.args in
    reference-never-refused a.converter.policy a.converter.d a.b.now a.reference a.entry c.requires.succeeds _ c.convert_reference.ensures

-- the values that are there
there : (c : After-unwrap-values)
    → GivesReference c.args.b.now c.args.reference c.args.entry (write_reference c.args.converter.policy c.args.converter.d (reference_at c.args.b.now c.args.reference)) (Ok c.unwrap-values.result)
there c =
    let a = c.args in
    reference-past a.converter.policy a.converter.d a.b.now a.reference a.entry c.requires.succeeds (rw c.unwrap-values.ensures at c.convert_reference.ensures)

pub returns-in-Single : goal.returns-in-Single
returns-in-Single c =
    let a = c.args in
    let b = a.b.now in
    let s = a.reference in
    let k = c.in-Single in
    let v = there (goal.at.returns-in-Single c).After-unwrap-values in
    write-ready a.entry _ _ v.is reference_bytes (sref_of b s k.strans k.point) k.e _ (ap (λ (v : ReferenceValues). ready_of b s (Ok v)) k.is) c.put_sref.ensures.wrote

pub returns-in-Array : goal.returns-in-Array
returns-in-Array c =
    let a = c.args in
    let b = a.b.now in
    let s = a.reference in
    let k = c.in-Array in
    let v = there (goal.at.returns-in-Array c).After-unwrap-values in
    write-ready a.entry _ _ v.is reference_bytes (aref_of b s k.strans k.corners) k.e _ (ap (λ (v : ReferenceValues). ready_of b s (Ok v)) k.is) c.put_aref.ensures.wrote
