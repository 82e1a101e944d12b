-- Measuring and writing agree. And the records of what is written have lengths that their heads can say. Assumes nothing.
use mathlib.Core.Path.{◌≡◌, ap, ◌∙◌, subst}
use mathlib.Core.List.{List}
use Prim.Native.Nat.{ℕ, ◌*◌}
use native.Mathlib.Omega.{arith}
use borrow.Author.Tests.{le-leb, lt-leb}
use lib.Dec.{T, leb}
use lib.ListN.{length}
use lib.Ieee.{Float, binary64, fits}
use Rattle.big_endian.specs.Big.{Bytes}
use Rattle.parsing.specs.All.{All}
use Rattle.binary64.specs.Value.{zero64}
use Rattle.conversion.specs.declared.Entry.{Entry}
use Rattle.conversion.specs.Entry.{greatest_from, entry_length}
use Rattle.stream.specs.Structure.{Structure}
use Rattle.stream.specs.Records.{structure_records}
use Rattle.stream.proofs.RecordLaws.{Length}
use Rattle.stream.proofs.BytesLaws.{lengths}
use Rattle.stream.proofs.BackLaws.{record-lengths, structure-length}
use Rattle.cell.specs.Cell.{Result, stopped, written, cell_structure, structure_bytes, fitting, write_cell}
use Rattle.cell.specs.Answer as A
use Rattle.cell.specs.Answer.{answer_of}
use Rattle.cell.specs.Agree.{Agrees, WritingAgrees}
use Rattle.cell.proofs.AnswerLaws.{same-parts}
use Rattle.cell.proofs.ResultLaws.{Whenever, check-on, check-off}
use Rattle.cell.proofs.DrawsLaws.{written-drawing}

fitting-agrees : (out report : ℕ) (x : Result Structure) → Agrees out report (answer_of x) (answer_of (fitting out report x))
unfolding fitting
fitting-agrees out report (stopped r k) = record {
  refused = λ q n e. e;
  output_short = λ n c g e l. never e;
  report_short = λ n c g e l m. never e;
  accepted = λ n c g e l m. never e;
}
  where
    never : {X : Type 0} {n c : ℕ} {g : Float} → A.refused r k ≡ A.accepted n c g → X
    never e = let z : ◌≡◌ {A = ℕ} 0 1 = cc in absurd (omega arith)
fitting-agrees out report (written s es) =
    let bytes = length (structure_bytes s) in
    let entries = entry_length * length es in
    record {
      refused = λ r k e. let z : ◌≡◌ {A = ℕ} 0 1 = cc in absurd (omega arith);
      output_short = λ n c g e l.
          let same = same-parts _ _ e in
          ap answer_of (check-off (leb bytes out) _ _ (lt-leb bytes out (omega arith)));
      report_short = λ n c g e l m.
          let same = same-parts _ _ e in
          ap answer_of (check-on (leb bytes out) _ _ (le-leb bytes out (omega arith)) ∙ check-off (leb entries report) _ _ (lt-leb entries report (omega arith)));
      accepted = λ n c g e l m.
          let same = same-parts _ _ e in
          ap answer_of (check-on (leb bytes out) _ _ (le-leb bytes out (omega arith)) ∙ check-on (leb entries report) _ _ (le-leb entries report (omega arith))) ∙ e;
    }

pub writing-agrees : WritingAgrees
unfolding write_cell
writing-agrees policy d sheet out report = fitting-agrees out report (cell_structure policy d sheet)

-- ---- lengths

-- Every record of a written structure has an even length, of at least 4 and at most 65,534.
pub written-lengths : (policy : ℕ) (d : Float) (sheet : List ℕ) (out report : ℕ) (s : Structure) (es : List Entry) → T (fits binary64 d) → Bytes sheet
    → write_cell policy d sheet out report ≡ written s es → All Length (structure_records s)
written-lengths policy d sheet out report s es fd all e = record-lengths s (subst (Whenever _) e (written-drawing policy d sheet fd all out report)).fit

-- The length that is answered is the sum of the records'.
pub answered-length : (s : Structure) (es : List Entry) → answer_of (written s es) ≡ A.accepted (lengths (structure_records s)) (length es) (greatest_from zero64 es)
answered-length s es = ap (λ (n : ℕ). A.accepted n (length es) (greatest_from zero64 es)) (structure-length s)
