-- A measured sheet, and what writing it and the cell owe for each way out. Assumes nothing.
use Rattle.std.specs.Prelude.{Ok, Err}
use mathlib.Core.Path.{◌≡◌, refl, sym, ap, ◌∙◌, subst}
use mathlib.Core.Bool.{true}
use mathlib.Core.List.{List, []}
use Prim.Native.Nat.{ℕ, ◌*◌, ◌≤◌, ◌<◌}
use native.Mathlib.Omega.{arith}
use lib.Dec.{T, leb}
use lib.ListN.{length, take}
use lib.Ieee.{Float, binary64, fits}
use borrow.Author.Tests.{le-leb, lt-leb}
use Rattle.refusal.specs.declared.Refusal.{Refusal}
use Rattle.refusal.specs.declared.Refusal.TheVariants as R
use Rattle.big_endian.specs.Big.{Bytes}
use Rattle.binary64.specs.Value.{zero64}
use Rattle.conversion.specs.declared.GdsRoundingPolicy.{GdsRoundingPolicy}
use Rattle.conversion.specs.declared.Entry.{Entry}
use Rattle.conversion.specs.Entry.{report_bytes, greatest_from, entry_length}
use Rattle.conversion.proofs.EntryLaws.{length-report}
use Rattle.stream.specs.Structure.{Structure}
use Rattle.cell.specs.declared.Accepted.{Accepted}
use Rattle.cell.specs.declared.CellRefusal.{CellRefusal}
use Rattle.cell.specs.Answer as A
use Rattle.cell.specs.Cell.{Result, stopped, written, check, write_sheet, cell_structure, structure_bytes, fitting, write_cell, out_after, report_after}
use Rattle.cell.specs.Answer.{Answer, answer_of, values_of}
use Rattle.cell.specs.Draws.{Draws}
use Rattle.cell.proofs.ResultLaws.{check-on, check-off}
use Rattle.cell.proofs.DrawsLaws.{demand3}
use Rattle.cell.proofs.AnswerLaws.{accepted}
use Rattle.walk.specs.declared.Ends.{Ends}
use Rattle.walk.specs.code.Walk.{StructureFits, PutsStructure}
use Rattle.write_cell.specs.Writer.{defined, WritesCell}
use Rattle.write_cell.specs.code.Sheet.{fitted, WritesSheet}

-- ---- a measured sheet

-- the structure that was measured, by the answer
pub record Measured (policy : GdsRoundingPolicy) (d : Float) (sheet : List ℕ) (a : Accepted) : Type 0 where
  pub structure : Structure
  pub entries : List Entry
  pub is : write_sheet policy d sheet ≡ written structure entries
  pub said : Ok a ≡ answer_of (written structure entries)
  pub bytes : a.length ≡ length (structure_bytes structure)
  pub count : a.entries ≡ length entries

module _ (policy : GdsRoundingPolicy) (d : Float) (sheet : List ℕ) where
  stopped-is : (a : CellRefusal) → Err a ≡ answer_of (write_sheet policy d sheet) → write_sheet policy d sheet ≡ stopped a.refusal a.block
  stopped-is a m = go (write_sheet policy d sheet) m
    where
      go : (x : Result Structure) → Err a ≡ answer_of x → x ≡ stopped a.refusal a.block
      go (stopped q j) e = let same : ◌≡◌ {A = CellRefusal} (record { refusal = q; block = j }) a = cc in ap (λ (r : CellRefusal). stopped r.refusal r.block) same
      go (written s es) e = let z : ◌≡◌ {A = ℕ} 0 1 = cc in absurd (omega arith)

  pub measured : (a : Accepted) → Ok a ≡ answer_of (write_sheet policy d sheet) → Measured policy d sheet a
  measured a m = go (write_sheet policy d sheet) refl m
    where
      go : (x : Result Structure) → write_sheet policy d sheet ≡ x → Ok a ≡ answer_of x → Measured policy d sheet a
      go (stopped r k) f e = let z : ◌≡◌ {A = ℕ} 0 1 = cc in absurd (omega arith)
      go (written s es) f e =
          let same : ◌≡◌ {A = Accepted} a (record { length = length (structure_bytes s); entries = length es; greatest = greatest_from zero64 es }) = cc in
          record { structure = s; entries = es; is = f; said = e; bytes = ap (λ (x : Accepted). x.length) same; count = ap (λ (x : Accepted). x.entries) same }

module _ {policy : GdsRoundingPolicy} {d : Float} {sheet : List ℕ} {a : Accepted} (m : Measured policy d sheet a) where
  pub structure-fits : {out report : ℕ} → a.length ≤ out → entry_length * a.entries ≤ report → StructureFits policy d sheet [] out report
  structure-fits o r =
      let n = m.bytes in
      let b = m.count in
      let l : length (report_bytes m.entries) ≡ length m.entries * 33 = length-report [] m.entries in
      record { structure = m.structure; entries = m.entries; writes = m.is; out-room = omega arith; report-room = omega arith }

-- ---- writing a sheet: each way out

module _ {policy : GdsRoundingPolicy} {d : Float} {sheet : List ℕ} (out report : List ℕ) where
  -- the answer and both buffers are the definition's
  writes : (r : Answer) (out' report' : List ℕ) (x : Result Structure) → fitted policy d sheet out report ≡ x → r ≡ answer_of x → out' ≡ out_after x out → report' ≡ report_after x report
      → WritesSheet policy d sheet out report out' report' r
  writes r out' report' x e a o p = record {
    answer = a ∙ ap answer_of (sym e);
    output = o ∙ ap (λ (y : Result Structure). out_after y out) (sym e);
    entries = p ∙ ap (λ (y : Result Structure). report_after y report) (sym e);
  }

  refuses : (r : Refusal) (k : ℕ) → fitted policy d sheet out report ≡ stopped r k → WritesSheet policy d sheet out report out report (A.refused r k)
  refuses r k e = writes (A.refused r k) out report (stopped r k) e refl refl refl

  pub sheet-refused : (a : CellRefusal) → Err a ≡ answer_of (write_sheet policy d sheet) → WritesSheet policy d sheet out report out report (Err a)
  unfolding fitting
  sheet-refused a e = refuses a.refusal a.block (ap (fitting (length out) (length report)) (stopped-is policy d sheet a e))

  module _ {a : Accepted} (m : Measured policy d sheet a) where
    abbrev bytes : ℕ
    bytes = length (structure_bytes m.structure)

    abbrev size : ℕ
    size = entry_length * length m.entries

    pub output-short : {e : CellRefusal} → length out < a.length → e ≡ record { refusal = R.OutputShort; block = 0 } → WritesSheet policy d sheet out report out report (Err e)
    unfolding fitting
    output-short l e =
        let n = m.bytes in
        rw e (refuses R.OutputShort 0 (ap (fitting (length out) (length report)) m.is ∙ check-off (leb bytes (length out)) _ _ (lt-leb bytes (length out) (omega arith))))

    module _ (room : a.length ≤ length out) where
      -- 21 has passed
      to-report : fitted policy d sheet out report ≡ check (leb size (length report)) R.ReportShort (written m.structure m.entries)
      unfolding fitting
      to-report =
          let n = m.bytes in
          ap (fitting (length out) (length report)) m.is ∙ check-on (leb bytes (length out)) _ _ (le-leb bytes (length out) (omega arith))

      pub report-short : {e : CellRefusal} → length report < entry_length * a.entries → e ≡ record { refusal = R.ReportShort; block = 0 } → WritesSheet policy d sheet out report out report (Err e)
      report-short l e =
          let b = m.count in
          rw e (refuses R.ReportShort 0 (to-report ∙ check-off (leb size (length report)) _ _ (lt-leb size (length report) (omega arith))))

      pub sheet-written : entry_length * a.entries ≤ length report → {out' report' : List ℕ} {ends : Ends} → PutsStructure policy d sheet [] out report out' report' ends
          → WritesSheet policy d sheet out report out' report' (Ok a)
      sheet-written l {out'} {report'} w =
          let b = m.count in
          writes (Ok a) out' report' (written m.structure m.entries)
          (to-report ∙ check-on (leb size (length report)) _ _ (le-leb size (length report) (omega arith)))
          m.said
          (w.output m.structure m.entries m.is).out
          (w.entries m.structure m.entries m.is).out

-- ---- writing a cell: the answer and both buffers are the definition's, so the structure draws the sheet's cell

module _ {policy : ℕ} {d : Float} {sheet : List ℕ} (out report : List ℕ) (fd : fits binary64 d ≡ true) (all : Bytes sheet) where
  drawn : (r : Answer) (out' report' : List ℕ) → r ≡ answer_of (defined policy d sheet out report) → out' ≡ out_after (defined policy d sheet out report) out
      → report' ≡ report_after (defined policy d sheet out report) report → WritesCell policy d sheet out report out' report' (values_of r)
  drawn r out' report' a o p = record {
    answer = ap values_of a;
    output = o;
    entries = p;
    draws = λ z.
        subst (λ (bs : List ℕ). Draws policy d sheet (take (values_of r).length bs)) (sym o)
        (demand3 policy d sheet out report (values_of r).length (values_of r).entries (values_of r).greatest (subst T (sym fd) tt) all (sym a ∙ accepted r z));
  }

  pub cell-refused : {r : Refusal} → cell_structure policy d sheet ≡ stopped r 0 → WritesCell policy d sheet out report out report (values_of (A.refused r 0))
  unfolding write_cell fitting
  cell-refused {r} e =
      let f : stopped r 0 ≡ defined policy d sheet out report = ap (fitting (length out) (length report)) (sym e) in
      drawn (A.refused r 0) out report (ap answer_of f) (ap (λ (y : Result Structure). out_after y out) f) (ap (λ (y : Result Structure). report_after y report) f)

  pub cell-written : {rounding : GdsRoundingPolicy} {r : Answer} {out' report' : List ℕ} → cell_structure policy d sheet ≡ write_sheet rounding d sheet
      → WritesSheet rounding d sheet out report out' report' r → WritesCell policy d sheet out report out' report' (values_of r)
  unfolding write_cell
  cell-written {rounding} {r} {out'} {report'} e w =
      let f : fitted rounding d sheet out report ≡ defined policy d sheet out report = ap (fitting (length out) (length report)) (sym e) in
      drawn r out' report' (w.answer ∙ ap answer_of f) (w.output ∙ ap (λ (y : Result Structure). out_after y out) f) (w.entries ∙ ap (λ (y : Result Structure). report_after y report) f)
