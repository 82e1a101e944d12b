-- A measured library, and what writing it owes for each way out. Assumes nothing.
use mathlib.Core.Path.{◌≡◌, refl, sym, ap, ◌∙◌, subst}
use mathlib.Core.Bool.{true}
use mathlib.Core.List.{List}
use Prim.Native.Nat.{ℕ, ◌*◌, ◌≤◌, ◌<◌}
use native.Mathlib.Omega.{arith}
use lib.Dec.{T, leb}
use lib.ListN.{length, take}
use lib.Ieee.{Float, binary64, fits}
use borrow.Author.Tests.{le-leb, lt-leb}
use Rattle.refusal.specs.declared.Refusal.{Refusal}
use Rattle.refusal.specs.declared.Refusal.TheVariants as R
use Rattle.big_endian.specs.Big.{Bytes}
use Rattle.binary64.specs.Value.{zero64}
use Rattle.conversion.specs.declared.GdsRoundingPolicy.{GdsRoundingPolicy}
use Rattle.walk.specs.declared.Ends.{Ends}
use Rattle.std.proofs.Common.{Ok, Err}
use Rattle.cell.specs.declared.Accepted.{Accepted}
use Rattle.library.specs.declared.LibraryRefusal.{LibraryRefusal}
use Rattle.library.specs.Answer as L
use Rattle.library.specs.Library.{Result, stopped, written, no_cell, check, LibraryFile, write_library_sheet, library_file, file_bytes, library_entry_length, entries_in, greatest_in, fitting, write_library, out_after, report_after}
use Rattle.library.specs.Answer.{LibraryAnswer, answer_of, values_of}
use Rattle.library.specs.Draws.{DrawsLibrary}
use Rattle.library.proofs.ResultLaws.{check-on, check-off}
use Rattle.library.proofs.AnswerLaws.{accepted}
use Rattle.library.proofs.FileLaws.{report-length}
use Rattle.library.proofs.DrawsLaws.{written-draws}
use Rattle.write_library.specs.Writer.{defined, WritesLibrary}
use Rattle.write_library.specs.code.File.{FileFits, PutsFile, fitted, WritesFile}

-- ---- a measured library

-- the file that was measured, by the answer
pub record Measured (policy : GdsRoundingPolicy) (d : Float) (sheet : List ℕ) (a : Accepted) : Type 0 where
  pub file : LibraryFile
  pub is : write_library_sheet policy d sheet ≡ written file
  pub answer : Ok a ≡ answer_of (written file)

module _ (policy : GdsRoundingPolicy) (d : Float) (sheet : List ℕ) where
  stopped-is : (e : LibraryRefusal) → Err e ≡ answer_of (write_library_sheet policy d sheet) → write_library_sheet policy d sheet ≡ stopped e.refusal e.cell e.block
  stopped-is e = go (write_library_sheet policy d sheet)
    where
      go : (x : Result LibraryFile) → Err e ≡ answer_of x → x ≡ stopped e.refusal e.cell e.block
      go (stopped q c j) f = let u : ◌≡◌ {A = LibraryRefusal} (record { refusal = q; cell = c; block = j }) e = cc in ap (λ (v : LibraryRefusal). stopped v.refusal v.cell v.block) u
      go (written l) f = let z : ◌≡◌ {A = ℕ} 0 1 = cc in absurd (omega arith)

  pub measured : (a : Accepted) → Ok a ≡ answer_of (write_library_sheet policy d sheet) → Measured policy d sheet a
  measured a = go (write_library_sheet policy d sheet) refl
    where
      go : (x : Result LibraryFile) → write_library_sheet policy d sheet ≡ x → Ok a ≡ answer_of x → Measured policy d sheet a
      go (stopped r j k) f e = let z : ◌≡◌ {A = ℕ} 0 1 = cc in absurd (omega arith)
      go (written l) f e = record { file = l; is = f; answer = e }

module _ {policy : GdsRoundingPolicy} {d : Float} {sheet : List ℕ} {a : Accepted} (m : Measured policy d sheet a) where
  told : a ≡ record { length = length (file_bytes m.file); entries = entries_in m.file.cells; greatest = greatest_in zero64 m.file.cells }
  told = let e = m.answer in cc

  bytes-are : a.length ≡ length (file_bytes m.file)
  bytes-are = ap (λ (v : Accepted). v.length) told

  count-is : a.entries ≡ entries_in m.file.cells
  count-is = ap (λ (v : Accepted). v.entries) told

  pub file-fits : {out report : ℕ} → a.length ≤ out → library_entry_length * a.entries ≤ report → FileFits policy d sheet out report
  file-fits o r =
      let b = bytes-are in
      let c = count-is in
      let l = report-length 0 m.file.cells in
      record { file = m.file; writes = m.is; out-room = omega arith; report-room = omega arith }

-- ---- what follows 1 to 3: each way out

module _ {policy : GdsRoundingPolicy} {d : Float} {sheet : List ℕ} (out report : List ℕ) where
  -- the answer and both buffers are the definition's
  writes : (r : LibraryAnswer) (out' report' : List ℕ) (x : Result LibraryFile) → fitted policy d sheet out report ≡ x → r ≡ answer_of x → out' ≡ out_after x out → report' ≡ report_after x report
      → WritesFile policy d sheet out report out' report' r
  writes r out' report' x e a o p = record {
    answer = a ∙ ap answer_of (sym e);
    output = o ∙ ap (λ (y : Result LibraryFile). out_after y out) (sym e);
    entries = p ∙ ap (λ (y : Result LibraryFile). report_after y report) (sym e);
  }

  refuses : (r : Refusal) (i k : ℕ) → fitted policy d sheet out report ≡ stopped r i k → WritesFile policy d sheet out report out report (L.refused r i k)
  refuses r i k e = writes (L.refused r i k) out report (stopped r i k) e refl refl refl

  pub file-refused : (e : LibraryRefusal) → Err e ≡ answer_of (write_library_sheet policy d sheet) → WritesFile policy d sheet out report out report (Err e)
  unfolding fitting
  file-refused e m = refuses e.refusal e.cell e.block (ap (fitting (length out) (length report)) (stopped-is policy d sheet e m))

  module _ {a : Accepted} (m : Measured policy d sheet a) where
    abbrev bytes : ℕ
    bytes = length (file_bytes m.file)

    abbrev size : ℕ
    size = library_entry_length * entries_in m.file.cells

    pub output-short : length out < a.length → WritesFile policy d sheet out report out report (L.refused R.OutputShort no_cell 0)
    unfolding fitting
    output-short l =
        let b = bytes-are m in
        refuses R.OutputShort no_cell 0 (ap (fitting (length out) (length report)) m.is ∙ check-off (leb bytes (length out)) _ _ (lt-leb bytes (length out) (omega arith)))

    module _ (room : a.length ≤ length out) where
      -- 21 has passed
      to-report : fitted policy d sheet out report ≡ check (leb size (length report)) R.ReportShort (written m.file)
      unfolding fitting
      to-report =
          let b = bytes-are m in
          ap (fitting (length out) (length report)) m.is ∙ check-on (leb bytes (length out)) _ _ (le-leb bytes (length out) (omega arith))

      pub report-short : length report < library_entry_length * a.entries → WritesFile policy d sheet out report out report (L.refused R.ReportShort no_cell 0)
      report-short l =
          let c = count-is m in
          refuses R.ReportShort no_cell 0 (to-report ∙ check-off (leb size (length report)) _ _ (lt-leb size (length report) (omega arith)))

      pub file-written : library_entry_length * a.entries ≤ length report → {out' report' : List ℕ} {ends : Ends} → PutsFile policy d sheet out report out' report' ends
          → WritesFile policy d sheet out report out' report' (Ok a)
      file-written l {out'} {report'} w =
          let c = count-is m in
          writes (Ok a) out' report' (written m.file)
          (to-report ∙ check-on (leb size (length report)) _ _ (le-leb size (length report) (omega arith)))
          m.answer
          (w.output m.file m.is).out
          (w.entries m.file m.is).out

-- ---- writing a library: the answer and both buffers are the definition's, so the file draws the sheet's cells

module _ {policy : ℕ} {d : Float} {sheet : List ℕ} (out report : List ℕ) (fd : fits binary64 d ≡ true) (all : Bytes sheet) where
  drawn : (r : LibraryAnswer) (out' report' : List ℕ) → r ≡ answer_of (defined policy d sheet out report) → out' ≡ out_after (defined policy d sheet out report) out
      → report' ≡ report_after (defined policy d sheet out report) report → WritesLibrary policy d sheet out report out' report' (values_of r)
  drawn r out' report' a o p = record {
    answer = ap values_of a;
    output = o;
    entries = p;
    draws = λ z.
        subst (λ (bs : List ℕ). DrawsLibrary policy d sheet (take (values_of r).length bs)) (sym o)
        (written-draws policy d sheet out report (values_of r).length (values_of r).entries (values_of r).greatest (subst T (sym fd) tt) all (sym a ∙ accepted r z));
  }

  pub library-refused : {r : Refusal} → library_file policy d sheet ≡ stopped r no_cell 0 → WritesLibrary policy d sheet out report out report (values_of (L.refused r no_cell 0))
  unfolding write_library fitting
  library-refused {r} e =
      let f : stopped r no_cell 0 ≡ defined policy d sheet out report = ap (fitting (length out) (length report)) (sym e) in
      drawn (L.refused r no_cell 0) out report (ap answer_of f) (ap (λ (y : Result LibraryFile). out_after y out) f) (ap (λ (y : Result LibraryFile). report_after y report) f)

  pub library-written : {rounding : GdsRoundingPolicy} {r : LibraryAnswer} {out' report' : List ℕ} → library_file policy d sheet ≡ write_library_sheet rounding d sheet
      → WritesFile rounding d sheet out report out' report' r → WritesLibrary policy d sheet out report out' report' (values_of r)
  unfolding write_library
  library-written {rounding} {r} {out'} {report'} e w =
      let f : fitted rounding d sheet out report ≡ defined policy d sheet out report = ap (fitting (length out) (length report)) (sym e) in
      drawn r out' report' (w.answer ∙ ap answer_of f) (w.output ∙ ap (λ (y : Result LibraryFile). out_after y out) f) (w.entries ∙ ap (λ (y : Result LibraryFile). report_after y report) f)
