-- The bytes of an answer from the writers' promises. Assumes nothing.
use mathlib.Core.Path.{◌≡◌, sym, ap, ap₂, ◌∙◌}
use mathlib.Core.List.{List, [], ◌++◌}
use Prim.Native.Nat.{ℕ, ◌*◌}
use native.Mathlib.Omega.{arith}
use lib.ListN.{length, take, drop, replicate, length-replicate}
use lib.Seq.{take_at}
use lib.Ieee.{Float}
use Rattle.big_endian.specs.Buffer.{over, WroteAt}
use Rattle.big_endian.proofs.BufferLaws.{from_zero}
use Rattle.refusal.specs.Number.{number}
use Rattle.conversion.specs.Entry.{report_bytes}
use Rattle.conversion.proofs.EntryLaws.{length-report}
use Rattle.stream.specs.Structure.{Structure}
use Rattle.std.specs.Prelude.{Ok, Err}
use Rattle.binary64.specs.Value.{zero64}
use Rattle.conversion.specs.Entry.{greatest_from}
use Rattle.cell.specs.declared.Accepted.{Accepted}
use Rattle.cell.specs.declared.CellRefusal.{CellRefusal}
use Rattle.cell.specs.Cell as C
use Rattle.cell.specs.Cell.{structure_bytes, write_cell}
use Rattle.cell.specs.Answer as CA
use Rattle.cell.proofs.AnswerLaws as CellOnce
use Rattle.write_cell.specs.Writer.{WritesCell}
use Rattle.library.specs.declared.LibraryRefusal.{LibraryRefusal}
use Rattle.library.specs.Library as L
use Rattle.library.specs.Library.{LibraryFile, file_bytes, report_from, entries_in, greatest_in, write_library}
use Rattle.library.specs.Answer as LA
use Rattle.library.proofs.AnswerLaws as LibraryOnce
use Rattle.library.proofs.FileLaws.{report-length}
use Rattle.write_library.specs.Writer.{WritesLibrary}
use Rattle.test_bytes.specs.Bytes.{refused_bytes, library_refused_bytes, front_bytes}
use Rattle.test_answers.specs.Answer.{cell_bytes, library_bytes}

-- ---- a cell's answer

-- by the length of the bytes that follow
pub by_length : {m n : ℕ} (k : ℕ) (g : Float) (b e : List ℕ) → m ≡ n → front_bytes m k g ++ b ++ e ≡ front_bytes n k g ++ b ++ e
by_length k g b e h = ap (λ (z : ℕ). front_bytes z k g ++ b ++ e) h

-- the run that was put at the start of a buffer
first : (bs d : List ℕ) (n : ℕ) → n ≡ length bs → take n (over bs d) ≡ bs
unfolding over
first bs d n e = take_at bs (drop (length bs) d) n (sym e)

-- what was put from the start of a text on is read back
pub put_whole : {bs d text : List ℕ} {r : ℕ} → WroteAt bs d text 0 r → take r text ≡ bs
unfolding over
put_whole {bs} {d} {text} {r} w = let u = from_zero w in ap (take r) u.out ∙ first bs d r u.count

by_result : (x : C.Result Structure) (e : CellRefusal) → Err e ≡ CA.answer_of x → cell_bytes x ≡ refused_bytes (number e.refusal) e.block
unfolding cell_bytes
by_result (C.stopped q j) e h =
    let u : ◌≡◌ {A = CellRefusal} (record { refusal = q; block = j }) e = cc in
    ap (λ (v : CellRefusal). refused_bytes (number v.refusal) v.block) u
by_result (C.written s es) e h = let z : ◌≡◌ {A = ℕ} 0 1 = cc in absurd (omega arith)

-- what is put, by the answer that the writer gave for buffers of these lengths
pub refused-bytes : {policy m l : ℕ} {d : Float} {sheet out report out' report' : List ℕ} (e : CellRefusal)
    → WritesCell policy d sheet out report out' report' (CA.values_of (Err e)) → length out ≡ m → length report ≡ l
    → refused_bytes (number e.refusal) e.block ≡ cell_bytes (write_cell policy d sheet m l)
refused-bytes {policy} {d = d} {sheet = sheet} e w p q = sym (by_result _ e (CellOnce.values-once (Err e) _ w.answer)) ∙ ap₂ (λ (m l : ℕ). cell_bytes (write_cell policy d sheet m l)) p q

module _ (a : Accepted) (out report out' report' : List ℕ) where
  by-buffers : (x : C.Result Structure) → Ok a ≡ CA.answer_of x → out' ≡ C.out_after x out → report' ≡ C.report_after x report
      → cell_bytes x ≡ front_bytes a.length a.entries a.greatest ++ take a.length out' ++ take (33 * a.entries) report'
  unfolding cell_bytes
  by-buffers (C.stopped q j) e o p = let z : ◌≡◌ {A = ℕ} 0 1 = cc in absurd (omega arith)
  by-buffers (C.written s es) e o p =
      let told : ◌≡◌ {A = Accepted} a (record { length = length (structure_bytes s); entries = length es; greatest = greatest_from zero64 es }) = cc in
      let n = ap (λ (v : Accepted). v.length) told in
      let k = ap (λ (v : Accepted). v.entries) told in
      let g = ap (λ (v : Accepted). v.greatest) told in
      let l : length (report_bytes es) ≡ length es * 33 = length-report [] es in
      let u : take a.length out' ≡ structure_bytes s = ap (take a.length) o ∙ first (structure_bytes s) out a.length n in
      let v : take (33 * a.entries) report' ≡ report_bytes es = ap (take (33 * a.entries)) p ∙ first (report_bytes es) report (33 * a.entries) (omega arith) in
      cc

pub accepted-bytes : {policy m l : ℕ} {d : Float} {sheet out report out' report' : List ℕ} (a : Accepted)
    → WritesCell policy d sheet out report out' report' (CA.values_of (Ok a)) → length out ≡ m → length report ≡ l
    → front_bytes a.length a.entries a.greatest ++ take a.length out' ++ take (33 * a.entries) report' ≡ cell_bytes (write_cell policy d sheet m l)
accepted-bytes {policy} {d = d} {sheet = sheet} {out = out} {report = report} {out' = out'} {report' = report'} a w p q =
    sym (by-buffers a out report out' report' _ (CellOnce.values-once (Ok a) _ w.answer) w.output w.entries) ∙ ap₂ (λ (m l : ℕ). cell_bytes (write_cell policy d sheet m l)) p q

-- ---- a library's answer

by-library : (x : L.Result LibraryFile) (e : LibraryRefusal) → Err e ≡ LA.answer_of x → library_bytes x ≡ library_refused_bytes (number e.refusal) e.cell e.block
unfolding library_bytes
by-library (L.stopped q h j) e i =
    let u : ◌≡◌ {A = LibraryRefusal} (record { refusal = q; cell = h; block = j }) e = cc in
    ap (λ (v : LibraryRefusal). library_refused_bytes (number v.refusal) v.cell v.block) u
by-library (L.written l) e i = let z : ◌≡◌ {A = ℕ} 0 1 = cc in absurd (omega arith)

-- what is put, by the answer that the writer gave for buffers of these lengths
pub library-refused-bytes : {policy m l : ℕ} {d : Float} {sheet out report out' report' : List ℕ} (e : LibraryRefusal)
    → WritesLibrary policy d sheet out report out' report' (LA.values_of (Err e)) → length out ≡ m → length report ≡ l
    → library_refused_bytes (number e.refusal) e.cell e.block ≡ library_bytes (write_library policy d sheet m l)
library-refused-bytes {policy} {d = d} {sheet = sheet} e w p q = sym (by-library _ e (LibraryOnce.values-once (Err e) _ w.answer)) ∙ ap₂ (λ (m l : ℕ). library_bytes (write_library policy d sheet m l)) p q

module _ (a : Accepted) (out report out' report' : List ℕ) where
  by-library-buffers : (x : L.Result LibraryFile) → Ok a ≡ LA.answer_of x → out' ≡ L.out_after x out → report' ≡ L.report_after x report
      → library_bytes x ≡ front_bytes a.length a.entries a.greatest ++ take a.length out' ++ take (37 * a.entries) report'
  unfolding library_bytes
  by-library-buffers (L.stopped q h j) e o p = let z : ◌≡◌ {A = ℕ} 0 1 = cc in absurd (omega arith)
  by-library-buffers (L.written l) e o p =
      let told : ◌≡◌ {A = Accepted} a (record { length = length (file_bytes l); entries = entries_in l.cells; greatest = greatest_in zero64 l.cells }) = cc in
      let n = ap (λ (v : Accepted). v.length) told in
      let k = ap (λ (v : Accepted). v.entries) told in
      let g = ap (λ (v : Accepted). v.greatest) told in
      let c = report-length 0 l.cells in
      let u : take a.length out' ≡ file_bytes l = ap (take a.length) o ∙ first (file_bytes l) out a.length n in
      let v : take (37 * a.entries) report' ≡ report_from 0 l.cells = ap (take (37 * a.entries)) p ∙ first (report_from 0 l.cells) report (37 * a.entries) (omega arith) in
      cc

pub library-accepted-bytes : {policy m l : ℕ} {d : Float} {sheet out report out' report' : List ℕ} (a : Accepted)
    → WritesLibrary policy d sheet out report out' report' (LA.values_of (Ok a)) → length out ≡ m → length report ≡ l
    → front_bytes a.length a.entries a.greatest ++ take a.length out' ++ take (37 * a.entries) report' ≡ library_bytes (write_library policy d sheet m l)
library-accepted-bytes {policy} {d = d} {sheet = sheet} {out = out} {report = report} {out' = out'} {report' = report'} a w p q =
    sym (by-library-buffers a out report out' report' _ (LibraryOnce.values-once (Ok a) _ w.answer) w.output w.entries) ∙ ap₂ (λ (m l : ℕ). library_bytes (write_library policy d sheet m l)) p q

-- ---- an array of zeros; said of any length, as the length of a long one is too long to compute

pub zeros-length : (n : ℕ) → n ≡ length {A = ℕ} (replicate n 0)
zeros-length n = sym (length-replicate n 0)
