-- An accepted library fits its buffers. Assumes nothing.
use mathlib.Core.Path.{◌≡◌, refl, sym, ap, ◌∙◌}
use mathlib.Core.Bool.{Bool, true, false}
use mathlib.Core.List.{List}
use Prim.Native.Nat.{ℕ, ◌*◌, ◌≤◌}
use native.Mathlib.Omega.{arith}
use lib.Dec.{leb}
use lib.ListN.{length}
use lib.Ieee.{Float}
use borrow.Author.Tests.{leb-true}
use Rattle.refusal.specs.declared.Refusal.TheVariants as R
use Rattle.binary64.specs.Value.{zero64}
use Rattle.cell.specs.declared.Accepted.{Accepted}
use Rattle.library.specs.Answer as L
use Rattle.library.specs.Library.{Result, stopped, written, check, LibraryFile, file_bytes, library_entry_length, entries_in, greatest_in, fitting, library_file, write_library}
use Rattle.library.specs.Answer.{LibraryAnswer, answer_of, values_of}
use Rattle.library.proofs.AnswerLaws.{values-once}
use Rattle.write_library.specs.Writer.{WritesLibrary}

-- an output and a report of these lengths; an accepted length, entry count and greatest error
module _ (m l n k : ℕ) (g : Float) where
  abbrev Room : Type 0
  Room = (n ≤ m) × (library_entry_length * k ≤ l)

  by-checks : (f : LibraryFile) (a b : Bool) → leb (length (file_bytes f)) m ≡ a → leb (library_entry_length * entries_in f.cells) l ≡ b
      → answer_of (check a R.OutputShort (check b R.ReportShort (written f))) ≡ L.accepted n k g → Room
  by-checks f false b p q e = let z : ◌≡◌ {A = ℕ} 0 1 = cc in absurd (omega arith)
  by-checks f true false p q e = let z : ◌≡◌ {A = ℕ} 0 1 = cc in absurd (omega arith)
  by-checks f true true p q e =
      let t : ◌≡◌ {A = Accepted} (record { length = length (file_bytes f); entries = entries_in f.cells; greatest = greatest_in zero64 f.cells }) (record { length = n; entries = k; greatest = g }) = cc in
      let x = ap (λ (v : Accepted). v.length) t in
      let y = ap (λ (v : Accepted). v.entries) t in
      let u : length (file_bytes f) ≤ m = leb-true (length (file_bytes f)) m p in
      let v : 37 * entries_in f.cells ≤ l = leb-true (37 * entries_in f.cells) l q in
      (omega arith, omega arith)

  fitting-room : (x : Result LibraryFile) → answer_of (fitting m l x) ≡ L.accepted n k g → Room
  unfolding fitting
  fitting-room (stopped r c b) e = let z : ◌≡◌ {A = ℕ} 0 1 = cc in absurd (omega arith)
  fitting-room (written f) e = by-checks f _ _ refl refl e

  accepted-room : (policy : ℕ) (d : Float) (sheet : List ℕ) → answer_of (write_library policy d sheet m l) ≡ L.accepted n k g → Room
  unfolding write_library
  accepted-room policy d sheet e = fitting-room (library_file policy d sheet) e

-- the same of the writer's promise
pub writes-room : {policy n k : ℕ} {d g : Float} {sheet out report out' report' : List ℕ} {r : LibraryAnswer}
    → WritesLibrary policy d sheet out report out' report' (values_of r) → r ≡ L.accepted n k g → (n ≤ length out) × (library_entry_length * k ≤ length report)
writes-room {policy} {n} {k} {d} {g} {sheet} {out} {report} {r = r} w e = accepted-room (length out) (length report) n k g policy d sheet (sym (values-once r _ w.answer) ∙ e)
