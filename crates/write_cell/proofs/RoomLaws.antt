-- What is accepted has room: document 01's 21 and 22 are checked last. Assumes nothing.
use mathlib.Core.Path.{◌≡◌, refl, sym, ap, ◌∙◌}
use mathlib.Core.Bool.{Bool, true, false}
use mathlib.Core.List.{List}
use Prim.Native.Nat.{ℕ, ◌*◌, ◌≤◌}
use native.Mathlib.Omega.{arith}
use lib.Dec.{leb}
use lib.ListN.{length}
use lib.Ieee.{Float}
use borrow.Author.Tests.{leb-true}
use Rattle.refusal.specs.declared.Refusal.TheVariants as R
use Rattle.conversion.specs.declared.Entry.{Entry}
use Rattle.stream.specs.Structure.{Structure}
use Rattle.binary64.specs.Value.{zero64}
use Rattle.conversion.specs.Entry.{entry_length, greatest_from}
use Rattle.cell.specs.declared.Accepted.{Accepted}
use Rattle.cell.specs.Answer as A
use Rattle.cell.specs.Cell.{Result, stopped, written, check, structure_bytes, fitting, cell_structure, write_cell}
use Rattle.cell.specs.Answer.{Answer, answer_of, values_of}
use Rattle.cell.proofs.AnswerLaws.{values-once}
use Rattle.write_cell.specs.Writer.{WritesCell}

-- an output and a report of these lengths; an accepted length, entry count and greatest error
module _ (m l n k : ℕ) (g : Float) where
  abbrev Room : Type 0
  Room = (n ≤ m) × (33 * k ≤ l)

  by-checks : (s : Structure) (es : List Entry) (a b : Bool) → leb (length (structure_bytes s)) m ≡ a → leb (entry_length * length es) l ≡ b
      → answer_of (check a R.OutputShort (check b R.ReportShort (written s es))) ≡ A.accepted n k g → Room
  by-checks s es false b p q e = let z : ◌≡◌ {A = ℕ} 0 1 = cc in absurd (omega arith)
  by-checks s es true false p q e = let z : ◌≡◌ {A = ℕ} 0 1 = cc in absurd (omega arith)
  by-checks s es true true p q e =
      let same : ◌≡◌ {A = Accepted} (record { length = length (structure_bytes s); entries = length es; greatest = greatest_from zero64 es }) (record { length = n; entries = k; greatest = g }) = cc in
      let x : length (structure_bytes s) ≡ n = ap (λ (a : Accepted). a.length) same in
      let y : length es ≡ k = ap (λ (a : Accepted). a.entries) same in
      let u : length (structure_bytes s) ≤ m = leb-true (length (structure_bytes s)) m p in
      let v : 33 * length es ≤ l = leb-true (33 * length es) l q in
      (omega arith, omega arith)

  fitting-room : (x : Result Structure) → answer_of (fitting m l x) ≡ A.accepted n k g → Room
  unfolding fitting
  fitting-room (stopped r b) e = let z : ◌≡◌ {A = ℕ} 0 1 = cc in absurd (omega arith)
  fitting-room (written s es) e = by-checks s es _ _ refl refl e

  pub accepted-room : (policy : ℕ) (d : Float) (sheet : List ℕ) → answer_of (write_cell policy d sheet m l) ≡ A.accepted n k g → Room
  unfolding write_cell
  accepted-room policy d sheet e = fitting-room (cell_structure policy d sheet) e

-- the same of the writer's promise
pub writes-room : {policy n k : ℕ} {d g : Float} {sheet out report out' report' : List ℕ} {r : Answer}
    → WritesCell policy d sheet out report out' report' (values_of r) → r ≡ A.accepted n k g → (n ≤ length out) × (33 * k ≤ length report)
writes-room {policy} {n} {k} {d} {g} {sheet} {out} {report} {r = r} w e = accepted-room (length out) (length report) n k g policy d sheet (sym (values-once r _ w.answer) ∙ e)
