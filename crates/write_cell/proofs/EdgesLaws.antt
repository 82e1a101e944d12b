-- Edges never cross in what the writer leaves in the output (document 02, request 10). Assumes nothing.
use mathlib.Core.Path.{◌≡◌, sym, ap, ◌∙◌, subst₂}
use mathlib.Core.List.{List}
use Prim.Native.Nat.{ℕ}
use lib.Dec.{T}
use lib.ListN.{take}
use lib.Ieee.{Float, binary64, fits}
use Rattle.big_endian.specs.Big.{Bytes}
use Rattle.cell.specs.Answer.{answer_of, Values}
use Rattle.cell.specs.Edges.{KeepsEdges}
use Rattle.cell.proofs.AnswerLaws.{accepted}
use Rattle.cell.proofs.DrawsLaws.{edges-never-cross}
use Rattle.write_cell.specs.Writer.{defined, WritesCell}

-- `edges-never-cross`, of whatever keeps the writer's promise: for every policy, unit, sheet and pair of buffers
pub writes-edges : {policy : ℕ} {d : Float} {sheet out report out' report' : List ℕ} {v : Values} → T (fits binary64 d) → Bytes sheet
    → WritesCell policy d sheet out report out' report' v → v.number ≡ 0 → KeepsEdges d sheet (take v.length out')
writes-edges {policy} {d} {sheet} {out} {report} {out'} {report'} {v} fd all w z =
    let a = answer_of (defined policy d sheet out report) in
    let e = accepted a (sym (ap (λ (u : Values). u.number) w.answer) ∙ z) in
    subst₂ (λ (n : ℕ) (o : List ℕ). KeepsEdges d sheet (take n o)) (sym (ap (λ (u : Values). u.length) w.answer)) (sym w.output)
    (edges-never-cross policy d sheet out report _ _ _ fd all e)
