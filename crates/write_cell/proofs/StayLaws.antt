-- A refusal leaves both buffers as they were (document 01, "both buffers stay"). Assumes nothing.
use mathlib.Core.Path.{◌≡◌, ap}
use mathlib.Core.List.{List}
use Prim.Native.Nat.{ℕ}
use lib.Ieee.{Float}
use Rattle.stream.specs.Structure.{Structure}
use Rattle.cell.specs.Cell.{Result, stopped, written, out_after, report_after}
use Rattle.cell.specs.Answer.{Values, answer_of, values_of}
use Rattle.write_cell.specs.Writer.{defined, WritesCell}

-- of whatever keeps the writer's promise: for every policy, unit, sheet and pair of buffers
pub refused-stays : {policy : ℕ} {d : Float} {sheet out report out' report' : List ℕ} {v : Values}
    → WritesCell policy d sheet out report out' report' v → (v.number ≡ 0 → ⊥) → (out' ≡ out) × (report' ≡ report)
refused-stays {policy} {d} {sheet} {out} {report} {out'} {report'} {v} w e = go (defined policy d sheet out report) w.answer w.output w.entries
  where
    go : (y : Result Structure) → v ≡ values_of (answer_of y) → out' ≡ out_after y out → report' ≡ report_after y report → (out' ≡ out) × (report' ≡ report)
    go (stopped r j) f o p = (o, p)
    go (written s es) f o p = absurd (e (ap (λ (u : Values). u.number) f))
