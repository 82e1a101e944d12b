-- What the promises leave open, which is nothing: of whatever keeps them, two answer alike and leave the same bytes, and what is accepted draws the cell. Assumes nothing.
use mathlib.Core.Path.{◌≡◌, sym, ◌∙◌}
use mathlib.Core.List.{List}
use Prim.Native.Nat.{ℕ}
use lib.ListN.{take}
use lib.Ieee.{Float}
use Rattle.cell.specs.Answer.{Values}
use Rattle.cell.specs.Draws.{Draws}
use Rattle.write_cell.specs.Writer.{MeasuresCell, WritesCell}

pub measured-once : {policy : ℕ} {d : Float} {sheet : List ℕ} {v w : Values} → MeasuresCell policy d sheet v → MeasuresCell policy d sheet w → v ≡ w
measured-once m n = m.answer ∙ sym n.answer

module _ {policy : ℕ} {d : Float} {sheet out report out₁ report₁ : List ℕ} {v : Values} (w : WritesCell policy d sheet out report out₁ report₁ v) where
  -- "the same cell into the same stream, byte for byte": lent the same buffers, two writers leave the same in them
  pub written_once : {out₂ report₂ : List ℕ} {u : Values} → WritesCell policy d sheet out report out₂ report₂ u → (v ≡ u) × (out₁ ≡ out₂) × (report₁ ≡ report₂)
  written_once x = (w.answer ∙ sym x.answer, w.output ∙ sym x.output, w.entries ∙ sym x.entries)

  -- demand 3, of what is in the output
  pub accepted-draws : v.number ≡ 0 → Draws policy d sheet (take v.length out₁)
  accepted-draws z = w.draws z
