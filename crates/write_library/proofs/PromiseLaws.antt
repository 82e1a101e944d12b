-- What the promises leave open, which is nothing: of whatever keeps them, two answer alike and leave the same bytes, a refusal leaves both buffers, and what is accepted draws the library. Assumes nothing.
use mathlib.Core.Path.{◌≡◌, sym, ap, ◌∙◌}
use mathlib.Core.List.{List}
use Prim.Native.Nat.{ℕ}
use lib.ListN.{take}
use lib.Ieee.{Float}
use Rattle.library.specs.Library.{Result, stopped, written, LibraryFile, out_after, report_after}
use Rattle.library.specs.Answer.{Values, answer_of, values_of}
use Rattle.library.specs.Draws.{DrawsLibrary}
use Rattle.write_library.specs.Writer.{defined, MeasuresLibrary, WritesLibrary}

pub measured-once : {policy : ℕ} {d : Float} {sheet : List ℕ} {v w : Values} → MeasuresLibrary policy d sheet v → MeasuresLibrary policy d sheet w → v ≡ w
measured-once m n = m.answer ∙ sym n.answer

module _ {policy : ℕ} {d : Float} {sheet out report out₁ report₁ : List ℕ} {v : Values} (w : WritesLibrary policy d sheet out report out₁ report₁ v) where
  -- the same library into the same file, byte for byte: lent the same buffers, two writers leave the same in them
  pub written_once : {out₂ report₂ : List ℕ} {u : Values} → WritesLibrary policy d sheet out report out₂ report₂ u → (v ≡ u) × (out₁ ≡ out₂) × (report₁ ≡ report₂)
  written_once x = (w.answer ∙ sym x.answer, w.output ∙ sym x.output, w.entries ∙ sym x.entries)

  -- a refusal leaves both buffers as they were
  pub refused-stays : (v.number ≡ 0 → ⊥) → (out₁ ≡ out) × (report₁ ≡ report)
  refused-stays e = go (defined policy d sheet out report) w.answer w.output w.entries
    where
      go : (y : Result LibraryFile) → v ≡ values_of (answer_of y) → out₁ ≡ out_after y out → report₁ ≡ report_after y report → (out₁ ≡ out) × (report₁ ≡ report)
      go (stopped r c k) f o p = (o, p)
      go (written l) f o p = absurd (e (ap (λ (u : Values). u.number) f))

  -- the drawing statement, of what is in the output
  pub accepted-draws : v.number ≡ 0 → DrawsLibrary policy d sheet (take v.length out₁)
  accepted-draws z = w.draws z
