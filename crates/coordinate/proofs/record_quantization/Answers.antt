-- `coordinate::record_quantization` meets its contract. Assumes nothing.
use mathlib.Core.Path.{ap, ◌∙◌}
use mir.Syntax.{w32}
use mir.Val.{SFits}
use mir.ValLaws.{to_z-of_z}
use Rattle.std.specs.Prelude.{Ok}
use Rattle.conversion.specs.Points.{spot}
use Rattle.conversion.specs.code.Answer.{outcome}
use Rattle.steps.proofs.StepLaws.{handed}
use Rattle.coordinate.specs.code.Coordinate.{GivesValue}
use Rattle.coordinate.proofs.ValueLaws.{value-refused, value-exact, value-quantized}
use borrow.Author.Rules.{rules}
use Rattle.coordinate.proofs.record_quantization.Goals as goal

pub returns-in_err-value : goal.returns-in_err-value
returns-in_err-value c =
    let a = c.args in
    let s = spot a.field a.axis a.place in
    handed (GivesValue a.entry (outcome s a.c)) c.in_err-value.field-0.0 c.from_residual.result c.from_residual.ensures.1 (value-refused a.entry s a.c c.in_err-value.field-0.0 c.in_err-value.was)

pub returns-in-Converted : goal.returns-in-Converted
returns-in-Converted c =
    let a = c.args in
    let g = c.in-Converted in
    let f : SFits w32 g.value = search rules in
    value-exact a.entry (spot a.field a.axis a.place) a.c g.value _ (c.in_ok-value.was ∙ ap Ok g.is) (to_z-of_z w32 g.value f)

pub returns-in-Quantized : goal.returns-in-Quantized
returns-in-Quantized c =
    let a = c.args in
    let g = c.in-Quantized in
    let f : SFits w32 g.value = search rules in
    value-quantized a.entry (spot a.field a.axis a.place) a.c g.value _ g.physical g.error c.note.result (c.in_ok-value.was ∙ ap Ok g.is) (to_z-of_z w32 g.value f) c.note.ensures
