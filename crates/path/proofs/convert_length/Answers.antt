-- `path::convert_length` meets its contract. Assumes nothing.
use mathlib.Core.Path.{sym, ◌∙◌}
use mir.Syntax.{w32}
use mir.Val.{SFits}
use mir.ValLaws.{to_z-of_z}
use Rattle.conversion.specs.Field.{no_axis}
use Rattle.conversion.specs.Points.{spot}
use Rattle.coordinate.proofs.ValueLaws.{same-values}
use Rattle.steps.proofs.StepLaws.{handed}
use Rattle.path.proofs.FrontLaws.{Given, length-absent, length-refused, length-there}
use borrow.Author.Rules.{rules}
use Rattle.path.proofs.convert_length.Goals as goal

pub returns-then-is_absent : goal.returns-then-is_absent
returns-then-is_absent c =
    let a = c.args in
    length-absent a.converter.policy a.converter.d a.field a.b.now a.at a.entry (sym c.is_absent.ensures ∙ c.if-is_absent.true)

pub returns-in_err-valued : goal.returns-in_err-valued
returns-in_err-valued c =
    let a = c.args in
    let r = c.in_err-valued.field-0.0 in
    handed (Given a.converter.policy a.converter.d a.field a.b.now a.at a.entry) r c.from_residual.result c.from_residual.ensures.1
    (length-refused a.converter.policy a.converter.d a.field a.b.now a.at a.entry (sym c.is_absent.ensures ∙ c.if-is_absent.false) r
    (same-values (c.convert_at-c.ensures (spot a.field no_axis 0)) c.in_err-valued.ensures))

pub returns : goal.returns
returns c =
    let a = c.args in
    let v = c.in_ok-valued in
    let f : SFits w32 v.valued.value = search rules in
    rw (to_z-of_z w32 v.valued.value f)
    (length-there a.converter.policy a.converter.d a.field a.b.now a.at a.entry (sym c.is_absent.ensures ∙ c.if-is_absent.false) v.valued
    (same-values (c.convert_at-c.ensures (spot a.field no_axis 0)) v.ensures))
