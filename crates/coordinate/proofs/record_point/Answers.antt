-- `coordinate::record_point` meets its contract: x, then y. Assumes nothing.
use mir.Syntax.{w32}
use mir.Val.{SFits}
use mir.ValLaws.{to_z-of_z}
use Rattle.steps.proofs.StepLaws.{handed}
use Rattle.coordinate.specs.code.Coordinate.{GivesPoint, both}
use Rattle.coordinate.proofs.ValueLaws.{point-stops, point-stops-at-y, point-made}
use borrow.Author.Rules.{rules}
use Rattle.coordinate.proofs.record_point.Goals as goal

pub returns-in_err-x : goal.returns-in_err-x
returns-in_err-x c =
    let a = c.args in
    let r = c.in_err-x.field-0.0 in
    handed (GivesPoint a.entry (both a.field a.place a.cx a.cy)) r c.from_residual.result c.from_residual.ensures.1 (point-stops a.field a.place a.cx a.cy a.entry r c.in_err-x.ensures)

pub returns-in_err-y : goal.returns-in_err-y
returns-in_err-y c =
    let a = c.args in
    let r = c.in_err-y.field-0.0 in
    let w = c.from_residual-in_err-y in
    handed (GivesPoint a.entry (both a.field a.place a.cx a.cy)) r w.result w.ensures.1 (point-stops-at-y a.field a.place a.cx a.cy a.entry c.in_ok-x.x c.in_ok-x.ensures r c.in_err-y.ensures)

pub returns : goal.returns
returns c =
    let a = c.args in
    let x = c.in_ok-x.x in
    let y = c.in_ok-y.y in
    let f : SFits w32 x.value = search rules in
    let h : SFits w32 y.value = search rules in
    point-made a.field a.place a.cx a.cy a.entry x c.in_ok-x.ensures y _ _ c.in_ok-y.ensures (to_z-of_z w32 x.value f) (to_z-of_z w32 y.value h)
