-- `array::convert_endpoint` meets its contract, by the endpoints of both coordinates, of which x's may stop before y is asked. Assumes nothing.
use mathlib.Core.Path.{◌∙◌}
use mir.Syntax.{w32}
use mir.Val.{SFits}
use mir.ValLaws.{to_z-of_z}
use Rattle.conversion.specs.Array.{write_endpoint}
use Rattle.conversion.specs.Field.{x_axis, y_axis}
use Rattle.conversion.specs.Points.{spot}
use Rattle.steps.proofs.StepLaws.{handed}
use Rattle.array.specs.code.Corners.{physical_part, database_part, end_of, Ends}
use Rattle.array.proofs.CoordinateLaws.{same-endpoint, end-x-stops, end-y-stops, end-recorded}
use borrow.Author.Rules.{rules}
use Rattle.array.proofs.convert_endpoint.Goals as goal

pub returns-in_err-x : goal.returns-in_err-x
returns-in_err-x c =
    let a = c.args in
    let g = a.converter in
    let o = a.origin.database in
    let s = a.step.database in
    let ox : SFits w32 o.x = search rules in
    let sx : SFits w32 s.x = search rules in
    let at = spot a.field x_axis 0 in
    let r = c.in_err-x.field-0.0 in
    let q = end_of (database_part a.origin) (database_part a.step) a.n in
    handed (Ends a.entry q (write_endpoint g.policy g.d a.field (database_part a.origin) (database_part a.step) a.n (physical_part a.origin) (physical_part a.step))) r c.from_residual.result c.from_residual.ensures.1
    (end-x-stops g.policy g.d a.field (database_part a.origin) (database_part a.step) a.n (physical_part a.origin) (physical_part a.step) a.entry r
    (c.in_err-x.ensures at ∙ same-endpoint g.d at a.n _ o.x _ s.x _ _ (to_z-of_z w32 o.x ox) (to_z-of_z w32 s.x sx) c.endpoint_physical-end_x.ensures))

pub returns-in_err-y : goal.returns-in_err-y
returns-in_err-y c =
    let a = c.args in
    let g = a.converter in
    let o = a.origin.database in
    let s = a.step.database in
    let ox : SFits w32 o.x = search rules in
    let sx : SFits w32 s.x = search rules in
    let oy : SFits w32 o.y = search rules in
    let sy : SFits w32 s.y = search rules in
    let at = spot a.field x_axis 0 in
    let then = spot a.field y_axis 0 in
    let r = c.in_err-y.field-0.0 in
    let q = end_of (database_part a.origin) (database_part a.step) a.n in
    handed (Ends a.entry q (write_endpoint g.policy g.d a.field (database_part a.origin) (database_part a.step) a.n (physical_part a.origin) (physical_part a.step))) r c.from_residual-in_err-y.result c.from_residual-in_err-y.ensures.1
    (end-y-stops g.policy g.d a.field (database_part a.origin) (database_part a.step) a.n (physical_part a.origin) (physical_part a.step) a.entry r c.in_ok-x.x
    (c.in_ok-x.ensures at ∙ same-endpoint g.d at a.n _ o.x _ s.x _ _ (to_z-of_z w32 o.x ox) (to_z-of_z w32 s.x sx) c.endpoint_physical-end_x.ensures)
    (c.in_err-y.ensures then ∙ same-endpoint g.d then a.n _ o.y _ s.y _ _ (to_z-of_z w32 o.y oy) (to_z-of_z w32 s.y sy) c.endpoint_physical-end_y.ensures))

pub returns : goal.returns
returns c =
    let a = c.args in
    let g = a.converter in
    let o = a.origin.database in
    let s = a.step.database in
    let ox : SFits w32 o.x = search rules in
    let sx : SFits w32 s.x = search rules in
    let oy : SFits w32 o.y = search rules in
    let sy : SFits w32 s.y = search rules in
    let at = spot a.field x_axis 0 in
    let then = spot a.field y_axis 0 in
    end-recorded g.policy g.d a.field (database_part a.origin) (database_part a.step) a.n (physical_part a.origin) (physical_part a.step) a.entry _ _
    (c.in_ok-x.ensures at ∙ same-endpoint g.d at a.n _ o.x _ s.x _ _ (to_z-of_z w32 o.x ox) (to_z-of_z w32 s.x sx) c.endpoint_physical-end_x.ensures)
    (c.in_ok-y.ensures then ∙ same-endpoint g.d then a.n _ o.y _ s.y _ _ (to_z-of_z w32 o.y oy) (to_z-of_z w32 s.y sy) c.endpoint_physical-end_y.ensures)
    c.record_point.result c.record_point.ensures
