-- `array::convert_steps` meets its contract: the column step, the row step, and then the endpoints. Assumes nothing.
use mathlib.Core.Path.{◌∙◌}
use Rattle.conversion.specs.code.Answer.{point_of}
use Rattle.array.specs.code.Corners.{physical_part, database_part}
use Rattle.array.proofs.CornerLaws.{handed-as, column-stops, row-stops, steps-made}
use Rattle.array.proofs.convert_steps.Goals as goal

pub returns-in_err-column_step : goal.returns-in_err-column_step
returns-in_err-column_step c =
    let a = c.args in
    let g = a.converter in
    let o = a.origin in
    let r = c.in_err-column_step.field-0.0 in
    handed-as r c.from_residual.result c.from_residual.ensures.1
    (column-stops g.policy g.d a.s.columns a.s.rows (physical_part o) (database_part o) (point_of a.column) (point_of a.row) a.entry r c.in_err-column_step.ensures)

pub returns-in_err-row_step : goal.returns-in_err-row_step
returns-in_err-row_step c =
    let a = c.args in
    let g = a.converter in
    let o = a.origin in
    let r = c.in_err-row_step.field-0.0 in
    let w = c.from_residual-in_err-row_step in
    handed-as r w.result w.ensures.1
    (row-stops g.policy g.d a.s.columns a.s.rows (physical_part o) (database_part o) (point_of a.column) (point_of a.row) a.entry c.in_ok-column_step.column_step c.in_ok-column_step.ensures r c.in_err-row_step.ensures)

pub returns : goal.returns
returns c =
    let a = c.args in
    let g = a.converter in
    let o = a.origin in
    c.convert_endpoints.ensures ∙ steps-made g.policy g.d a.s.columns a.s.rows (physical_part o) (database_part o) (point_of a.column) (point_of a.row) a.entry c.in_ok-column_step.column_step c.in_ok-column_step.ensures c.in_ok-row_step.row_step c.in_ok-row_step.ensures
