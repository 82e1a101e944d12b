-- `array::convert_endpoints` meets its contract: columns, and then rows. Assumes nothing.
use Rattle.array.specs.code.Corners.{physical_part, database_part}
use Rattle.array.proofs.CornerLaws.{handed-as, columns-stop, rows-stop, corners-made}
use Rattle.array.proofs.convert_endpoints.Goals as goal

pub returns-in_err-columns : goal.returns-in_err-columns
returns-in_err-columns c =
    let a = c.args in
    let g = a.converter in
    let o = a.origin in
    let u = a.column in
    let v = a.row in
    let r = c.in_err-columns.field-0.0 in
    handed-as r c.from_residual.result c.from_residual.ensures.1
    (columns-stop g.policy g.d a.s.columns a.s.rows (physical_part o) (database_part o) (physical_part u) (physical_part v) (database_part u) (database_part v) a.entry r c.in_err-columns.ensures)

pub returns-in_err-rows : goal.returns-in_err-rows
returns-in_err-rows c =
    let a = c.args in
    let g = a.converter in
    let o = a.origin in
    let u = a.column in
    let v = a.row in
    let r = c.in_err-rows.field-0.0 in
    let w = c.from_residual-in_err-rows in
    handed-as r w.result w.ensures.1
    (rows-stop g.policy g.d a.s.columns a.s.rows (physical_part o) (database_part o) (physical_part u) (physical_part v) (database_part u) (database_part v) a.entry c.in_ok-columns.columns c.in_ok-columns.ensures r c.in_err-rows.ensures)

pub returns : goal.returns
returns c =
    let a = c.args in
    let g = a.converter in
    let o = a.origin in
    let u = a.column in
    let v = a.row in
    corners-made g.policy g.d a.s.columns a.s.rows (physical_part o) (database_part o) (physical_part u) (physical_part v) (database_part u) (database_part v) a.entry c.in_ok-columns.columns c.in_ok-columns.ensures c.in_ok-rows.rows c.in_ok-rows.ensures
