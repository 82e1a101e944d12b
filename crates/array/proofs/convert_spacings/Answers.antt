-- `array::convert_spacings` meets its contract: both spacings, turned, and then the steps. Assumes nothing.
use mathlib.Core.Path.{◌∙◌}
use Rattle.block_places.specs.code.Place.{spacing_at}
use Rattle.array.specs.code.Corners.{physical_part, database_part}
use Rattle.array.proofs.CornerLaws.{handed-as, column-spacing-stops, row-spacing-stops, spacings-made}
use Rattle.array.proofs.convert_spacings.Goals as goal

pub returns-in_err-column : goal.returns-in_err-column
returns-in_err-column c =
    let a = c.args in
    let g = a.converter in
    let s = a.s in
    let b = a.b.now in
    let o = a.origin in
    let r = c.in_err-column.field-0.0 in
    handed-as r c.from_residual.result c.from_residual.ensures.1
    (column-spacing-stops g.policy g.d s.columns s.rows s.sine s.cosine (spacing_at b s.column) (spacing_at b s.row) (physical_part o) (database_part o) a.entry r c.in_err-column.ensures)

pub returns-in_err-row : goal.returns-in_err-row
returns-in_err-row c =
    let a = c.args in
    let g = a.converter in
    let s = a.s in
    let b = a.b.now in
    let o = a.origin in
    let r = c.in_err-row.field-0.0 in
    let w = c.from_residual-in_err-row in
    handed-as r w.result w.ensures.1
    (row-spacing-stops g.policy g.d s.columns s.rows s.sine s.cosine (spacing_at b s.column) (spacing_at b s.row) (physical_part o) (database_part o) a.entry c.in_ok-column.column c.in_ok-column.ensures r c.in_err-row.ensures)

pub returns : goal.returns
returns c =
    let a = c.args in
    let g = a.converter in
    let s = a.s in
    let b = a.b.now in
    let o = a.origin in
    c.convert_steps.ensures ∙ spacings-made g.policy g.d s.columns s.rows s.sine s.cosine (spacing_at b s.column) (spacing_at b s.row) (physical_part o) (database_part o) a.entry c.in_ok-column.column c.in_ok-column.ensures c.in_ok-row.row c.in_ok-row.ensures _ _ c.turned-turned_column.ensures c.turned-turned_row.ensures
