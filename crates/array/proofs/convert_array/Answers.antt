-- `array::convert_array` meets its contract: the origin, and then the spacings. Assumes nothing.
use mathlib.Core.Path.{◌∙◌}
use Rattle.block_places.specs.code.Place.{point_at, spacing_at}
use Rattle.array.proofs.CornerLaws.{handed-as, origin-stops, origin-refused, array_made}
use Rattle.array.proofs.convert_array.Goals as goal

pub returns-in_err-point : goal.returns-in_err-point
returns-in_err-point c =
    let a = c.args in
    let g = a.converter in
    let s = a.s in
    let b = a.b.now in
    let r = c.in_err-point.field-0.0 in
    handed-as r c.from_residual.result c.from_residual.ensures.1
    (origin-stops g.policy g.d s.sine s.cosine s.columns s.rows (point_at b s.origin) (spacing_at b s.column) (spacing_at b s.row) a.entry r c.in_err-point.ensures)

pub returns-in_err-origin : goal.returns-in_err-origin
returns-in_err-origin c =
    let a = c.args in
    let g = a.converter in
    let s = a.s in
    let b = a.b.now in
    let r = c.in_err-origin.field-0.0 in
    let w = c.from_residual-in_err-origin in
    handed-as r w.result w.ensures.1
    (origin-refused g.policy g.d s.sine s.cosine s.columns s.rows (point_at b s.origin) (spacing_at b s.column) (spacing_at b s.row) a.entry c.in_ok-point.point c.in_ok-point.ensures r c.in_err-origin.ensures)

pub returns : goal.returns
returns c =
    let a = c.args in
    let g = a.converter in
    let s = a.s in
    let b = a.b.now in
    c.convert_spacings.ensures ∙ array_made g.policy g.d s.sine s.cosine s.columns s.rows (point_at b s.origin) (spacing_at b s.column) (spacing_at b s.row) a.entry c.in_ok-point.point c.in_ok-point.ensures c.in_ok-origin.origin c.in_ok-origin.ensures
