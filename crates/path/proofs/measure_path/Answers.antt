-- `path::measure_path` meets its contract: the front, then the points. Assumes nothing.
use mathlib.Core.Path.{sym, ap, ap₂, ◌∙◌}
use mathlib.Core.Option.{Option}
use Prim.Native.Nat.{ℕ, ◌+◌, ◌*◌}
use native.Mathlib.Omega.{arith}
use Rattle.cell.specs.Write.{is_some, write_path}
use Rattle.block_places.specs.code.Places.{path_at}
use Rattle.points.proofs.WalkLaws.{length_from}
use Rattle.steps.specs.code.Steps.{Measures}
use Rattle.steps.proofs.StepLaws.{handed}
use Rattle.path.specs.code.Length.{path_bytes, head_length}
use Rattle.path.proofs.PathLaws.{front-known, measure-refused, path-measured}
use Rattle.path.proofs.measure_path.Goals as goal

pub measure_points-walked-requires : goal.measure_points-walked-requires
measure_points-walked-requires c =
    let a = c.args in
    let v = c.in_ok-front in
    let k = front-known a.converter.policy a.converter.d a.b.now a.path a.entry v.front v.ensures in
    let grown = k.grown in
    let spare = c.requires.spare in
    record { count_in_bounds = c.requires.path_in.points-in; le_count = omega arith; count_le_max_points = k.counted; spare = omega arith }

pub returns-in_err-front : goal.returns-in_err-front
returns-in_err-front c =
    let a = c.args in
    let p = path_at a.b.now a.path in
    let r = c.in_err-front.field-0.0 in
    handed (Measures path_bytes a.entry (write_path a.converter.policy a.converter.d p)) r c.from_residual.result c.from_residual.ensures.1
    (measure-refused a.converter.policy a.converter.d p a.entry r c.in_err-front.ensures)

pub returns : goal.returns
unfolding path_at
returns c =
    let a = c.args in
    let v = c.in_ok-front in
    let s = c.measure_points-walked in
    let l = length_from a.path.points.count a.b.now a.path.points.place in
    let size = c.head_length-head.ensures.is ∙ ap (λ (k : Option ℕ). head_length (is_some k) v.front.extent) c.path_type.ensures in
    c.with_length.ensures
    ∙ path-measured a.converter.policy a.converter.d (path_at a.b.now a.path) a.entry v.front v.ensures _ (ap₂ (λ (x y : ℕ). x + 8 * y) size (sym l)) s.result s.ensures
