-- `points::measure_points` meets its contract: the ends where all points pass; otherwise the first point, then the rest after those in front that pass. Assumes nothing.
use mathlib.Core.Path.{◌≡◌, sym, ap, ◌∙◌, subst}
use mathlib.Core.List.{List}
use Prim.Native.Nat.{ℕ, ◌+◌, ◌-◌, ◌*◌}
use native.Mathlib.Omega.{arith}
use lib.Ieee.{Float}
use Rattle.std.specs.List.{between}
use Rattle.units.specs.declared.Unit.{Unit}
use Rattle.units.specs.Point.{Point}
use Rattle.conversion.specs.declared.Entry.{Entry}
use Rattle.conversion.specs.declared.GdsRoundingPolicy.{GdsRoundingPolicy}
use Rattle.points.proofs.ChunkLaws.{Listed, listed, listed-rest}
use Rattle.std.specs.Prelude.{Err}
use Rattle.conversion.specs.code.Answer.{grid_point_of}
use Rattle.conversion.specs.code.Fold.{run}
use Rattle.conversion.specs.Points.{write_points}
use Rattle.block_places.specs.code.Place.{points_from}
use Rattle.steps.proofs.StepLaws.{handed}
use Rattle.points.specs.code.Walk.{walked, through}
use Rattle.points.specs.code.Integers.{integers_from, AllPass}
use Rattle.points.proofs.WalkLaws.{go_on, go-stop, whole-first}
use Rattle.points.proofs.PassingLaws.{pass-measured, rest-measured}
use Rattle.points.proofs.measure_points.Goals as goal

-- the list's bytes tell what the block does at its place
whole : (policy : GdsRoundingPolicy) (d : Float) (e : Entry) {s b : List ℕ} {place count : ℕ} → Listed s b place count
    → run Err e (write_points policy d 0 (points_from count s 0)) walked ≡ run Err e (write_points policy d 0 (points_from count b place)) walked
whole policy d e l = ap (λ (ps : List (Point Unit)). run Err e (write_points policy d 0 ps) walked) l.same

pub returns-then-passing-count : goal.returns-then-passing-count
returns-then-passing-count c =
    let a = c.args in
    let i = listed a.b.now a.place a.count c.requires.count_in_bounds in
    let s = between a.place (a.place + 34 * a.count) a.b.now in
    let h = subst (λ (k : ℕ). AllPass a.converter.d s k 0) c.if-passing-count.true c.count_passing-passing.ensures.pass in
    c.integer_ends.ensures
    ∙ ap (λ (j : ℕ). walked (integers_from j s 0) a.entry) i.number
    ∙ sym (pass-measured a.converter.policy a.converter.d s a.count 0 h a.entry)
    ∙ whole a.converter.policy a.converter.d a.entry i

pub returns-in_err-first : goal.returns-in_err-first
returns-in_err-first c =
    let a = c.args in
    let i = listed a.b.now a.place a.count c.requires.count_in_bounds in
    let s = between a.place (a.place + 34 * a.count) a.b.now in
    let r = c.in_err-first.field-0.0 in
    handed (λ w. w ≡ run Err a.entry (write_points a.converter.policy a.converter.d 0 (points_from a.count a.b.now a.place)) walked) r c.from_residual.result c.from_residual.ensures.1
    (sym (whole-first Err a.converter.policy a.converter.d a.count 0 s 0 a.entry walked
    ∙ go-stop Err a.converter.policy a.converter.d a.count 0 s 0 a.entry walked c.requires.le_count r c.in_err-first.ensures)
    ∙ whole a.converter.policy a.converter.d a.entry i)

pub returns : goal.returns
returns c =
    let a = c.args in
    let i = listed a.b.now a.place a.count c.requires.count_in_bounds in
    let s = between a.place (a.place + 34 * a.count) a.b.now in
    let v = c.in_ok-first.first in
    let k = c.count_passing-passing in
    let from = c.max-from.result in
    let q = grid_point_of v.point in
    let w = k.ensures.within in
    let x = c.max-from.ensures in
    let o = c.requires.le_count in
    let n = i.number in
    let g = i.long in
    let m : a.count - from + from ≡ a.count = omega arith in
    c.measure_rest.ensures
    ∙ ap (λ (ps : List (Point Unit)). run Err v.entry (write_points a.converter.policy a.converter.d from ps) (through q q)) (listed-rest s c.rest_of.result.now from (a.count - from) (omega arith) c.rest_of.ensures)
    ∙ sym
    (whole-first Err a.converter.policy a.converter.d a.count 0 s 0 a.entry walked
    ∙ go_on Err a.converter.policy a.converter.d a.count 0 s 0 a.entry walked c.requires.le_count v c.in_ok-first.ensures
    ∙ rest-measured a.converter.policy a.converter.d s a.count k.result from (a.count - from) 0 (34 * from) c.max-from.ensures c.if-passing-count.false m (omega arith) k.ensures.pass v.entry q)
    ∙ whole a.converter.policy a.converter.d a.entry i
