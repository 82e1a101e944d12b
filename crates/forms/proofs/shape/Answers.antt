-- `forms::shape` meets its contract: layer and type, then the points. Assumes nothing.
use mathlib.Core.Path.{◌≡◌, refl, ap}
use mathlib.Core.Bool.{Bool, true, false, cond}
use mathlib.Core.List.{List}
use Prim.Native.Nat.{ℕ, ◌+◌, ◌*◌, ◌≤◌}
use native.Mathlib.Omega.{arith}
use lib.ListN.{length, drop, length-drop}
use Rattle.std.specs.Prelude.{None}
use Rattle.parsing.specs.Parse.{ill, part, ill_formed, times}
use Rattle.sheet.specs.Form.{num, counted, point}
use Rattle.sheet.specs.Element.{polygon_kind, node_kind, body_form, shape_form}
use Rattle.block_places.specs.declared.ShapePlaces.{ShapePlaces}
use Rattle.block_places.specs.code.Places.{shape_at, shape_places, ShapeIn}
use Rattle.forms.specs.code.Checks.{BodyRead}
use Rattle.forms.proofs.Step.{layer-at, type-at}
use Rattle.forms.proofs.Sized.{sized-num, sized-times, sized-point, sized-within, Needs, needs-bind, needs-front, counted-needs}
use Rattle.forms.proofs.PropertyLaws.{counted-at}
use Rattle.forms.proofs.shape.Goals as goal
use Rattle.forms.proofs.shape.Goals.{Else-not-points}

shape-needs : Needs 6 shape_form
unfolding shape_form
shape-needs = needs-bind 2 4 6 (num 2) _ refl (sized-num 2) (λ l. needs-bind 2 2 4 (num 2) _ refl (sized-num 2) (λ t. needs-front 2 (counted point) _ (counted-needs point)))

-- as a polygon or as a node
shape-ill : (b : List ℕ) (node : Bool) → shape_form (drop 1 b) ≡ ill ill_formed → BodyRead (cond node node_kind polygon_kind) b None
unfolding body_form
shape-ill b true e = record { form = rw e; places = tt }
shape-ill b false e = record { form = rw e; places = tt }

pub returns-then-b-lt-SHAPE_POINTS : goal.returns-then-b-lt-SHAPE_POINTS
returns-then-b-lt-SHAPE_POINTS c = shape-ill c.args.b.now c.args.node (shape-needs (drop 1 c.args.b.now) (simp length-drop (omega arith)))

pub returns-then-not-points : goal.returns-then-not-points
unfolding shape_form shape_places
returns-then-not-points c =
    let b = c.args.b.now in
    let h : 5 ≤ length b = omega arith in
    let e = ap (λ (s : ShapePlaces). s.points.count) c.shape_places-shape.ensures.0 in
    shape-ill b c.args.node (rw (layer-at, type-at, counted-at point b 5 c.shape_places-shape.result.points.count (omega arith) e c.if-not-points.ensures.is))

module _ (c : Else-not-points) where
  form : shape_form (drop 1 c.args.b.now) ≡ part (shape_at c.args.b.now c.shape_places-shape.result) (drop (7 + 34 * c.shape_places-shape.result.points.count) c.args.b.now)
  unfolding shape_form shape_at shape_places
  form =
      let b = c.args.b.now in
      let h : 5 ≤ length b = omega arith in
      let e = ap (λ (s : ShapePlaces). s.points.count) c.shape_places-shape.ensures.0 in
      let points = counted-at point b 5 c.shape_places-shape.result.points.count (omega arith) e c.if-not-points.ensures.is in
      rw (layer-at, type-at, points, c.shape_places-shape.ensures.0)

  within : 7 + 34 * c.shape_places-shape.result.points.count ≤ length c.args.b.now
  within =
      let n = c.shape_places-shape.result.points.count in
      sized-within (34 * n) (times n point) c.args.b.now 7 (sized-times 34 n point sized-point) (omega arith) c.if-not-points.ensures.is

  inside : ShapeIn c.args.b.now c.shape_places-shape.result
  unfolding shape_places
  inside = record { points-in = let w = within in let e = ap (λ (s : ShapePlaces). s.points.place) c.shape_places-shape.ensures.0 in omega arith }

pub returns-then-node : goal.returns-then-node
unfolding body_form
returns-then-node c =
    let d = (goal.at.returns-then-node c).Else-not-points in
    rw c.if-node.true (record { form = rw (form d); places = record { body-in = inside d; end-in = within d } })

pub returns-else-node : goal.returns-else-node
unfolding body_form
returns-else-node c =
    let d = (goal.at.returns-else-node c).Else-not-points in
    rw c.if-node.false (record { form = rw (form d); places = record { body-in = inside d; end-in = within d } })
