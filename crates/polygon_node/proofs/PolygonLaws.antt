-- A polygon's ends: the first point is the last where the code finds it so; and a polygon or a node that succeeds is its points. Assumes nothing.
use mathlib.Core.Path.{◌≡◌, refl, sym, ap, ap₂, ◌∙◌, subst}
use mathlib.Core.Bool.{Bool, true, false, true≢false, cond, not, ◌&&◌}
use mathlib.Core.List.{List, [], ◌∷◌, append-nil}
use Prim.Native.Nat.{ℕ, ◌≤◌}
use native.Mathlib.Omega.{arith}
use lib.Dec.{eqb}
use lib.ListN.{length}
use lib.IntN.{ℤ, pos, negsuc}
use lib.Ieee.{Float}
use lib.Ieee.Bits.{is_true}
use Rattle.binary64.specs.Value.{same_int}
use Rattle.std.proofs.Common.{int_eq}
use Rattle.std.specs.Bool.{Decides}
use Rattle.std.proofs.lemmas.Bool.Decides.{same_from_decides, Decides-like, Decides-int_eq, Decides-eqb}
use Rattle.std.specs.Prelude.{Result, Ok, Err}
use Rattle.refusal.specs.declared.Refusal.{Refusal}
use Rattle.refusal.specs.declared.Refusal.TheVariants as R
use Rattle.units.specs.Point.{Point}
use Rattle.conversion.specs.declared.DatabasePoint.{DatabasePoint}
use Rattle.conversion.specs.declared.Deviation.{Deviation}
use Rattle.conversion.specs.declared.Entry.{Entry}
use Rattle.conversion.specs.declared.GdsRoundingPolicy.{GdsRoundingPolicy}
use Rattle.conversion.specs.Made.{Made, refused, made, pure, after, need, ◌>>=◌, ◌>>◌}
use Rattle.conversion.specs.code.Answer.{grid_point_of}
use Rattle.conversion.specs.code.Fold.{noted_all, run}
use Rattle.conversion.specs.Points.{write_points}
use Rattle.conversion.proofs.MadeLaws.{steps, checked}
use Rattle.stream.specs.Structure as D
use Rattle.stream.specs.Record.{BOUNDARY, DATATYPE, NODE, NODETYPE}
use Rattle.cell.specs.Limits.{min_polygon_points, min_node_points, max_points, max_node_points}
use Rattle.cell.specs.Write.{same_point, closed, write_shape, write_polygon, write_node}
use Rattle.steps.specs.declared.Measured.{Measured}
use Rattle.steps.specs.code.Steps.{through as measured, sizing, Measures, Succeeds}
use Rattle.steps.proofs.StepLaws.{yields, succeeds}
use Rattle.block_places.specs.declared.ShapePlaces.{ShapePlaces}
use Rattle.block_places.specs.code.Places.{points_at, shape_at}
use Rattle.points.specs.declared.Walked.{Walked}
use Rattle.points.specs.code.Walk.{through, walked, with_length}
use Rattle.points.proofs.EndsLaws.{ends-length, ends-measured}
use Rattle.points.proofs.WalkLaws.{length_from}
use Rattle.polygon_node.specs.code.Shape.{polygon_bytes, node_bytes, shape_length, shape_ends, after_checks}
use Rattle.polygon_node.proofs.CheckLaws.{shape-past, shape-counted}
use Rattle.polygon_node.proofs.ShapeLaws.{shape-length}

-- ---- a polygon is a shape whose ends meet

-- the code's test of two points, and the definitions'
int-same : (a b : ℤ) → int_eq a b ≡ same_int a b
int-same a b = same_from_decides (int_eq a b) (same_int a b) (Decides-int_eq a b) (decides a b)
  where
    decides : (a b : ℤ) → Decides (same_int a b) (a ≡ b)
    decides (pos m) (pos n) = Decides-like (eqb m n) (ap pos) (λ e. cc) (Decides-eqb m n)
    decides (pos m) (negsuc n) = (λ e. absurd (true≢false (sym e)), λ e. cc)
    decides (negsuc m) (pos n) = (λ e. absurd (true≢false (sym e)), λ e. cc)
    decides (negsuc m) (negsuc n) = Decides-like (eqb m n) (ap negsuc) (λ e. cc) (Decides-eqb m n)

points-same : (p q : DatabasePoint) → int_eq p.x q.x && int_eq p.y q.y ≡ same_point (grid_point_of p) (grid_point_of q)
points-same p q = ap₂ ◌&&◌ (int-same p.x q.x) (int-same p.y q.y)

-- they meet, where no refusal is
abbrev meet : Result Walked Refusal → Bool
meet (Err x) = true
meet (Ok w) = same_point (grid_point_of w.first) (grid_point_of w.last)

ends-closed : (ps : List (Point ℤ)) (e : Entry) → meet (walked ps e) ≡ closed ps
unfolding walked through closed
ends-closed [] e = refl
ends-closed (p ∷ ps) e = refl

-- what measuring answers of a shape's ends r, where its records take n bytes
module _ (e : Entry) (n : ℕ) where
  abbrev answer : Result Walked Refusal → Result Measured Refusal
  answer r = cond (meet r) (with_length n r) (Err R.NotClosed)

  ends-answer : (m : Made D.Shape) → ((w : D.Shape) (vs : List Deviation) → m ≡ made w vs → n ≡ length (polygon_bytes w)) → (r : Result Walked Refusal) → r ≡ run Err e m shape_ends
      → Measures polygon_bytes e (m >>= λ w. need (closed w.points) R.NotClosed >> pure w) (answer r)
  unfolding run sizing need ◌>>=◌ ◌>>◌
  ends-answer (refused x) l r h = ap answer h
  ends-answer (made w vs) l r h = ap answer h ∙ go (closed w.points) refl
    where
      last : Entry
      last = noted_all e vs

      found : Bool → Result Measured Refusal
      found t = run Err e (after vs (need t R.NotClosed >> pure w)) (sizing polygon_bytes)

      met : (t : Bool) → closed w.points ≡ t → answer (shape_ends w last) ≡ cond t (measured n last) (Err R.NotClosed)
      met t c = ap₂ (λ (t : Bool) (x : Result Measured Refusal). cond t x (Err R.NotClosed)) (ends-closed w.points last ∙ c) (ends-length n w.points last)

      go : (t : Bool) → closed w.points ≡ t → answer (shape_ends w last) ≡ found (closed w.points)
      go true c = met true c ∙ ap₂ (λ (k : ℕ) (us : List Deviation). measured k (noted_all e us)) (l w vs refl) (sym (append-nil vs)) ∙ ap found (sym c)
      go false c = met false c ∙ ap found (sym c)

-- the shape at s, whose ends are r
module _ (policy : GdsRoundingPolicy) (d : Float) (b : List ℕ) (s : ShapePlaces) (e : Entry) where
  abbrev size : ℕ
  size = shape_length s.points.count

  abbrev Ends : ℕ → ℕ → Result Walked Refusal → Type 0
  Ends least most r = r ≡ run Err e (write_shape policy d least most (shape_at b s)) shape_ends

  abbrev Polygon : Result Measured Refusal → Type 0
  Polygon m = Measures polygon_bytes e (write_polygon policy d (shape_at b s)) m

  answered : (r : Result Walked Refusal) → Ends min_polygon_points max_points r → Polygon (answer e size r)
  unfolding write_polygon
  answered r h = ends-answer e size (write_shape policy d min_polygon_points max_points (shape_at b s)) (λ w vs g. shape-length policy d min_polygon_points max_points b s w vs BOUNDARY DATATYPE g) r h

  pub polygon-refused : (x : Refusal) → Ends min_polygon_points max_points (Err x) → Polygon (Err x)
  polygon-refused x h = answered (Err x) h

  module _ (w : Walked) (h : Ends min_polygon_points max_points (Ok w)) where
    ends-met : (t : Bool) → t ≡ not (int_eq w.first.x w.last.x && int_eq w.first.y w.last.y) → Polygon (cond t (Err R.NotClosed) (measured size w.entry))
    ends-met t c = rw (c, points-same w.first w.last) (go (same_point (grid_point_of w.first) (grid_point_of w.last)) (answered (Ok w) h))
      where
        go : (t : Bool) → Polygon (cond t (with_length size (Ok w)) (Err R.NotClosed)) → Polygon (cond (not t) (Err R.NotClosed) (measured size w.entry))
        go true p = p
        go false p = p

    pub polygon-open : true ≡ not (int_eq w.first.x w.last.x && int_eq w.first.y w.last.y) → Polygon (Err R.NotClosed)
    polygon-open c = ends-met true c

    pub polygon-measured : false ≡ not (int_eq w.first.x w.last.x && int_eq w.first.y w.last.y) → Polygon (measured size w.entry)
    polygon-measured c = ends-met false c

  pub node-measured : (r : Result Walked Refusal) → Ends min_node_points max_node_points r → Measures node_bytes e (write_node policy d (shape_at b s)) (with_length size r)
  unfolding write_node
  node-measured r h =
      ends-measured (λ (w : D.Shape). w.points) node_bytes e size (write_shape policy d min_node_points max_node_points (shape_at b s))
      (λ w vs g. shape-length policy d min_node_points max_node_points b s w vs NODE NODETYPE g) r h

-- ---- a polygon or a node that succeeds is its points

-- the step m, of the shape at s: what it takes to write it
pub record Ready (policy : GdsRoundingPolicy) (d : Float) (b : List ℕ) (s : ShapePlaces) (m : Made D.Shape) : Type 0 where
  pub is : m ≡ after_checks policy d (shape_at b s)
  pub counted : s.points.count ≤ max_points
  pub points : Succeeds (write_points policy d 0 (points_at b s.points))

module _ (policy : GdsRoundingPolicy) (d : Float) (b : List ℕ) (s : ShapePlaces) where
  shape-ready : (least most : ℕ) (m : Made D.Shape) → most ≤ max_points → m ≡ write_shape policy d least most (shape_at b s) → Succeeds m → Ready policy d b s m
  unfolding shape_at after_checks
  shape-ready least most m l h g =
      let e = shape_at b s in
      let w : Succeeds (write_shape policy d least most e) = subst Succeeds h g in
      let is : write_shape policy d least most e ≡ after_checks policy d e = shape-past policy d least most e w in
      let n = length_from s.points.count b s.points.place in
      let k = shape-counted policy d least most e w in
      record { is = h ∙ is; counted = omega arith; points = succeeds (steps (yields (subst Succeeds is w))).first }

  -- its ends meet
  closed_is : (w : D.Shape) (vs : List Deviation) → write_shape policy d min_polygon_points max_points (shape_at b s) ≡ made w vs → closed w.points ≡ true
      → write_polygon policy d (shape_at b s) ≡ write_shape policy d min_polygon_points max_points (shape_at b s)
  unfolding write_polygon ◌>>=◌ ◌>>◌ need
  closed_is w vs h c =
      ap (λ (m : Made D.Shape). m >>= λ w. need (closed w.points) R.NotClosed >> pure w) h
      ∙ ap (λ (t : Bool). after vs (need t R.NotClosed >> pure w)) c
      ∙ ap (made w) (append-nil vs)
      ∙ sym h

  pub polygon-ready : Succeeds (write_polygon policy d (shape_at b s)) → Ready policy d b s (write_polygon policy d (shape_at b s))
  unfolding write_polygon
  polygon-ready g =
      let a = steps (yields g) in
      let c = is_true (closed a.value.points) (checked R.NotClosed a.then).passed in
      shape-ready min_polygon_points max_points (write_polygon policy d (shape_at b s)) (omega arith) (closed_is a.value a.first.log a.first.is c) g

  pub node-ready : Succeeds (write_node policy d (shape_at b s)) → Ready policy d b s (write_node policy d (shape_at b s))
  unfolding write_node
  node-ready g = shape-ready min_node_points max_node_points (write_node policy d (shape_at b s)) (omega arith) refl g
