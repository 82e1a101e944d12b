-- What a body takes in the output, by the block alone. Assumes nothing.
use mathlib.Core.Path.{◌≡◌, sym, ap, ◌∙◌}
use mathlib.Core.Bool.{Bool, true, false, cond}
use mathlib.Core.List.{List}
use Prim.Native.Nat.{ℕ, ◌+◌, ◌%◌, ◌≤◌}
use native.Mathlib.Omega.{arith}
use lib.ListN.{length}
use lib.Ieee.{Float}
use Rattle.refusal.specs.declared.Refusal.TheVariants as R
use Rattle.big_endian.specs.Big.{number_at}
use Rattle.conversion.specs.declared.GdsRoundingPolicy.{GdsRoundingPolicy}
use Rattle.conversion.specs.declared.Deviation.{Deviation}
use Rattle.conversion.specs.Made.{made}
use Rattle.conversion.proofs.MadeLaws.{Yields, made_yields, steps, checked}
use Rattle.stream.specs.Structure as D
use Rattle.stream.specs.Record.{BOUNDARY, DATATYPE, NODE, NODETYPE}
use Rattle.cell.specs.Limits.{min_polygon_points, max_points, min_node_points, max_node_points}
use Rattle.cell.specs.Write.{is_some, write_polygon, write_node, write_body}
use Rattle.block_places.specs.declared.BodyPlaces.{BodyPlaces}
use Rattle.block_places.specs.declared.BodyPlaces.TheVariants as B
use Rattle.block_places.specs.declared.ShapePlaces.{ShapePlaces}
use Rattle.block_places.specs.code.Places.{shape_at, path_at, box_at, body_at, BodyIn}
use Rattle.points.proofs.WalkLaws.{length_from}
use Rattle.transform.specs.code.Strans.{transform_length}
use Rattle.transform.proofs.StransLaws.{length-small}
use Rattle.polygon_node.specs.code.Shape.{polygon_bytes, node_bytes, shape_length}
use Rattle.polygon_node.proofs.ShapeLaws.{shape-length}
use Rattle.boxes.proofs.BoxLaws.{box-length}
use Rattle.path.specs.code.Length.{path_bytes, path_length, flags_length}
use Rattle.path.proofs.PathLaws.{path-length}
use Rattle.text.specs.code.Text.{text_bytes, text_length}
use Rattle.text.proofs.TextLaws.{text-length}
use Rattle.reference.specs.code.Reference.{reference_bytes, single_rest, array_rest, is_single, reference_length}
use Rattle.reference.proofs.RecordLaws.{reference-length}
use Rattle.bodies.specs.code.Body.{body_bytes, body_length}

module _ (policy : GdsRoundingPolicy) (d : Float) (b : List ℕ) where
  -- a polygon is a shape whose ends meet
  polygon-length : (s : ShapePlaces) (w : D.Shape) → Yields (write_polygon policy d (shape_at b s)) w → length (polygon_bytes w) ≡ shape_length s.points.count
  unfolding write_polygon
  polygon-length s w y =
      let k = steps y in
      let e = made_yields (checked R.NotClosed k.then).then in
      ap (λ (v : D.Shape). length (polygon_bytes v)) (sym e)
      ∙ sym (shape-length policy d min_polygon_points max_points b s k.value k.first.log BOUNDARY DATATYPE k.first.is)

  node-length : (s : ShapePlaces) (w : D.Shape) → Yields (write_node policy d (shape_at b s)) w → length (node_bytes w) ≡ shape_length s.points.count
  unfolding write_node
  node-length s w y = sym (shape-length policy d min_node_points max_node_points b s w y.log NODE NODETYPE y.is)

  yields-length : (s : BodyPlaces) (w : D.SaidBody) → BodyIn b s → Yields (write_body policy d (body_at b s)) w → length (body_bytes w) ≡ body_length b s
  unfolding body_bytes body_length write_body path_bytes text_bytes reference_bytes
  yields-length (B.Polygon s) w i y =
      let k = steps y in ap (λ (v : D.SaidBody). length (body_bytes v)) (sym (made_yields k.then)) ∙ polygon-length s k.value k.first
  yields-length (B.Path s) w i y =
      let k = steps y in
      ap (λ (v : D.SaidBody). length (body_bytes v)) (sym (made_yields k.then)) ∙ path-length policy d (path_at b s) k.value k.first.log k.first.is
  yields-length (B.Text s) w i y =
      let k = steps y in ap (λ (v : D.SaidBody). length (body_bytes v)) (sym (made_yields k.then)) ∙ text-length b s i.string-in policy d k.value k.first
  yields-length (B.Node s) w i y =
      let k = steps y in ap (λ (v : D.SaidBody). length (body_bytes v)) (sym (made_yields k.then)) ∙ node-length s k.value k.first
  yields-length (B.Reference s) w i y = reference-length policy d b s i.name_in w y
  yields-length (B.Box s) w i y =
      let k = steps y in ap (λ (v : D.SaidBody). length (body_bytes v)) (sym (made_yields k.then)) ∙ box-length policy d (box_at b s) k.value k.first

-- what the definition gives has the length that the block tells
pub body-length : (policy : GdsRoundingPolicy) (d : Float) (b : List ℕ) (s : BodyPlaces) (w : D.SaidBody) (vs : List Deviation) → BodyIn b s
    → write_body policy d (body_at b s) ≡ made w vs → length (body_bytes w) ≡ body_length b s
body-length policy d b s w vs i h = yields-length policy d b s w i (record { log = vs; is = h })

flag-short : (t : Bool) (n : ℕ) → cond t n 0 ≤ n
flag-short true n = omega arith
flag-short false n = omega arith

rest-short : (t : Bool) → cond t single_rest array_rest ≤ 36
rest-short true = omega arith
rest-short false = omega arith

head-short : (typed wide begun ended : Bool) → flags_length typed wide begun ended ≤ 50
head-short typed wide begun ended =
    let a = flag-short typed 6 in
    let b = flag-short wide 8 in
    let c = flag-short begun 8 in
    let d = flag-short ended 8 in
    omega arith

transform-short : (degrees magnification : Float) (reflection : Bool) → transform_length degrees magnification reflection ≤ 30
transform-short degrees magnification reflection = length-small reflection _ _

-- and that is little more than the block
pub body-short : (b : List ℕ) (s : BodyPlaces) → BodyIn b s → body_length b s ≤ 80 + length b
unfolding body_length path_length path_at text_length reference_length
body-short b (B.Polygon s) i = let h = i.points-in in omega arith
body-short b (B.Path s) i =
    let h = i.points-in in
    let l = length_from s.points.count b s.points.place in
    let p = path_at b s in
    let k = head-short (is_some p.path_type) (is_some p.width) (is_some p.begin) (is_some p.end) in
    omega arith
body-short b (B.Text s) i = go (transform_length s.degrees s.magnification s.reflection) s.string (number_at 2 b s.string) (length b) (transform-short s.degrees s.magnification s.reflection) i.string-in
  where
    go : (t at n m : ℕ) → t ≤ 30 → at + 2 + n ≤ m → 4 + (6 + (6 + (6 + (t + (12 + (4 + (n + n % 2))))))) ≤ 80 + m
    go t at n m h k = omega arith
body-short b (B.Node s) i = let h = i.points-in in omega arith
body-short b (B.Reference s) i =
    go (transform_length s.degrees s.magnification s.reflection) s.name (number_at 2 b s.name) _ (length b) (transform-short s.degrees s.magnification s.reflection) (rest-short (is_single s)) i.name_in
  where
    go : (t at n r m : ℕ) → t ≤ 30 → r ≤ 36 → at + 2 + n ≤ m → 4 + ((4 + (n + n % 2)) + (t + r)) ≤ 80 + m
    go t at n r m h j k = omega arith
body-short b (B.Box s) i = omega arith
