-- The bytes of a shape: those before the points, then the points; and how many there are. Assumes nothing.
use mathlib.Core.Path.{◌≡◌, sym, ap, ◌∙◌}
use mathlib.Core.List.{List, ◌++◌, append-nil}
use Prim.Native.Nat.{ℕ, ◌+◌, ◌*◌}
use native.Mathlib.Omega.{arith}
use lib.ListN.{length}
use lib.IntN.{ℤ}
use lib.Ieee.{Float}
use Rattle.refusal.specs.declared.Refusal.TheVariants as R
use Rattle.units.specs.Point.{Point}
use Rattle.conversion.specs.declared.Deviation.{Deviation}
use Rattle.conversion.specs.declared.Entry.{Entry}
use Rattle.conversion.specs.declared.GdsRoundingPolicy.{GdsRoundingPolicy}
use Rattle.conversion.specs.Made.{made}
use Rattle.conversion.specs.Points.{write_points}
use Rattle.conversion.proofs.MadeLaws.{Yields, made_yields, steps, checked, then-steps}
use Rattle.sheet.specs.Element as S
use Rattle.stream.specs.Structure as D
use Rattle.stream.specs.Record.{LAYER, XY, four_byte, record_bytes, stream_bytes}
use Rattle.stream.specs.Records.{empty_record, word_record, xy_record, points_bytes, shape_records}
use Rattle.cell.specs.Write.{write_shape}
use Rattle.records.specs.code.Bytes.{head_bytes, Placed}
use Rattle.block_places.specs.declared.ShapePlaces.{ShapePlaces}
use Rattle.block_places.specs.code.Places.{points_at, shape_at}
use Rattle.steps.specs.declared.Written.{Written}
use Rattle.steps.specs.code.Steps.{Writes}
use Rattle.steps.proofs.StepLaws.{write-after}
use Rattle.points.proofs.WalkLaws.{length_from, length-made, length-bytes}
use Rattle.polygon_node.specs.code.Shape.{shape_bytes, shape_head_length, shape_length, shape_head, after_checks}

-- ---- how many bytes

pub shape-bytes-length : (code type_code : ℕ) (w : D.Shape) → length (shape_bytes code type_code w) ≡ shape_length (length w.points)
unfolding stream_bytes record_bytes shape_records
shape-bytes-length code type_code w =
    let h = length-bytes w.points in
    let g = ap length (append-nil (points_bytes w.points)) in
    omega arith

-- as many points come out as go in
points_kept : (policy : GdsRoundingPolicy) (d : Float) (least most : ℕ) (e : S.Shape) (w : D.Shape) (vs : List Deviation) → write_shape policy d least most e ≡ made w vs
    → length w.points ≡ length e.points
unfolding write_shape
points_kept policy d least most e w vs h =
    let y : Yields (write_shape policy d least most e) w = record { log = vs; is = h } in
    let a = checked R.PointCount y in
    let b = then-steps a.then in
    let c = steps b.then in
    ap (λ (x : D.Shape). length x.points) (sym (made_yields c.then)) ∙ length-made policy d 0 e.points c.value c.first.log c.first.is

-- what the definition gives has the length that the places tell
pub shape-length : (policy : GdsRoundingPolicy) (d : Float) (least most : ℕ) (b : List ℕ) (s : ShapePlaces) (w : D.Shape) (vs : List Deviation) (code type_code : ℕ)
    → write_shape policy d least most (shape_at b s) ≡ made w vs → shape_length s.points.count ≡ length (shape_bytes code type_code w)
unfolding shape_at
shape-length policy d least most b s w vs code type_code h =
    sym (shape-bytes-length code type_code w ∙ ap shape_length (points_kept policy d least most (shape_at b s) w vs h ∙ length_from s.points.count b s.points.place))

-- ---- the head, then the points

head-then-points : (code type_code : ℕ) (w : D.Shape) (n : ℕ) → length w.points ≡ n → shape_head code type_code w.layer w.datatype n ++ points_bytes w.points ≡ shape_bytes code type_code w
unfolding stream_bytes record_bytes shape_records
head-then-points code type_code w n h =
    ap before-xy
    (ap (λ (k : ℕ). head_bytes (4 + k) XY four_byte ++ points_bytes w.points) (sym (length-bytes w.points ∙ ap (λ (k : ℕ). 8 * k) h))
    ∙ sym (append-nil (record_bytes (xy_record w.points))))
  where
    before-xy : List ℕ → List ℕ
    before-xy l = record_bytes (empty_record code) ++ (record_bytes (word_record LAYER w.layer) ++ (record_bytes (word_record type_code w.datatype) ++ l))

-- the points, written after the head, are the shape
module _ (policy : GdsRoundingPolicy) (d : Float) (b : List ℕ) (s : ShapePlaces) (e : Entry) (code type_code : ℕ) where
  abbrev shaped : List (Point ℤ) → D.Shape
  shaped ps = record { layer = s.layer; datatype = s.datatype; points = ps }

  pub shape-put : {at to : ℕ} {before cur last : List ℕ} {r : Written} → Placed (shape_head code type_code s.layer s.datatype s.points.count) shape_head_length before cur at to
      → Writes points_bytes e (write_points policy d 0 (points_at b s.points)) to cur last r
      → Writes (shape_bytes code type_code) e (after_checks policy d (shape_at b s)) at before last r
  unfolding after_checks shape_at
  shape-put w u =
      let ps = points_at b s.points in
      let qs = u.step.value in
      let kept = length-made policy d 0 ps qs u.step.deviations u.step.makes ∙ length_from s.points.count b s.points.place in
      write-after points_bytes (shape_bytes code type_code) shaped e (write_points policy d 0 ps) u w.wrote (sym (head-then-points code type_code (shaped qs) s.points.count kept))
