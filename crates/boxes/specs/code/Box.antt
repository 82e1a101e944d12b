-- What the code of a box answers, and the bytes of its records with their length (document 02, request 3; `write_box_with_converter` of write/mod.rs). Assumes nothing.
use Rattle.std.specs.Prelude.{◌≡◌, List, [], ℕ, ◌+◌, ◌*◌, ℤ, Float, Result}
use Rattle.refusal.specs.declared.Refusal.{Refusal}
use Rattle.units.specs.declared.Unit.{Unit}
use Rattle.units.specs.Point.{Point}
use Rattle.conversion.specs.declared.DatabasePoint.{DatabasePoint}
use Rattle.conversion.specs.declared.GdsRoundingPolicy.{GdsRoundingPolicy}
use Rattle.conversion.specs.Convert.{Spot, convert_unit}
use Rattle.conversion.specs.code.Answer.{outcome, grid_point_of}
use Rattle.stream.specs.Structure as D
use Rattle.stream.specs.Record.{BOX, BOXTYPE, stream_bytes}
use Rattle.stream.specs.Records.{shape_records}
use Rattle.cell.specs.Write.{box_points}
use Rattle.records.specs.code.Bytes.{record_head, word_record_length, xy_point_length}
use Rattle.block_places.specs.declared.BoxPlaces.{BoxPlaces}
use Rattle.steps.specs.code.Ready.{Ready, ready_by}
use Rattle.boxes.specs.declared.Corners.{Corners}
use Rattle.boxes.specs.declared.BoxValues.{BoxValues}

-- ---- its bytes

abbrev pub box_bytes : D.Shape → List ℕ
box_bytes w = stream_bytes (shape_records BOX BOXTYPE w [])

-- XY of five points
abbrev pub box_xy_length : ℕ
box_xy_length = record_head + 5 * xy_point_length

-- BOX, LAYER, BOXTYPE, XY
abbrev pub box_length : ℕ
box_length = record_head + (word_record_length + (word_record_length + box_xy_length))

-- ---- its points

-- two for each of the five
abbrev pub box_deviations : ℕ
box_deviations = 10

-- these are the conversions of the corners p and q, in whatever spot
pub record Converted (policy : GdsRoundingPolicy) (d : Float) (p q : Point Unit) (c : Corners) : Type 0 where
  pub x1 : (s : Spot) → outcome s c.x1 ≡ convert_unit policy d s p.x
  pub y1 : (s : Spot) → outcome s c.y1 ≡ convert_unit policy d s p.y
  pub x2 : (s : Spot) → outcome s c.x2 ≡ convert_unit policy d s q.x
  pub y2 : (s : Spot) → outcome s c.y2 ≡ convert_unit policy d s q.y

-- ---- what is ready before the first byte

-- the five points of the grid, by two corners
abbrev pub corners_of : DatabasePoint → DatabasePoint → List (Point ℤ)
corners_of p q = box_points (grid_point_of p) (grid_point_of q)

abbrev pub points_of : Result BoxValues Refusal → Ready (List (Point ℤ))
points_of = ready_by (λ (v : BoxValues). corners_of v.first v.second) (λ (v : BoxValues). v.entry)

abbrev pub box_of : BoxPlaces → DatabasePoint → DatabasePoint → D.Shape
box_of s p q = record { layer = s.layer; datatype = s.boxtype; points = corners_of p q }

abbrev pub ready_of : BoxPlaces → Result BoxValues Refusal → Ready D.Shape
ready_of s = ready_by (λ (v : BoxValues). box_of s v.first v.second) (λ (v : BoxValues). v.entry)
