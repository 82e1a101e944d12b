-- What a sheet holds of each record (document 02, request 8: "Our sheet's limits refuse under their old numbers"; ELFLAGS: its request 5; text types and properties: its request 6), each check at the record that it is about. Assumes nothing.
-- "28 then 29 first within a record and the rest as in writing": the checks of a record stand in that order, and those of writing are the definitions of cell/specs.
use Rattle.std.specs.Prelude.{Bool, ◌&&◌, ◌||◌, cond, List, ℕ, suc, ◌/◌, ◌%◌, leb, ltb, eqb, length, take, drop, ℤ, Float}
use Rattle.std.proofs.Math.Option.{Option, none, some}
use Rattle.big_endian.specs.Big.{number}
use Rattle.refusal.specs.declared.Refusal.{Refusal}
use Rattle.refusal.specs.declared.Refusal.TheVariants as R
use Rattle.units.specs.Point.{Point}
use Rattle.gds_format.specs.Decode.{double_of}
use Rattle.conversion.specs.Made.{Made, Done, refused, made, pure, need, ◌>>◌}
use Rattle.conversion.specs.Convert.{in_range}
use Rattle.sheet.specs.Blocks.{max_pairs}
use Rattle.sheet.specs.Element.{max_path_type}
use Rattle.stream.specs.Record.{Rec, BGNSTR, STRNAME, BOUNDARY, PATH, LAYER, DATATYPE, XY, SNAME, COLROW, NODE, TEXTTYPE, PRESENTATION, STRING, MAG, ANGLE, PATHTYPE, NODETYPE, PROPATTR, PROPVALUE, BOX, BOXTYPE, ELFLAGS}
use Rattle.stream.specs.Strings.{unpadded}
use Rattle.stream.specs.Read.{stamps_of, points_of, Limits, begins}
use Rattle.cell.specs.Limits.{within, min_polygon_points, min_path_points, min_node_points, max_points, max_node_points, max_layer, max_data_type, max_string_length, min_attribute, max_attribute, max_value_length, max_col_row, max_flags}
use Rattle.cell.specs.Names.{is_name}
use Rattle.cell.specs.Stamps.{stamps_fit}
use Rattle.cell.specs.Write.{write_magnification, write_angle, closed}
use Rattle.reading.specs.Box.{is_box}

-- ---- parts of the checks

-- "29 a real that no double equals", then 13 and 14 as in writing that double
unfoldable pub real_limit : {A : Type 0} → (Float → Made A) → Option Float → Made Done
real_limit write none = refused R.InexactReal
real_limit write (some x) = write x >> pure tt

-- 8, and a polygon's ends, 20; "a BOX that no two corners give" is 28. How many points a TEXT, an SREF and an AREF have is the grammar's.
unfoldable pub points_limit : ℕ → List (Point ℤ) → Made Done
points_limit kind ps =
    cond (eqb kind BOUNDARY) (need (within min_polygon_points (length ps) max_points) R.PointCount >> need (closed ps) R.NotClosed)
    (cond (eqb kind PATH) (need (within min_path_points (length ps) max_points) R.PointCount)
    (cond (eqb kind NODE) (need (within min_node_points (length ps) max_node_points) R.PointCount)
    (cond (eqb kind BOX) (need (is_box ps) R.NotStructure)
    (pure tt))))

-- "a PRESENTATION that our nine pairs do not give": 4 × vertical + horizontal, both 0 to 2
abbrev pub is_presentation : ℕ → Bool
is_presentation n = leb (n / 4) 2 && leb (n % 4) 2

-- a sheet's count of properties has two bytes: "5 at a 65,536th property of one"
abbrev pub max_properties : ℕ
max_properties = 65535

-- ---- the checks of one record

-- By its code. `kind` is the code of the element's first record; i counts the elements before, or the properties before (`Limits` of stream/specs/Read).
unfoldable pub record_limit : ℕ → ℕ → Rec → Made Done
record_limit kind i r =
    let b = r.content in
    let is : ℕ → Bool = λ c. eqb r.code c in
    -- "4 at a 16,384th element": the head's block and i + 1 others
    cond (begins r.code) (need (ltb (suc i) max_pairs) R.Pairs)
    (cond (is BGNSTR) (need (stamps_fit (stamps_of b)) R.Stamp)
    (cond (is STRNAME || is SNAME) (need (is_name (unpadded b)) R.Name)
    -- "26 flags above 3"; every plex number passes
    (cond (is ELFLAGS) (need (leb (number b) max_flags) R.Flags)
    (cond (is LAYER) (need (leb (number b) max_layer) R.LayerOrType)
    (cond (is DATATYPE || is TEXTTYPE || is NODETYPE || is BOXTYPE) (need (leb (number b) max_data_type) R.LayerOrType)
    -- "Path types above 2 .. are 28"
    (cond (is PATHTYPE) (need (leb (number b) max_path_type) R.NotStructure)
    (cond (is PRESENTATION) (need (is_presentation (number b)) R.NotStructure)
    (cond (is MAG) (real_limit write_magnification (double_of b))
    (cond (is ANGLE) (real_limit write_angle (double_of b))
    -- "also 0 columns or rows (11)"
    (cond (is COLROW) (need (within 1 (number (take 2 b)) max_col_row && within 1 (number (drop 2 b)) max_col_row) R.ColumnsOrRows)
    (cond (is XY) (points_limit kind (points_of b))
    (cond (is STRING) (need (leb (length (unpadded b)) max_string_length) R.StringLength)
    -- a 65,536th property before its attribute: "27 attribute outside 1 to 127"
    (cond (is PROPATTR) (need (ltb i max_properties) R.Form >> need (within min_attribute (number b) max_attribute) R.Attribute)
    (cond (is PROPVALUE) (need (leb (length (unpadded b)) max_value_length) R.StringLength)
    (pure tt)))))))))))))))

-- "30 AREF corners whose difference is not count times a signed 32-bit spacing": that it is a whole number of counts is the grammar's
unfoldable pub step_limit : ℤ → Made Done
step_limit z = need (in_range z) R.ArrayCorners

-- ---- the limits

abbrev pub refusal_in : {A : Type 0} → Made A → Option Refusal
refusal_in (refused r) = some r
refusal_in (made a vs) = none

abbrev pub sheet_limits : Limits
sheet_limits = record { admit = λ kind i r. refusal_in (record_limit kind i r); step = λ z. refusal_in (step_limit z) }
