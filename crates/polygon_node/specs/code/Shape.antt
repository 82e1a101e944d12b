-- A polygon or a node: its bytes in the structure and their length (document 01, "Result one", "BOUNDARY or NODE: LAYER, DATATYPE or NODETYPE, XY"). Assumes nothing.
use Rattle.std.specs.Prelude.{List, [], ◌++◌, ℕ, ◌+◌, ◌*◌, Float, Result}
use Rattle.refusal.specs.declared.Refusal.{Refusal}
use Rattle.conversion.specs.declared.Entry.{Entry}
use Rattle.conversion.specs.declared.GdsRoundingPolicy.{GdsRoundingPolicy}
use Rattle.conversion.specs.Made.{Made, pure, ◌>>=◌}
use Rattle.conversion.specs.Points.{write_points}
use Rattle.sheet.specs.Element as S
use Rattle.stream.specs.Structure as D
use Rattle.stream.specs.Record.{BOUNDARY, DATATYPE, NODE, NODETYPE, LAYER, XY, four_byte, record_bytes, stream_bytes}
use Rattle.stream.specs.Records.{empty_record, word_record, shape_records}
use Rattle.records.specs.code.Bytes.{record_head, xy_point_length, head_bytes}
use Rattle.points.specs.declared.Walked.{Walked}
use Rattle.points.specs.code.Walk.{walked}

-- ---- its bytes

-- of the records that begin with `code` and have `type_code` for the type
abbrev pub shape_bytes : ℕ → ℕ → D.Shape → List ℕ
shape_bytes code type_code w = stream_bytes (shape_records code type_code w [])

abbrev pub polygon_bytes : D.Shape → List ℕ
polygon_bytes = shape_bytes BOUNDARY DATATYPE

abbrev pub node_bytes : D.Shape → List ℕ
node_bytes = shape_bytes NODE NODETYPE

-- those before the points: records of 4, 6 and 6 bytes, and the head of XY
abbrev pub shape_head_length : ℕ
shape_head_length = 20

-- with n points
abbrev pub shape_length : ℕ → ℕ
shape_length n = shape_head_length + xy_point_length * n

abbrev pub shape_head : ℕ → ℕ → ℕ → ℕ → ℕ → List ℕ
shape_head code type_code layer datatype n =
    record_bytes (empty_record code) ++ (record_bytes (word_record LAYER layer) ++ (record_bytes (word_record type_code datatype) ++ head_bytes (record_head + xy_point_length * n) XY four_byte))

-- ---- its ends

abbrev pub shape_ends : D.Shape → Entry → Result Walked Refusal
shape_ends w e = walked w.points e

-- ---- its points, after the checks

unfoldable pub after_checks : GdsRoundingPolicy → Float → S.Shape → Made D.Shape
after_checks policy d e = do
  ps ← write_points policy d 0 e.points
  pure (record { layer = e.layer; datatype = e.datatype; points = ps })
