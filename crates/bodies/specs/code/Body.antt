-- The body of an element: its bytes, and their length by the block alone. Assumes nothing.
use Rattle.std.specs.Prelude.{List, [], ℕ}
use Rattle.stream.specs.Structure.{SaidBody}
use Rattle.stream.specs.Record.{stream_bytes}
use Rattle.stream.specs.Records.{body_records}
use Rattle.block_places.specs.declared.BodyPlaces.{BodyPlaces}
use Rattle.block_places.specs.declared.BodyPlaces.TheVariants as B
use Rattle.block_places.specs.code.Places.{path_at}
use Rattle.polygon_node.specs.code.Shape.{shape_length}
use Rattle.boxes.specs.code.Box.{box_length}
use Rattle.path.specs.code.Length.{path_length}
use Rattle.text.specs.code.Text.{text_length}
use Rattle.reference.specs.code.Reference.{reference_length}

unfoldable pub body_bytes : SaidBody → List ℕ
body_bytes w = stream_bytes (body_records w [])

-- their length, by the block alone
unfoldable pub body_length : List ℕ → BodyPlaces → ℕ
body_length b (B.Polygon s) = shape_length s.points.count
body_length b (B.Path s) = path_length (path_at b s)
body_length b (B.Text s) = text_length b s
body_length b (B.Node s) = shape_length s.points.count
body_length b (B.Reference s) = reference_length b s
body_length b (B.Box s) = box_length
