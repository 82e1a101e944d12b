-- The cell that is read from a structure (document 02, request 8; flags and plex numbers: its request 5). Assumes nothing.
use Rattle.std.specs.Prelude.{Bool, false, ◌&&◌, cond, List, [], ◌∷◌, ℕ, ◌/◌, ◌%◌, eqb, ℤ, Float}
use Rattle.std.proofs.Math.Option.{Option, none, some}
use Rattle.binary64.specs.Value.{zero64, one64}
use Rattle.units.specs.declared.Unit.{Unit}
use Rattle.units.specs.Point.{Point}
use Rattle.units.specs.Integer.{integer, integer_point}
use Rattle.gds_format.specs.Decode.{double_of}
use Rattle.sheet.specs.Element as S
use Rattle.sheet.specs.Cell.{Cell}
use Rattle.stream.specs.Strings.{unpadded}
use Rattle.stream.specs.Structure as D
use Rattle.stream.specs.Read.{map_option}
use Rattle.stream.specs.Drawn.{presentation_of, only_instance}
use Rattle.reading.specs.Box.{first_point, third_point}

-- ---- "Coordinates and lengths become integers in a unit of 1."

abbrev pub length_read : Option ℤ → Option Unit
length_read = map_option integer

abbrev pub points_read : List (Point ℤ) → List (Point Unit)
points_read [] = []
points_read (p ∷ ps) = integer_point p ∷ points_read ps

-- ---- reals and transforms

abbrev pub or_else : Float → Option Float → Float
or_else z none = z
or_else z (some x) = x

-- a real that may be missing, and is then worth z
abbrev pub real_read : Float → Option (List ℕ) → Float
real_read z none = z
real_read z (some b) = or_else z (double_of b)

pub record Placing : Type 0 where
  pub reflection : Bool
  pub magnification : Float
  pub degrees : Float

-- no STRANS, or no MAG or ANGLE after it: no reflection, 1 and 0
abbrev pub placing : Option D.Strans → Placing
placing none = record { reflection = false; magnification = one64; degrees = zero64 }
placing (some t) = record { reflection = t.reflection; magnification = real_read one64 t.magnification; degrees = real_read zero64 t.angle }

-- ---- bodies

abbrev pub shape_read : D.Shape → S.Shape
shape_read e = record { layer = e.layer; datatype = e.datatype; points = points_read e.points }

abbrev pub path_read : D.Path → S.Path
path_read e = record {
  layer = e.layer;
  datatype = e.datatype;
  path_type = e.path_type;
  width = length_read e.width;
  begin = length_read e.begin;
  end = length_read e.end;
  points = points_read e.points;
}

-- "A missing PRESENTATION is read as 0." It is 4 × vertical + horizontal.
abbrev pub text_read : D.Text (Option ℕ) (Option D.Strans) → S.Text
text_read e = record {
  layer = e.layer;
  texttype = e.texttype;
  vertical = presentation_of e.presentation / 4;
  horizontal = presentation_of e.presentation % 4;
  reflection = (placing e.transform).reflection;
  magnification = (placing e.transform).magnification;
  degrees = (placing e.transform).degrees;
  origin = integer_point e.origin;
  string = unpadded e.string;
}

-- "every SREF gets absent spacings, sine 0 and cosine 1"
abbrev pub sref_read : D.Sref (Option D.Strans) → S.Reference
sref_read e = record {
  name = unpadded e.name;
  columns = 1;
  rows = 1;
  reflection = (placing e.transform).reflection;
  magnification = (placing e.transform).magnification;
  degrees = (placing e.transform).degrees;
  sine = zero64;
  cosine = one64;
  origin = integer_point e.origin;
  column_spacing = none;
  row_spacing = none;
}

-- "An array gets its divided spacings, sine 0 and cosine 1, and degrees as read"
abbrev pub array_read : D.Aref (Option D.Strans) → S.Reference
array_read e = record {
  name = unpadded e.name;
  columns = e.columns;
  rows = e.rows;
  reflection = (placing e.transform).reflection;
  magnification = (placing e.transform).magnification;
  degrees = (placing e.transform).degrees;
  sine = zero64;
  cosine = one64;
  origin = integer_point e.origin;
  column_spacing = some (integer_point e.column_step);
  row_spacing = some (integer_point e.row_step);
}

-- "A 1 × 1 AREF becomes an SREF"
unfoldable pub aref_read : D.Aref (Option D.Strans) → S.Reference
aref_read e = cond (eqb e.columns 1 && eqb e.rows 1) (sref_read (only_instance e)) (array_read e)

-- "a box gets its first and third points"
abbrev pub box_read : D.Shape → S.Box
box_read e = record { layer = e.layer; boxtype = e.datatype; first = integer_point (first_point e.points); second = integer_point (third_point e.points) }

abbrev pub body_read : D.SaidBody → S.Body
body_read (D.boundary e) = S.polygon (shape_read e)
body_read (D.path e) = S.path (path_read e)
body_read (D.text e) = S.text (text_read e)
body_read (D.node e) = S.node (shape_read e)
body_read (D.sref e) = S.reference (sref_read e)
body_read (D.aref e) = S.reference (aref_read e)
body_read (D.box e) = S.box (box_read e)

-- ---- elements and the cell

abbrev pub properties_read : List D.Property → List S.Property
properties_read [] = []
properties_read (q ∷ qs) = record { attribute = q.attribute; value = unpadded q.value } ∷ properties_read qs

-- flags and plex number as they are, "absent alike, else equal" (document 02, request 5)
abbrev pub element_read : D.Said → S.Element
element_read e = record { flags = e.flags; plex = e.plex; body = body_read e.body; properties = properties_read e.properties }

abbrev pub elements_read : List D.Said → List S.Element
elements_read [] = []
elements_read (e ∷ es) = element_read e ∷ elements_read es

abbrev pub cell_read : D.Structure → Cell
cell_read s = record { head = record { name = unpadded s.name; stamps = s.stamps }; elements = elements_read s.elements }
