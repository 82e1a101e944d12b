-- Writing one element (document 01, "Result one" and "Who can cause which refusal"; boxes: document 02, request 3; flags and plex numbers: its request 5; text types and properties: its request 6; write/mod.rs): its checks and conversions in the order of its function in mod.rs,
-- and what its records say. A refusal is the first check that fails. Assumes nothing.
use Rattle.std.specs.Prelude.{Bool, true, false, not, ◌&&◌, ◌||◌, cond, List, [], ◌∷◌, ℕ, ◌+◌, ◌*◌, leb, eqb, length, ℤ, pos, Float}
use Rattle.std.proofs.Math.Option.{Option, none, some}
use Rattle.std.specs.Float.{fin}
use Rattle.std.specs.Float.Ieee.{eq, le}
use Rattle.std.specs.Float.Ieee.Scale.{finite}
use Rattle.binary64.specs.Value.{same_int, zero64, one64}
use Rattle.refusal.specs.declared.Refusal.TheVariants as R
use Rattle.units.specs.Point.{Point}
use Rattle.gds_format.specs.Real8.{real8}
use Rattle.conversion.specs.declared.GdsRoundingPolicy.{GdsRoundingPolicy}
use Rattle.conversion.specs.Made.{Made, Done, refused, pure, need, ◌>>=◌, ◌>>◌}
use Rattle.conversion.specs.Points.{write_point, write_points, write_length}
use Rattle.conversion.specs.Array.{convert_array}
use Rattle.conversion.specs.Field.{width_field, begin_field, end_field, origin_field}
use Rattle.sheet.specs.Element as S
use Rattle.stream.specs.Strings.{padded}
use Rattle.stream.specs.Structure as D
use Rattle.cell.specs.Limits.{within, min_polygon_points, min_path_points, min_node_points, max_points, max_node_points, max_layer, max_data_type, max_string_length, min_attribute, max_attribute, max_value_length, max_col_row, max_flags}
use Rattle.cell.specs.Names.{is_name}

abbrev pub is_some : {A : Type 0} → Option A → Bool
is_some none = false
is_some (some a) = true

-- ---- flags, layer, type and properties

abbrev pub flags_fit : Option ℕ → Bool
flags_fit none = true
flags_fit (some flags) = leb flags max_flags

-- `validate_layer`, `validate_data_type`
unfoldable pub layer_and_type : ℕ → ℕ → Made Done
layer_and_type l t = do
  need (leb l max_layer) R.LayerOrType
  need (leb t max_data_type) R.LayerOrType

-- of a property: its attribute, then its value's length ("27 .. before the value of the same property")
unfoldable pub attribute_and_length : ℕ → ℕ → Made Done
attribute_and_length a n = do
  need (within min_attribute a max_attribute) R.Attribute
  need (leb n max_value_length) R.StringLength

-- `write_element_tail_to_file`: in turn, each value padded
unfoldable pub write_properties : List S.Property → Made (List D.Property)
write_properties [] = pure []
write_properties (q ∷ qs) = do
  attribute_and_length q.attribute (length q.value)
  rest ← write_properties qs
  pure (record { attribute = q.attribute; value = padded q.value } ∷ rest)

-- ---- the transform

-- 14: a real that is not finite or not encodable
unfoldable pub encodable : Option (List ℕ) → Made (List ℕ)
encodable none = refused R.Real
encodable (some b) = pure b

unfoldable pub write_real : Float → Made (Option (List ℕ))
write_real x = do
  b ← encodable (real8 x)
  pure (some b)

-- "MAG if not 1": above 0, except that minus infinity is a real that is not finite (`validate_positive` asks for that first)
unfoldable pub write_magnification : Float → Made (Option (List ℕ))
write_magnification m = cond (eq m one64) (pure none) (need (not (le m zero64) || not (finite m)) R.Magnification >> write_real m)

-- "ANGLE if not 0", either sign
unfoldable pub write_angle : Float → Made (Option (List ℕ))
write_angle a = cond (eq a zero64) (pure none) (write_real a)

-- "nothing if magnification equals 1, degrees equal 0 (either sign) and no reflection; else STRANS"
unfoldable pub strans_of : Bool → Option (List ℕ) → Option (List ℕ) → Option D.Strans
strans_of r m a = cond (r || is_some m || is_some a) (some (record { reflection = r; magnification = m; angle = a })) none

-- `write_transformation_to_file`
unfoldable pub write_transform : Float → Float → Bool → Made (Option D.Strans)
write_transform degrees magnification reflection = do
  m ← write_magnification magnification
  a ← write_angle degrees
  pure (strans_of reflection m a)

-- ---- the ends of a polygon and of a box

abbrev pub same_point : Point ℤ → Point ℤ → Bool
same_point p q = same_int p.x q.x && same_int p.y q.y

abbrev pub last_of : Point ℤ → List (Point ℤ) → Point ℤ
last_of p [] = p
last_of p (q ∷ ps) = last_of q ps

-- the first point is the last
unfoldable pub closed : List (Point ℤ) → Bool
closed [] = true
closed (p ∷ ps) = same_point p (last_of p ps)

-- ---- boxes

-- `GdsBox::points`: bottom left, bottom right, top right, top left, and bottom left again. The corners p and q stand for bottom left and top right as they are, whichever lies where.
abbrev pub box_points : {C : Type 0} → Point C → Point C → List (Point C)
box_points p q = p ∷ record { x = q.x; y = p.y } ∷ q ∷ record { x = p.x; y = q.y } ∷ p ∷ []

-- ---- references

-- "1 × 1 reference: SREF .. Else AREF"
abbrev pub single : S.Reference → Bool
single e = eqb e.columns 1 && eqb e.rows 1

-- within −1 to 1, which a NaN is not
unfoldable pub in_unit : Float → Bool
in_unit x = le (fin true 1 (pos 0)) x && le x one64

-- ---- elements, under a policy and a database unit

module _ (policy : GdsRoundingPolicy) (d : Float) where
  -- what a polygon and a node have in common, but for their numbers of points
  unfoldable pub write_shape : ℕ → ℕ → S.Shape → Made D.Shape
  write_shape least most e = do
    need (within least (length e.points) most) R.PointCount
    layer_and_type e.layer e.datatype
    ps ← write_points policy d 0 e.points
    pure (record { layer = e.layer; datatype = e.datatype; points = ps })

  -- `write_polygon_with_converter`: all points, then the ends
  unfoldable pub write_polygon : S.Shape → Made D.Shape
  write_polygon e = do
    w ← write_shape min_polygon_points max_points e
    need (closed w.points) R.NotClosed
    pure w

  -- `write_node_with_converter`
  unfoldable pub write_node : S.Shape → Made D.Shape
  write_node = write_shape min_node_points max_node_points

  -- `write_path_with_converter`
  unfoldable pub write_path : S.Path → Made D.Path
  write_path e = do
    need (within min_path_points (length e.points) max_points) R.PointCount
    layer_and_type e.layer e.datatype
    w ← write_length policy d width_field e.width
    b ← write_length policy d begin_field e.begin
    n ← write_length policy d end_field e.end
    ps ← write_points policy d 0 e.points
    pure (record { layer = e.layer; datatype = e.datatype; path_type = e.path_type; width = w; begin = b; end = n; points = ps })

  -- `write_text_with_converter`; the text type "directly after the text's layer check"
  unfoldable pub write_text : S.Text → Made (D.Text (Option ℕ) (Option D.Strans))
  write_text e = do
    layer_and_type e.layer e.texttype
    need (leb (length e.string) max_string_length) R.StringLength
    u ← write_transform e.degrees e.magnification e.reflection
    o ← write_point policy d origin_field 0 e.origin
    pure (record { layer = e.layer; texttype = e.texttype; presentation = some (4 * e.vertical + e.horizontal); transform = u; origin = o; string = padded e.string })

  -- a 1 × 1 reference: its spacings, sine and cosine are not looked at
  unfoldable pub write_sref : S.Reference → Option D.Strans → Made (D.Sref (Option D.Strans))
  write_sref e u = do
    o ← write_point policy d origin_field 0 e.origin
    pure (record { name = padded e.name; transform = u; origin = o })

  -- an array: "15 after 14", then the conversions of origin, spacings and endpoints
  unfoldable pub write_aref : S.Reference → Option D.Strans → Made (D.Aref (Option D.Strans))
  write_aref e u = do
    need (in_unit e.sine && in_unit e.cosine) R.SineOrCosine
    c ← convert_array policy d e.sine e.cosine e.columns e.rows e.origin e.column_spacing e.row_spacing
    pure (record { name = padded e.name; transform = u; columns = e.columns; rows = e.rows; origin = c.origin; column_step = c.column_step; row_step = c.row_step })

  -- `write_reference_cell`
  unfoldable pub write_reference : S.Reference → Made D.SaidBody
  write_reference e = do
    need (is_name e.name) R.Name
    need (within 1 e.columns max_col_row && within 1 e.rows max_col_row) R.ColumnsOrRows
    need (leb e.columns 1 || is_some e.column_spacing) R.Spacing
    need (leb e.rows 1 || is_some e.row_spacing) R.Spacing
    u ← write_transform e.degrees e.magnification e.reflection
    cond (single e) (write_sref e u >>= λ w. pure (D.sref w)) (write_aref e u >>= λ w. pure (D.aref w))

  -- `write_box_with_converter`: all five points, "closure check included"
  unfoldable pub write_box : S.Box → Made D.Shape
  write_box e = do
    layer_and_type e.layer e.boxtype
    ps ← write_points policy d 0 (box_points e.first e.second)
    need (closed ps) R.NotClosed
    pure (record { layer = e.layer; datatype = e.boxtype; points = ps })

  -- by the kind: `write_element_with_field_prefix`
  unfoldable pub write_body : S.Body → Made D.SaidBody
  write_body (S.polygon e) = write_polygon e >>= λ w. pure (D.boundary w)
  write_body (S.path e) = write_path e >>= λ w. pure (D.path w)
  write_body (S.text e) = write_text e >>= λ w. pure (D.text w)
  write_body (S.node e) = write_node e >>= λ w. pure (D.node w)
  write_body (S.reference e) = write_reference e
  write_body (S.box e) = write_box e >>= λ w. pure (D.box w)

  -- "26 flags above 3, directly after the block's form check"; "properties' strings last"
  unfoldable pub write_element : S.Element → Made D.Said
  write_element e = do
    need (flags_fit e.flags) R.Flags
    b ← write_body e.body
    qs ← write_properties e.properties
    pure (record { flags = e.flags; plex = e.plex; body = b; properties = qs })
