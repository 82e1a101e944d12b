-- The head and the elements: what a block holds, and its form (document 01, "Input", the list; boxes: document 02, request 3; flags and plex numbers: its request 5). An element is a body, by its kind, with its flags and plex number in front, where it has them, and its properties, which are last in every form. Assumes nothing.
use Rattle.std.specs.Prelude.{Bool, cond, List, ℕ, ◌/◌, ◌%◌, leb, ltb, eqb, ℤ, Float}
use Rattle.std.proofs.Math.Option.{Option, none, some}
use Rattle.units.specs.declared.Unit.{Unit}
use Rattle.units.specs.Point.{Point}
use Rattle.parsing.specs.Parse.{ill_formed, pure, fail, when, map, times, whole, ◌>>=◌}
use Rattle.sheet.specs.Form.{Form, num, code, flag, double, string, counted, optional, long, coordinate, point, spacing}

-- ---- what a block holds

pub record Property : Type 0 where
  pub attribute : ℕ
  pub value : List ℕ

-- name string; twelve numbers, two stamps of year, month, day, hour, minute, second
pub record Head : Type 0 where
  pub name : List ℕ
  pub stamps : List ℕ

-- a polygon or a node
pub record Shape : Type 0 where
  pub layer : ℕ
  pub datatype : ℕ
  pub points : List (Point Unit)

pub record Path : Type 0 where
  pub layer : ℕ
  pub datatype : ℕ
  pub path_type : Option ℕ
  pub width : Option Unit
  pub begin : Option Unit
  pub end : Option Unit
  pub points : List (Point Unit)

pub record Text : Type 0 where
  pub layer : ℕ
  pub texttype : ℕ
  pub vertical : ℕ
  pub horizontal : ℕ
  pub reflection : Bool
  pub magnification : Float
  pub degrees : Float
  pub origin : Point Unit
  pub string : List ℕ

pub record Reference : Type 0 where
  pub name : List ℕ
  pub columns : ℕ
  pub rows : ℕ
  pub reflection : Bool
  pub magnification : Float
  pub degrees : Float
  pub sine : Float
  pub cosine : Float
  pub origin : Point Unit
  pub column_spacing : Option (Point Unit)
  pub row_spacing : Option (Point Unit)

-- two corners, in the order and with the units that the sheet has
pub record Box : Type 0 where
  pub layer : ℕ
  pub boxtype : ℕ
  pub first : Point Unit
  pub second : Point Unit

pub data Body : Type 0 where
  polygon : Shape → Body
  path : Path → Body
  text : Text → Body
  node : Shape → Body
  reference : Reference → Body
  box : Box → Body

-- "All six element kinds shall carry both as options"
pub record Element : Type 0 where
  pub flags : Option ℕ
  pub plex : Option ℤ
  pub body : Body
  pub properties : List Property

-- ---- the kind byte

abbrev pub polygon_kind : ℕ
polygon_kind = 1

abbrev pub path_kind : ℕ
path_kind = 2

abbrev pub text_kind : ℕ
text_kind = 3

abbrev pub node_kind : ℕ
node_kind = 4

abbrev pub reference_kind : ℕ
reference_kind = 5

-- "Add element kind 6"
abbrev pub box_kind : ℕ
box_kind = 6

abbrev pub kind_of : Body → ℕ
kind_of (polygon e) = polygon_kind
kind_of (path e) = path_kind
kind_of (text e) = text_kind
kind_of (node e) = node_kind
kind_of (reference e) = reference_kind
kind_of (box e) = box_kind

-- "A kind byte raised by 16 is followed by 2 bytes of flags; raised by 32, by 4 bytes of signed plex number"
abbrev pub flags_raise : ℕ
flags_raise = 16

abbrev pub plex_raise : ℕ
plex_raise = 32

-- every kind, raised by either or by both, is below
abbrev pub kind_limit : ℕ
kind_limit = 64

-- whether the kind byte k is raised by n
abbrev pub raised : ℕ → ℕ → Bool
raised n k = eqb (k / n % 2) 1

-- "the kind without these additions"
abbrev pub plain_kind : ℕ → ℕ
plain_kind k = k % flags_raise

-- ---- forms

-- "for each a 2-byte attribute and a string"
unfoldable pub property : Form Property
property = do
  a ← num 2
  v ← string
  pure (record { attribute = a; value = v })

-- "Head: name string; twelve numbers"
unfoldable pub head_form : Form Head
head_form = do
  n ← string
  t ← times 12 (num 2)
  pure (record { name = n; stamps = t })

-- "Polygon or node: layer, type, point count, points"
unfoldable pub shape_form : Form Shape
shape_form = do
  l ← num 2
  t ← num 2
  ps ← counted point
  pure (record { layer = l; datatype = t; points = ps })

-- "path type byte (0, 1, 2; 255 absent)"
abbrev pub max_path_type : ℕ
max_path_type = 2

unfoldable pub path_type_form : Form (Option ℕ)
path_type_form = num 1 >>= λ b. cond (eqb b 255) (pure none) (when ill_formed (leb b max_path_type) (pure (some b)))

-- "Path: layer, type, path type byte, width, begin and end extension, point count, points"
unfoldable pub path_form : Form Path
path_form = do
  l ← num 2
  t ← num 2
  k ← path_type_form
  w ← coordinate
  b ← coordinate
  e ← coordinate
  ps ← counted point
  pure (record { layer = l; datatype = t; path_type = k; width = w; begin = b; end = e; points = ps })

-- "Text: layer, type, bytes vertical (0–2), horizontal (0–2), reflection (0 or 1), doubles magnification and degrees, origin, string"
unfoldable pub text_form : Form Text
text_form = do
  l ← num 2
  t ← num 2
  v ← code 2
  h ← code 2
  r ← flag
  m ← double
  a ← double
  o ← point
  s ← string
  pure (record { layer = l; texttype = t; vertical = v; horizontal = h; reflection = r; magnification = m; degrees = a; origin = o; string = s })

-- "Reference: name string, 4-byte columns and rows, reflection byte, doubles magnification, degrees, sine, cosine, then origin, column spacing, row spacing"
unfoldable pub reference_form : Form Reference
reference_form = do
  n ← string
  c ← num 4
  w ← num 4
  r ← flag
  m ← double
  a ← double
  si ← double
  co ← double
  o ← point
  sc ← spacing
  sr ← spacing
  pure (record { name = n; columns = c; rows = w; reflection = r; magnification = m; degrees = a; sine = si; cosine = co; origin = o; column_spacing = sc; row_spacing = sr })

-- "kind byte, layer, type, two corner points, properties"
unfoldable pub box_form : Form Box
box_form = do
  l ← num 2
  t ← num 2
  p ← point
  q ← point
  pure (record { layer = l; boxtype = t; first = p; second = q })

-- the body of each kind; any other kind is an unknown code
unfoldable pub body_form : ℕ → Form Body
body_form k =
    cond (eqb k polygon_kind) (map polygon shape_form)
    (cond (eqb k path_kind) (map path path_form)
    (cond (eqb k text_kind) (map text text_form)
    (cond (eqb k node_kind) (map node shape_form)
    (cond (eqb k reference_kind) (map reference reference_form)
    (cond (eqb k box_kind) (map box box_form)
    (fail ill_formed))))))

-- kind byte, options, body, properties: "with both, flags come first"
unfoldable pub element_form : Form Element
element_form = do
  k ← num 1
  f ← optional (raised flags_raise k) (num 2)
  p ← optional (raised plex_raise k) long
  b ← when ill_formed (ltb k kind_limit) (body_form (plain_kind k))
  qs ← counted property
  pure (record { flags = f; plex = p; body = b; properties = qs })

-- what a block holds, or nothing where it is ill-formed: "short, long, unknown code"
unfoldable pub head_of : List ℕ → Option Head
head_of = whole head_form

unfoldable pub element_of : List ℕ → Option Element
element_of = whole element_form
