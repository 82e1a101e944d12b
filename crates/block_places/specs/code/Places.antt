-- The head and the elements of which places tell, and that the places lie in the block (document 01, "Input", the list; boxes: document 02, request 3; flags and plex numbers: its request 5). Assumes nothing.
use Rattle.std.specs.Prelude.{◌≡◌, Bool, cond, List, ℕ, ◌+◌, ◌*◌, ◌≤◌, eqb, length, drop, ℤ}
use Rattle.std.specs.Bool.{then_some}
use Rattle.std.specs.Prelude as Code
use Rattle.std.proofs.Math.Option.{Option, none, some}
use Rattle.std.proofs.Common.{to_z}
use Rattle.std.specs.Int.{w32}
use Rattle.big_endian.specs.Big.{number_at}
use Rattle.units.specs.declared.Unit.{Unit}
use Rattle.units.specs.Point.{Point}
use Rattle.sheet.specs.Element.{Property, Head, Shape, Path, Text, Reference, Box, Body, polygon, path, text, node, reference, box, polygon_kind, path_kind, text_kind, node_kind, reference_kind, flags_raise, plex_raise, raised, plain_kind}
use Rattle.block_places.specs.declared.HeadPlaces.{HeadPlaces}
use Rattle.block_places.specs.declared.PointsPlaces.{PointsPlaces}
use Rattle.block_places.specs.declared.ShapePlaces.{ShapePlaces}
use Rattle.block_places.specs.declared.PathPlaces.{PathPlaces}
use Rattle.block_places.specs.declared.TextPlaces.{TextPlaces}
use Rattle.block_places.specs.declared.ReferencePlaces.{ReferencePlaces}
use Rattle.block_places.specs.declared.BoxPlaces.{BoxPlaces}
use Rattle.block_places.specs.declared.BodyPlaces.{BodyPlaces}
use Rattle.block_places.specs.declared.BodyPlaces.TheVariants as B
use Rattle.block_places.specs.declared.PropertyPlaces.{PropertyPlaces}
use Rattle.block_places.specs.declared.Options.{Options}
use Rattle.block_places.specs.declared.ElementPlaces.{ElementPlaces}
use Rattle.block_places.specs.code.Place.{place_from, words_from, double_at, coordinate_at, point_at, points_from, spacing_at, string_at, string_end, property_end, properties_from, stamp_numbers, stamps_length, coordinate_length, point_length}

-- ---- what the places tell

-- "name string; twelve numbers"
unfoldable pub head_at : List ℕ → HeadPlaces → Head
head_at b s = record { name = string_at b s.name; stamps = words_from stamp_numbers b s.stamps }

abbrev pub points_at : List ℕ → PointsPlaces → List (Point Unit)
points_at b s = points_from s.count b s.place

unfoldable pub shape_at : List ℕ → ShapePlaces → Shape
shape_at b s = record { layer = s.layer; datatype = s.datatype; points = points_at b s.points }

-- "path type byte (0, 1, 2; 255 absent)"
unfoldable pub path_type_of : ℕ → Option ℕ
path_type_of k = cond (eqb k 255) none (some k)

unfoldable pub path_at : List ℕ → PathPlaces → Path
path_at b s =
    record {
      layer = s.layer;
      datatype = s.datatype;
      path_type = path_type_of s.pathtype;
      width = coordinate_at b s.width;
      begin = coordinate_at b s.begin;
      end = coordinate_at b s.end;
      points = points_at b s.points;
    }

unfoldable pub text_at : List ℕ → TextPlaces → Text
text_at b s =
    record {
      layer = s.layer;
      texttype = s.texttype;
      vertical = s.vertical;
      horizontal = s.horizontal;
      reflection = s.reflection;
      magnification = s.magnification;
      degrees = s.degrees;
      origin = point_at b s.origin;
      string = string_at b s.string;
    }

unfoldable pub reference_at : List ℕ → ReferencePlaces → Reference
reference_at b s =
    record {
      name = string_at b s.name;
      columns = s.columns;
      rows = s.rows;
      reflection = s.reflection;
      magnification = s.magnification;
      degrees = s.degrees;
      sine = s.sine;
      cosine = s.cosine;
      origin = point_at b s.origin;
      column_spacing = spacing_at b s.column;
      row_spacing = spacing_at b s.row;
    }

unfoldable pub box_at : List ℕ → BoxPlaces → Box
box_at b s = record { layer = s.layer; boxtype = s.boxtype; first = point_at b s.first; second = point_at b s.second }

abbrev pub body_at : List ℕ → BodyPlaces → Body
body_at b (B.Polygon s) = polygon (shape_at b s)
body_at b (B.Path s) = path (path_at b s)
body_at b (B.Text s) = text (text_at b s)
body_at b (B.Node s) = node (shape_at b s)
body_at b (B.Reference s) = reference (reference_at b s)
body_at b (B.Box s) = box (box_at b s)

abbrev pub properties_at : List ℕ → PropertyPlaces → List Property
properties_at b q = properties_from q.count b q.place

-- what the code's `Option` tells, by what its value tells
abbrev pub option_as : {A B : Type 0} → (A → B) → Code.Option A → Option B
option_as value Code.None = none
option_as value (Code.Some a) = some (value a)

-- the options, each of which may be absent
abbrev pub flags_of : Options → Option ℕ
flags_of o = option_as (λ n. n) o.flags

abbrev pub plex_of : Options → Option ℤ
plex_of o = option_as (to_z w32) o.plex

-- ---- the options, after the kind byte: "with both, flags come first"

-- the bytes of a part that may be absent
abbrev pub size_if : Bool → ℕ → ℕ
size_if there n = cond there n 0

-- the bytes of each, and of both
abbrev pub flags_size : ℕ
flags_size = 2

abbrev pub plex_size : ℕ
plex_size = 4

abbrev pub max_shift : ℕ
max_shift = 6

-- how many bytes they take after the kind byte k
unfoldable pub shift_of : ℕ → ℕ
shift_of k = size_if (raised flags_raise k) flags_size + size_if (raised plex_raise k) plex_size

unfoldable pub options_at : List ℕ → Options
options_at b =
    let k = number_at 1 b 0 in
    record {
      flags = then_some (raised flags_raise k) (number_at 2 b 1);
      plex = then_some (raised plex_raise k) (number_at 4 b (1 + size_if (raised flags_raise k) flags_size));
      shift = shift_of k;
    }

-- The block less the bytes of its options: its first byte stands for the kind byte and is not looked at, so the parts of a body stand at the same places with options and without.
unfoldable pub shifted : List ℕ → List ℕ
shifted b = drop (shift_of (number_at 1 b 0)) b

-- ---- where the parts of a block stand: each where the one before it ends, the first after the kind byte

unfoldable pub shape_places : List ℕ → ShapePlaces
shape_places b = record { layer = number_at 2 b 1; datatype = number_at 2 b 3; points = record { count = number_at 2 b 5; place = 7 } }

unfoldable pub path_places : List ℕ → PathPlaces
path_places b =
    record {
      layer = number_at 2 b 1;
      datatype = number_at 2 b 3;
      pathtype = number_at 1 b 5;
      width = 6;
      begin = 23;
      end = 40;
      points = record { count = number_at 2 b 57; place = 59 };
    }

unfoldable pub text_places : List ℕ → TextPlaces
text_places b =
    record {
      layer = number_at 2 b 1;
      texttype = number_at 2 b 3;
      vertical = number_at 1 b 5;
      horizontal = number_at 1 b 6;
      reflection = eqb (number_at 1 b 7) 1;
      magnification = double_at b 8;
      degrees = double_at b 16;
      origin = 24;
      string = 58;
    }

-- of a reference, whose name is at 1 and ends at p
unfoldable pub reference_places : List ℕ → ℕ → ReferencePlaces
reference_places b p =
    record {
      name = 1;
      columns = number_at 4 b p;
      rows = number_at 4 b (p + 4);
      reflection = eqb (number_at 1 b (p + 8)) 1;
      magnification = double_at b (p + 9);
      degrees = double_at b (p + 17);
      sine = double_at b (p + 25);
      cosine = double_at b (p + 33);
      origin = p + 41;
      column = p + 75;
      row = p + 109;
    }

unfoldable pub box_places : List ℕ → BoxPlaces
box_places b = record { layer = number_at 2 b 1; boxtype = number_at 2 b 3; first = 5; second = 39 }

-- by the kind k, without additions: a box for what is left, of which a well-formed block has 6 alone
unfoldable pub body_places : ℕ → List ℕ → BodyPlaces
body_places k b =
    cond (eqb k polygon_kind) (B.Polygon (shape_places b))
    (cond (eqb k path_kind) (B.Path (path_places b))
    (cond (eqb k text_kind) (B.Text (text_places b))
    (cond (eqb k node_kind) (B.Node (shape_places b))
    (cond (eqb k reference_kind) (B.Reference (reference_places b (string_end b 1)))
    (B.Box (box_places b))))))

abbrev pub points_end : PointsPlaces → ℕ
points_end s = s.place + point_length * s.count

-- where a body ends
abbrev pub body_end : List ℕ → BodyPlaces → ℕ
body_end b (B.Polygon s) = points_end s.points
body_end b (B.Path s) = points_end s.points
body_end b (B.Text s) = string_end b s.string
body_end b (B.Node s) = points_end s.points
body_end b (B.Reference s) = s.row + point_length
body_end b (B.Box s) = s.second + point_length

-- the body of a block behind its options, and where it ends
abbrev pub body_in : List ℕ → BodyPlaces
body_in b = body_places (plain_kind (number_at 1 b 0)) (shifted b)

abbrev pub body_end_in : List ℕ → ℕ
body_end_in b = body_end (shifted b) (body_in b)

-- the count of the properties stands where the body ends
unfoldable pub element_places : List ℕ → ElementPlaces
element_places b =
    let end = body_end_in b in
    record { options = options_at b; body = body_in b; properties = record { count = number_at 2 (shifted b) end; place = end + 2 } }

-- ---- the places lie in the block: for those that read by them

pub record HeadIn (b : List ℕ) (s : HeadPlaces) : Type 0 where
  pub name_in : string_end b s.name ≤ length b
  pub stamps-in : s.stamps + stamps_length ≤ length b

abbrev pub PointsIn : List ℕ → PointsPlaces → Type 0
PointsIn b s = points_end s ≤ length b

pub record ShapeIn (b : List ℕ) (s : ShapePlaces) : Type 0 where
  pub points-in : PointsIn b s.points

pub record PathIn (b : List ℕ) (s : PathPlaces) : Type 0 where
  pub width-in : s.width + coordinate_length ≤ length b
  pub begin-in : s.begin + coordinate_length ≤ length b
  pub end-in : s.end + coordinate_length ≤ length b
  pub points-in : PointsIn b s.points

pub record TextIn (b : List ℕ) (s : TextPlaces) : Type 0 where
  pub origin-in : s.origin + point_length ≤ length b
  pub string-in : string_end b s.string ≤ length b

pub record ReferenceIn (b : List ℕ) (s : ReferencePlaces) : Type 0 where
  pub name_in : string_end b s.name ≤ length b
  pub origin-in : s.origin + point_length ≤ length b
  pub column-in : s.column + point_length ≤ length b
  pub row_in : s.row + point_length ≤ length b

pub record BoxIn (b : List ℕ) (s : BoxPlaces) : Type 0 where
  pub first-in : s.first + point_length ≤ length b
  pub second-in : s.second + point_length ≤ length b

abbrev pub BodyIn : List ℕ → BodyPlaces → Type 0
BodyIn b (B.Polygon s) = ShapeIn b s
BodyIn b (B.Path s) = PathIn b s
BodyIn b (B.Text s) = TextIn b s
BodyIn b (B.Node s) = ShapeIn b s
BodyIn b (B.Reference s) = ReferenceIn b s
BodyIn b (B.Box s) = BoxIn b s

-- the properties end with the block
pub record PropertiesIn (b : List ℕ) (q : PropertyPlaces) : Type 0 where
  pub first-in : q.place ≤ length b
  pub last-in : place_from property_end q.count b q.place ≡ length b

pub record ElementIn (b : List ℕ) (s : BodyPlaces) (q : PropertyPlaces) : Type 0 where
  pub body-in : BodyIn b s
  pub properties-in : PropertiesIn b q
