-- Elements that fail two checks that follow one another, for each kind (document 01, "Who can cause which refusal": "in an element its function's order in mod.rs"; boxes: document 02, request 3; flags: its request 5; text types and properties: its request 6, and limit_guards), with the refusal that comes
-- first. Two checks of one number cannot be told apart: layer and type, columns and rows, the two spacings of 12, sine and cosine, magnification's and degrees' 14. Under nearest and d = 1 where
-- nothing else is said. Assumes nothing.
use Rattle.std.specs.Prelude.{false, List, [], ◌∷◌, ℕ, pos, negsuc, Float}
use Rattle.std.proofs.Math.Option.{Option, none, some}
use Rattle.refusal.specs.declared.Refusal.{Refusal}
use Rattle.refusal.specs.declared.Refusal.TheVariants as R
use Rattle.units.specs.declared.Unit.{Unit}
use Rattle.units.specs.declared.Unit.TheVariants as U
use Rattle.units.specs.Point.{Point}
use Rattle.conversion.specs.declared.GdsRoundingPolicy.{GdsRoundingPolicy}
use Rattle.conversion.specs.declared.GdsRoundingPolicy.TheVariants.{Nearest, ErrorIfOffGrid}
use Rattle.sheet.specs.Element as S
use Rattle.guards.specs.Question.{x, bits}
use Rattle.guards.specs.Values.{one}

pub record Row : Type 0 where
  pub policy : GdsRoundingPolicy
  pub unit : Float
  pub element : S.Element
  pub first : Refusal

-- ---- what passes, and what is refused

abbrev zero : Float
zero = bits 0

abbrev two : Float
two = bits 0x4000000000000000

-- 14
abbrev endless : Float
endless = bits 0x7ff0000000000000

abbrev good : Unit
good = U.Integer (pos 0) one

-- a point that differs from the one at 0
abbrev other : Unit
other = U.Integer (pos 1) one

-- 16: a unit of 0; 17: p is not finite; 18 under strict: 1/2; 19: 2 ^ 31
abbrev unitless : Unit
unitless = U.Integer (pos 1) zero

abbrev huge : Unit
huge = U.Float (bits 0x7fefffffffffffff) two

abbrev off : Unit
off = U.Float (bits 0x3fe0000000000000) one

abbrev far : Unit
far = U.Float (bits 0x41e0000000000000) one

abbrev at : Unit → Unit → Point Unit
at u v = record { x = u; y = v }

abbrev o : Point Unit
o = at good good

-- a point of this x
abbrev p : Unit → Point Unit
p u = at u good

-- 10: a value of 127 bytes, and a text of 513
abbrev long : List S.Property
long = record { attribute = 1; value = x 127 0 } ∷ []

abbrev wordy : List ℕ
wordy = x 513 0

-- ---- elements

abbrev by : GdsRoundingPolicy → Float → S.Body → List S.Property → Refusal → Row
by policy d b qs r = record { policy = policy; unit = d; element = record { flags = none; plex = none; body = b; properties = qs }; first = r }

abbrev row : S.Body → List S.Property → Refusal → Row
row = by Nearest one

abbrev strictly : S.Body → List S.Property → Refusal → Row
strictly = by ErrorIfOffGrid one

-- in a unit of 2 ^ 993
abbrev widely : S.Body → List S.Property → Refusal → Row
widely = by Nearest (bits 0x7e00000000000000)

abbrev shape : ℕ → ℕ → List (Point Unit) → S.Shape
shape l t ps = record { layer = l; datatype = t; points = ps }

-- layer, type, first and second corner
abbrev box : ℕ → ℕ → Point Unit → Point Unit → S.Body
box l t q r = S.box (record { layer = l; boxtype = t; first = q; second = r })

abbrev path : ℕ → ℕ → Unit → Unit → Unit → List (Point Unit) → S.Body
path l t w b e ps = S.path (record { layer = l; datatype = t; path_type = none; width = some w; begin = some b; end = some e; points = ps })

abbrev text : ℕ → ℕ → List ℕ → Float → Float → Point Unit → S.Body
text l t s m a q = S.text (record { layer = l; texttype = t; vertical = 0; horizontal = 0; reflection = false; magnification = m; degrees = a; origin = q; string = s })

-- "B"
abbrev B : List ℕ
B = 66 ∷ []

-- columns, rows, the two spacings
abbrev reference : List ℕ → ℕ → ℕ → Float → Float → Float → Float → Point Unit → Option (Point Unit) → Option (Point Unit) → S.Body
reference n c w m a si co q sc sr =
    S.reference (record { name = n; columns = c; rows = w; reflection = false; magnification = m; degrees = a; sine = si; cosine = co; origin = q; column_spacing = sc; row_spacing = sr })

-- an array of 2 × 2 that passes the checks before its conversions
abbrev array : Point Unit → Point Unit → Point Unit → S.Body
array q a b = reference B 2 2 one zero zero one q (some a) (some b)

-- in a unit of 2 ^ 993, 2 ^ 1023 and the double below it go to 2 ^ 30: twice that is beyond 32 bits, and twice 2 ^ 1023 is no double
abbrev over : Unit
over = U.Float (bits 0x7fe0000000000000) one

abbrev under : Unit
under = U.Float (bits 0x7fdfffffffffffff) one

-- with flags of 4, for 26
abbrev flagged : GdsRoundingPolicy → S.Body → List S.Property → Row
flagged policy b qs = record { policy = policy; unit = one; element = record { flags = some 4; plex = none; body = b; properties = qs }; first = R.Flags }

-- with flags of 3 and a plex number, which pass
abbrev carried : S.Body → List S.Property → Refusal → Row
carried b qs r = record { policy = Nearest; unit = one; element = record { flags = some 3; plex = some (negsuc 0); body = b; properties = qs }; first = r }

-- a coordinate's own checks, in a node
abbrev lone : Unit → S.Body
lone u = S.node (shape 1 1 (p u ∷ []))

unfoldable pub coordinates : List Row
coordinates =
    row (lone (U.Float endless zero)) [] R.SourceUnit {- 16, then 17: a unit of 0, and p is a NaN -}
    ∷ strictly (lone huge) [] R.NotFinite {- 17 of p, then 19 -}
    ∷ by Nearest (bits 0x3fe0000000000000) (lone (U.Float (bits 0x7fefffffffffffff) one)) [] R.NotFinite {- 17 of s, then 19: the greatest double in a unit of 1/2 -}
    ∷ strictly (lone (U.Float (bits 0x41e0000000100000) one)) [] R.OffGrid {- 18, then 19: 2 ^ 31 and a half -}
    ∷ []

unfoldable pub polygons : List Row
polygons =
    row (S.polygon (shape 256 1 (o ∷ o ∷ o ∷ []))) [] R.PointCount {- 8, then layer -}
    ∷ row (S.polygon (shape 1 256 (o ∷ o ∷ o ∷ []))) [] R.PointCount {- then type -}
    ∷ row (S.polygon (shape 256 1 (p unitless ∷ o ∷ o ∷ o ∷ []))) [] R.LayerOrType {- layer, then a point -}
    ∷ row (S.polygon (shape 1 256 (p unitless ∷ o ∷ o ∷ o ∷ []))) [] R.LayerOrType {- type, then a point -}
    ∷ row (S.polygon (shape 1 1 (at unitless far ∷ o ∷ o ∷ o ∷ []))) [] R.SourceUnit {- x, then y -}
    ∷ row (S.polygon (shape 1 1 (at far unitless ∷ o ∷ o ∷ o ∷ []))) [] R.OutOfRange {- also where x is refused later in its own checks -}
    ∷ row (S.polygon (shape 1 1 (at good huge ∷ p far ∷ o ∷ o ∷ []))) [] R.NotFinite {- a point, then the next -}
    ∷ row (S.polygon (shape 1 1 (o ∷ o ∷ o ∷ at other far ∷ []))) [] R.OutOfRange {- the last point, then the ends -}
    ∷ row (S.polygon (shape 1 1 (o ∷ o ∷ o ∷ p other ∷ []))) long R.NotClosed {- the ends, then a value -}
    ∷ []

unfoldable pub nodes : List Row
nodes =
    row (S.node (shape 256 1 [])) [] R.PointCount {- 8, then layer -}
    ∷ row (S.node (shape 1 256 [])) [] R.PointCount {- then type -}
    ∷ row (S.node (shape 256 1 (p unitless ∷ []))) [] R.LayerOrType {- layer, then a point -}
    ∷ row (S.node (shape 1 256 (p unitless ∷ []))) [] R.LayerOrType {- type, then a point -}
    ∷ row (S.node (shape 1 1 (at far unitless ∷ []))) [] R.OutOfRange {- x, then y -}
    ∷ row (S.node (shape 1 1 (at good huge ∷ p far ∷ []))) [] R.NotFinite {- a point, then the next -}
    ∷ row (S.node (shape 1 1 (o ∷ at good unitless ∷ []))) long R.SourceUnit {- the last point, then a value -}
    ∷ row (S.node (shape 1 1 (o ∷ p other ∷ []))) long R.StringLength {- its ends may differ -}
    ∷ []

-- the corners' coordinates are x1, y1, x2 and y2; a box is never refused by 8 or 20
unfoldable pub boxes : List Row
boxes =
    row (box 256 1 (p unitless) o) [] R.LayerOrType {- layer, then a corner -}
    ∷ row (box 1 256 (p unitless) o) [] R.LayerOrType {- type, then a corner -}
    ∷ row (box 1 1 (at unitless far) o) [] R.SourceUnit {- x1, then y1 -}
    ∷ row (box 1 1 (at far unitless) o) [] R.OutOfRange {- also where x1 is refused later in its own checks -}
    ∷ row (box 1 1 (p huge) (p unitless)) [] R.NotFinite {- x1, then x2 -}
    ∷ strictly (box 1 1 (p off) (at good unitless)) [] R.OffGrid {- x1, then y2 -}
    ∷ row (box 1 1 (at good far) (p unitless)) [] R.OutOfRange {- y1, then x2 -}
    ∷ row (box 1 1 (at good huge) (at good unitless)) [] R.NotFinite {- y1, then y2 -}
    ∷ strictly (box 1 1 o (at off far)) [] R.OffGrid {- x2, then y2 -}
    ∷ row (box 1 1 o (at far unitless)) [] R.OutOfRange {- also where x2 is refused later in its own checks -}
    ∷ row (box 1 1 o (at good unitless)) long R.SourceUnit {- y2, then a value -}
    ∷ row (box 255 255 o o) long R.StringLength {- a value; its corners may be one -}
    ∷ []

unfoldable pub paths : List Row
paths =
    row (path 256 1 good good good (o ∷ [])) [] R.PointCount {- 8, then layer -}
    ∷ row (path 1 256 good good good (o ∷ [])) [] R.PointCount {- then type -}
    ∷ row (path 256 1 unitless good good (o ∷ o ∷ [])) [] R.LayerOrType {- layer, then width -}
    ∷ row (path 1 256 unitless good good (o ∷ o ∷ [])) [] R.LayerOrType {- type, then width -}
    ∷ row (path 1 1 far unitless good (o ∷ o ∷ [])) [] R.OutOfRange {- width, then begin -}
    ∷ row (path 1 1 good far unitless (o ∷ o ∷ [])) [] R.OutOfRange {- begin, then end -}
    ∷ row (path 1 1 good good far (p unitless ∷ o ∷ [])) [] R.OutOfRange {- end, then a point -}
    ∷ row (path 1 1 good good good (at far unitless ∷ o ∷ [])) [] R.OutOfRange {- x, then y -}
    ∷ row (path 1 1 good good good (at good huge ∷ p far ∷ [])) [] R.NotFinite {- a point, then the next -}
    ∷ row (path 1 1 good good good (o ∷ at good far ∷ [])) long R.OutOfRange {- the last point, then a value -}
    ∷ row (path 1 1 good good good (o ∷ p other ∷ [])) long R.StringLength {- its ends may differ -}
    ∷ []

unfoldable pub texts : List Row
texts =
    row (text 256 255 wordy one zero o) [] R.LayerOrType {- 9, then 10 -}
    ∷ row (text 1 256 wordy one zero o) [] R.LayerOrType {- type, then 10 -}
    ∷ row (text 1 255 wordy zero zero o) [] R.StringLength {- 10, then magnification -}
    ∷ row (text 1 255 [] (bits 0xd2d0000000000000) zero o) [] R.Magnification {- 13, then 14: -2 ^ 302 -}
    ∷ row (text 1 255 [] (bits 0xfff0000000000000) zero o) [] R.Real {- minus infinity is first asked to be finite -}
    ∷ row (text 1 255 [] zero endless o) [] R.Magnification {- 13, then degrees -}
    ∷ row (text 1 255 [] endless zero (p unitless)) [] R.Real {- a magnification, then the origin -}
    ∷ row (text 1 255 [] one endless (p unitless)) [] R.Real {- degrees, then the origin -}
    ∷ row (text 1 255 [] one zero (at far unitless)) [] R.OutOfRange {- x, then y -}
    ∷ row (text 1 255 [] one zero (at good far)) long R.OutOfRange {- y, then a value -}
    ∷ row (text 1 255 [] one zero o) long R.StringLength {- a value -}
    ∷ []

unfoldable pub references : List Row
references =
    row (reference [] 0 1 one zero zero one o none none) [] R.Name {- 7, then columns -}
    ∷ row (reference [] 1 0 one zero zero one o none none) [] R.Name {- then rows -}
    ∷ row (reference B 0 2 one zero zero one o none none) [] R.ColumnsOrRows {- columns, then the row spacing -}
    ∷ row (reference B 2 0 one zero zero one o none none) [] R.ColumnsOrRows {- rows, then the column spacing -}
    ∷ row (reference B 32768 1 one zero zero one o none none) [] R.ColumnsOrRows {- more columns than 32,767, then their spacing -}
    ∷ row (reference B 2 1 zero zero zero one o none none) [] R.Spacing {- the column spacing, then magnification -}
    ∷ row (reference B 1 2 zero zero zero one o none none) [] R.Spacing {- the row spacing, then magnification -}
    ∷ row (reference B 1 1 (bits 0xd2d0000000000000) zero zero one o none none) [] R.Magnification {- 13, then 14 -}
    ∷ row (reference B 1 1 zero endless zero one o none none) [] R.Magnification {- 13, then degrees -}
    ∷ row (reference B 1 1 one endless zero one (p unitless) none none) [] R.Real {- degrees, then the origin -}
    ∷ row (reference B 1 1 one zero two two (at far unitless) none none) [] R.OutOfRange {- x, then y; a 1 × 1 reference is not asked for sine and cosine -}
    ∷ row (reference B 1 1 one zero two two (at good far) none none) long R.OutOfRange {- y, then a value -}
    ∷ row (reference B 1 1 one zero two two o (some (p unitless)) (some (p unitless))) long R.StringLength {- nor for spacings -}
    ∷ []

unfoldable pub arrays : List Row
arrays =
    row (reference B 2 1 one endless two one o (some o) none) [] R.Real {- degrees, then sine: 15 after 14 -}
    ∷ row (reference B 2 1 one zero two one (p unitless) (some o) none) [] R.SineOrCosine {- sine, then the origin -}
    ∷ row (reference B 2 1 one zero zero two (p unitless) (some o) none) [] R.SineOrCosine {- cosine, then the origin -}
    ∷ row (array (at huge unitless) o o) [] R.NotFinite {- p of the origin's x, then p of its y -}
    ∷ row (array (at far unitless) o o) [] R.SourceUnit {- p of its y, then its x converted -}
    ∷ strictly (array (at far off) o o) [] R.OutOfRange {- x converted, then y -}
    ∷ strictly (array (at off far) o o) [] R.OffGrid
    ∷ row (array (at good far) (p unitless) o) [] R.OutOfRange {- y converted, then p of the column spacing -}
    ∷ row (array o (at huge unitless) o) [] R.NotFinite {- its x, then its y -}
    ∷ row (array o (at good huge) (p unitless)) [] R.NotFinite {- its y, then p of the row spacing -}
    ∷ row (array o o (at huge unitless)) [] R.NotFinite {- its x, then its y -}
    ∷ row (array o (p far) (at good unitless)) [] R.SourceUnit {- all four, then the turned column spacing converted -}
    ∷ strictly (array o (at far off) o) [] R.OutOfRange {- its x, then its y -}
    ∷ strictly (array o (at good far) (p off)) [] R.OutOfRange {- its y, then the turned row spacing -}
    ∷ strictly (array o o (at far off)) [] R.OutOfRange {- its x, then its y -}
    ∷ strictly (array o (p (U.Float (bits 0x41d0000000000000) one)) (at good off)) [] R.OffGrid {- its y, then the endpoints: 2 ^ 30 twice -}
    ∷ widely (array o (p over) o) [] R.NotFinite {- an endpoint: 17, then 19 -}
    ∷ widely (array o (at under over) o) [] R.OutOfRange {- the columns' x, then their y -}
    ∷ widely (array o (at good under) (p over)) [] R.OutOfRange {- their y, then the rows' x -}
    ∷ widely (array o o (at under over)) [] R.OutOfRange {- the rows' x, then their y -}
    ∷ widely (array o o (at good over)) long R.NotFinite {- the rows' y, then a value -}
    ∷ row (array o o o) long R.StringLength {- a value -}
    ∷ []

-- "26 flags above 3, directly after the block's form check": before every other check of an element
unfoldable pub flags : List Row
flags =
    flagged Nearest (reference [] 1 1 one zero zero one o none none) [] {- 26, then 7 -}
    ∷ flagged Nearest (S.polygon (shape 1 1 (o ∷ o ∷ o ∷ []))) [] {- then 8: a polygon, a path, a node -}
    ∷ flagged Nearest (path 1 1 good good good (o ∷ [])) []
    ∷ flagged Nearest (S.node (shape 1 1 [])) []
    ∷ flagged Nearest (S.polygon (shape 256 1 (o ∷ o ∷ o ∷ o ∷ []))) [] {- then 9: a polygon, a path, a text, a node, a box -}
    ∷ flagged Nearest (path 1 256 good good good (o ∷ o ∷ [])) []
    ∷ flagged Nearest (text 256 255 [] one zero o) []
    ∷ flagged Nearest (S.node (shape 1 256 (o ∷ []))) []
    ∷ flagged Nearest (box 256 1 o o) []
    ∷ flagged Nearest (text 1 255 wordy one zero o) [] {- then 10, of a text -}
    ∷ flagged Nearest (reference B 0 1 one zero zero one o none none) [] {- then 11 -}
    ∷ flagged Nearest (reference B 2 1 one zero zero one o none none) [] {- then 12 -}
    ∷ flagged Nearest (text 1 255 [] zero zero o) [] {- then 13 -}
    ∷ flagged Nearest (text 1 255 [] one endless o) [] {- then 14 -}
    ∷ flagged Nearest (reference B 2 1 one zero two one o (some o) none) [] {- then 15 -}
    ∷ flagged Nearest (lone unitless) [] {- then 16 to 19 -}
    ∷ flagged Nearest (lone huge) []
    ∷ flagged ErrorIfOffGrid (lone off) []
    ∷ flagged Nearest (lone far) []
    ∷ flagged Nearest (S.polygon (shape 1 1 (o ∷ o ∷ o ∷ p other ∷ []))) [] {- then 20 -}
    ∷ flagged Nearest (lone good) long {- then 10, of a value -}
    ∷ carried (reference [] 0 1 one zero zero one o none none) [] R.Name {- what passes leaves the order as it is -}
    ∷ carried (S.polygon (shape 256 1 (o ∷ o ∷ o ∷ []))) [] R.PointCount
    ∷ carried (text 256 255 wordy one zero o) [] R.LayerOrType
    ∷ carried (box 1 1 o (at good unitless)) long R.SourceUnit
    ∷ []
