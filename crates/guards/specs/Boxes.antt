-- Boxes by hand (document 02, request 3; gds_box.rs): blocks and what they hold; corners, the points that they are written to and what is reported of them. Assumes nothing.
use Rattle.std.proofs.Math.Option.{Option, none, some}
use Rattle.std.specs.Prelude.{List, [], ◌∷◌, ◌++◌, ℕ, ◌+◌, ℤ, pos, negsuc}
use Rattle.units.specs.declared.Unit.{Unit}
use Rattle.units.specs.declared.Unit.TheVariants as U
use Rattle.units.specs.Point.{Point}
use Rattle.conversion.specs.declared.GdsRoundingPolicy.{GdsRoundingPolicy}
use Rattle.conversion.specs.declared.GdsRoundingPolicy.TheVariants.{Nearest, Floor, Ceil, ErrorIfOffGrid}
use Rattle.conversion.specs.declared.Entry.{Entry}
use Rattle.sheet.specs.Element as S
use Rattle.guards.specs.Question.{x, bits}
use Rattle.guards.specs.Values.{one}

-- ---- parts

-- doubles by their bits: 2, 2.25, 2.5 and 2.75; 1/4, 1/2 and 3/4; and with the other sign
abbrev two : ℕ
two = 0x4000000000000000

abbrev two_and_quarter : ℕ
two_and_quarter = 0x4002000000000000

abbrev two_and_half : ℕ
two_and_half = 0x4004000000000000

abbrev two_and_three_quarters : ℕ
two_and_three_quarters = 0x4006000000000000

abbrev quarter : ℕ
quarter = 0x3fd0000000000000

abbrev half : ℕ
half = 0x3fe0000000000000

abbrev three_quarters : ℕ
three_quarters = 0x3fe8000000000000

abbrev minus : ℕ → ℕ
minus b = 0x8000000000000000 + b

-- coordinates: an integer and a double, in a unit of 1
abbrev whole : ℤ → Unit
whole v = U.Integer v one

abbrev double : ℕ → Unit
double b = U.Float (bits b) one

abbrev at : {C : Type 0} → C → C → Point C
at u v = record { x = u; y = v }

abbrev o : Point Unit
o = at (whole (pos 0)) (whole (pos 0))

-- ---- "kind byte, layer, type, two corner points, properties"

pub record Block : Type 0 where
  pub bytes : List ℕ
  pub held : Option S.Element

-- kind, layer 1 and type 2, coordinates, properties
abbrev block : ℕ → List ℕ → List ℕ → Option S.Element → Block
block k cs qs e = record { bytes = x 1 k ++ x 4 0x00010002 ++ cs ++ qs; held = e }

-- 17 bytes each: 3 in a unit of 1, -2 in a unit of 2, the double 2.5 in a unit of 1; absent; of a kind that there is not
abbrev three : List ℕ
three = x 17 0x0000000000000000033ff0000000000000

abbrev minus_two : List ℕ
minus_two = x 17 0x0000000000fffffffe4000000000000000

abbrev fraction : List ℕ
fraction = x 17 0x0140040000000000003ff0000000000000

abbrev gone : List ℕ
gone = x 17 0x0200000000000000000000000000000000

abbrev odd : List ℕ
odd = x 17 0x0300000000000000033ff0000000000000

-- two corners, and the box that has them
abbrev corners : List ℕ
corners = three ++ minus_two ++ fraction ++ three

abbrev box : List S.Property → Option S.Element
box qs =
    some (record {
      flags = none;
      plex = none;
      body = S.box (record { layer = 1; boxtype = 2; first = at (whole (pos 3)) (U.Integer (negsuc 1) (bits two)); second = at (double two_and_half) (whole (pos 3)) });
      properties = qs;
    })

unfoldable pub blocks : List Block
blocks =
    block 6 corners (x 2 0) (box []) {- 75 bytes -}
    ∷ block 6 corners (x 7 0x00010007000162) (box (record { attribute = 7; value = 98 ∷ [] } ∷ [])) {- a property -}
    ∷ block 6 corners (x 1 0) none {- a byte fewer -}
    ∷ block 6 corners (x 3 0) none {- a byte more -}
    ∷ block 6 (three ++ minus_two) (x 2 0) none {- one corner -}
    ∷ block 6 (x 2 2 ++ corners) (x 2 0) none {- a number of points, as a polygon has it -}
    ∷ block 6 (gone ++ minus_two ++ fraction ++ three) (x 2 0) none {- a coordinate that is absent, in each place -}
    ∷ block 6 (three ++ gone ++ fraction ++ three) (x 2 0) none
    ∷ block 6 (three ++ minus_two ++ gone ++ three) (x 2 0) none
    ∷ block 6 (three ++ minus_two ++ fraction ++ gone) (x 2 0) none
    ∷ block 6 (odd ++ minus_two ++ fraction ++ three) (x 2 0) none {- of an unknown kind -}
    ∷ block 6 (three ++ minus_two ++ fraction ++ odd) (x 2 0) none
    ∷ block 0 corners (x 2 0) none {- kinds that there are not -}
    ∷ block 7 corners (x 2 0) none
    ∷ block 255 corners (x 2 0) none
    ∷ []

-- ---- points and entries, on layer 1 and of type 2 as element index 4, in a database unit of 1

pub record Row : Type 0 where
  pub policy : GdsRoundingPolicy
  pub first : Point Unit
  pub second : Point Unit
  pub points : List (Point ℤ)
  pub entries : List Entry

abbrev row : GdsRoundingPolicy → Point Unit → Point Unit → List (Point ℤ) → List Entry → Row
row r p q ps es = record { policy = r; first = p; second = q; points = ps; entries = es }

-- (x1, y1) and (x2, y2)
abbrev from : ℤ → ℤ → ℤ → ℤ → List (Point ℤ)
from x1 y1 x2 y2 = at x1 y1 ∷ at x2 y1 ∷ at x2 y2 ∷ at x1 y2 ∷ at x1 y1 ∷ []

-- axis, point place and affected count; p, q and the error
abbrev entry : ℕ → ℕ → ℕ → ℕ → ℤ → ℕ → List Entry
entry a k n p q e = record { index = 4; kind = 6; field = 0; axis = a; place = k; count = n; physical = bits p; database = q; error = bits e } ∷ []

unfoldable pub rows : List Row
rows =
    row Nearest (at (whole (pos 5)) (whole (pos 6))) (at (whole (negsuc 1)) (whole (negsuc 2))) (from (pos 5) (pos 6) (negsuc 1) (negsuc 2)) [] {- the second corner left of and below the first -}
    ∷ row Nearest (at (whole (negsuc 1)) (whole (negsuc 2))) (at (whole (pos 5)) (whole (pos 6))) (from (negsuc 1) (negsuc 2) (pos 5) (pos 6)) [] {- right of and above it -}
    ∷ row ErrorIfOffGrid (at (whole (pos 5)) (whole (negsuc 2))) (at (whole (negsuc 1)) (whole (pos 6))) (from (pos 5) (negsuc 2) (negsuc 1) (pos 6)) [] {- left of and above it -}
    ∷ row Nearest (at (whole (pos 5)) (whole (pos 6))) (at (whole (pos 5)) (whole (negsuc 2))) (from (pos 5) (pos 6) (pos 5) (negsuc 2)) [] {- without width -}
    ∷ row Nearest (at (whole (pos 5)) (whole (pos 6))) (at (whole (negsuc 1)) (whole (pos 6))) (from (pos 5) (pos 6) (negsuc 1) (pos 6)) [] {- without height -}
    ∷ row Nearest o o (from (pos 0) (pos 0) (pos 0) (pos 0)) [] {- without both -}
    {- one coordinate off the grid: x1 and y1 stand in three points, x2 and y2 in two -}
    ∷ row Nearest (at (double two_and_quarter) (whole (pos 0))) o (from (pos 2) (pos 0) (pos 0) (pos 0)) (entry 0 0 3 two_and_quarter (pos 2) (minus quarter))
    ∷ row Nearest (at (whole (pos 0)) (double two_and_three_quarters)) o (from (pos 0) (pos 3) (pos 0) (pos 0)) (entry 1 0 3 two_and_three_quarters (pos 3) quarter)
    ∷ row Nearest o (at (double (minus two_and_quarter)) (whole (pos 0))) (from (pos 0) (pos 0) (negsuc 1) (pos 0)) (entry 0 1 2 (minus two_and_quarter) (negsuc 1) quarter)
    ∷ row Nearest o (at (whole (pos 0)) (double (minus two_and_three_quarters))) (from (pos 0) (pos 0) (pos 0) (negsuc 2)) (entry 1 2 2 (minus two_and_three_quarters) (negsuc 2) (minus quarter))
    {- all four: the first of equal magnitudes; y1, x2 and y2 the greatest -}
    ∷ row Nearest (at (double two_and_quarter) (double two_and_three_quarters)) (at (double (minus two_and_quarter)) (double two_and_quarter)) (from (pos 2) (pos 3) (negsuc 1) (pos 2)) (entry 0 0 10 two_and_quarter (pos 2) (minus quarter))
    ∷ row Nearest (at (double two_and_quarter) (double two_and_half)) (at (double two_and_quarter) (double (minus two_and_half))) (from (pos 2) (pos 3) (pos 2) (negsuc 2)) (entry 1 0 10 two_and_half (pos 3) half)
    ∷ row Nearest (at (double two_and_quarter) (double two_and_quarter)) (at (double (minus two_and_half)) (double two_and_half)) (from (pos 2) (pos 2) (negsuc 2) (pos 3)) (entry 0 1 10 (minus two_and_half) (negsuc 2) (minus half))
    ∷ row Nearest (at (double two_and_quarter) (double two_and_three_quarters)) (at (double two_and_quarter) (double two_and_half)) (from (pos 2) (pos 3) (pos 2) (pos 3)) (entry 1 2 10 two_and_half (pos 3) half)
    ∷ row Nearest (at (double two_and_quarter) (double two_and_quarter)) (at (whole (pos 2)) (whole (pos 2))) (from (pos 2) (pos 2) (pos 2) (pos 2)) (entry 0 0 6 two_and_quarter (pos 2) (minus quarter)) {- corners that meet by rounding -}
    ∷ row Nearest (at (U.Integer (pos 3) (bits two)) (U.Float (bits 0x3ff4000000000000) (bits two))) (at (U.Integer (negsuc 6) (bits half)) (whole (pos 9))) (from (pos 6) (pos 3) (negsuc 3) (pos 9)) (entry 1 0 5 two_and_half (pos 3) half) {- each in its own unit: 3 × 2, 1.25 × 2, -7 × 1/2 and 9 -}
    ∷ row Floor (at (double two_and_three_quarters) (double two_and_quarter)) o (from (pos 2) (pos 2) (pos 0) (pos 0)) (entry 0 0 6 two_and_three_quarters (pos 2) (minus three_quarters))
    ∷ row Ceil o (at (double two_and_quarter) (double two_and_three_quarters)) (from (pos 0) (pos 0) (pos 3) (pos 3)) (entry 0 1 4 two_and_quarter (pos 3) three_quarters)
    ∷ []
