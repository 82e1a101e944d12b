-- The edges and the points of the cell and of the stream of Read, and a cell of two points with structures that draw it otherwise (document 02, request 10), by hand. Assumes nothing.
use Rattle.std.proofs.Math.Option.{Option, none, some}
use Rattle.std.specs.Prelude.{List, [], ◌∷◌, ℕ, ℤ, pos, negsuc, Float}
use Rattle.std.specs.Float.{binary64}
use Rattle.std.specs.Float.Ieee.{of_bits}
use Rattle.units.specs.Point.{Point}
use Rattle.sheet.specs.Cell.{Cell}
use Rattle.sheet.specs.Element as S
use Rattle.stream.specs.Structure as D
use Rattle.cases.specs.Read.{at}

abbrev pub unit : ℕ → Float
unit b = of_bits binary64 b

abbrev pub one : Float
one = unit 0x3ff0000000000000

abbrev pub two : Float
two = unit 0x4000000000000000

-- ---- of every kind

abbrev drawn : ℤ → ℤ → Point ℤ
drawn x y = record { x = x; y = y }

-- as Read's stream has them: a polygon's, two paths', two texts', a node's, a reference's, an array's origin, the 1 × 1 array's, a box's
unfoldable pub points : List (Point ℤ)
points =
    drawn (pos 0) (pos 0) ∷ drawn (pos 4) (pos 0) ∷ drawn (pos 4) (negsuc 3) ∷ drawn (pos 0) (pos 0)
    ∷ drawn (pos 0) (pos 0) ∷ drawn (pos 8) (pos 9)
    ∷ drawn (pos 1) (pos 2) ∷ drawn (pos 3) (pos 4)
    ∷ drawn (pos 10) (negsuc 10)
    ∷ drawn (pos 0) (pos 0)
    ∷ drawn (pos 1) (pos 2)
    ∷ drawn (pos 12) (pos 13)
    ∷ drawn (pos 100) (pos 200)
    ∷ drawn (pos 1) (negsuc 0)
    ∷ drawn (pos 3) (negsuc 4) ∷ drawn (negsuc 6) (negsuc 4) ∷ drawn (negsuc 6) (pos 11) ∷ drawn (pos 3) (pos 11) ∷ drawn (pos 3) (negsuc 4)
    ∷ []

-- the physical values, by their bits
abbrev edge : ℕ → ℕ → Point (Option Float)
edge x y = record { x = some (unit x); y = some (unit y) }

abbrev passes : Point (Option Float)
passes = record { x = none; y = none }

-- in the database unit 2 every integer in the unit 1 is converted
unfoldable pub converted_edges : List (Point (Option Float))
converted_edges =
    edge 0 0 ∷ edge 0x4010000000000000 0 ∷ edge 0x4010000000000000 0xc010000000000000 ∷ edge 0 0
    ∷ edge 0 0 ∷ edge 0x4020000000000000 0x4022000000000000
    ∷ edge 0x3ff0000000000000 0x4000000000000000 ∷ edge 0x4008000000000000 0x4010000000000000
    ∷ edge 0x4024000000000000 0xc026000000000000
    ∷ edge 0 0
    ∷ edge 0x3ff0000000000000 0x4000000000000000
    ∷ edge 0x4028000000000000 0x402a000000000000
    ∷ edge 0x4059000000000000 0x4069000000000000
    ∷ edge 0x3ff0000000000000 0xbff0000000000000
    ∷ edge 0x4008000000000000 0xc014000000000000 ∷ edge 0xc01c000000000000 0xc014000000000000 ∷ edge 0xc01c000000000000 0x4026000000000000 ∷ edge 0x4008000000000000 0x4026000000000000 ∷ edge 0x4008000000000000 0xc014000000000000
    ∷ []

-- in the database unit 1 they pass, but for the array's
unfoldable pub passed_edges : List (Point (Option Float))
passed_edges =
    passes ∷ passes ∷ passes ∷ passes
    ∷ passes ∷ passes
    ∷ passes ∷ passes
    ∷ passes
    ∷ passes
    ∷ passes
    ∷ passes
    ∷ edge 0x4059000000000000 0x4069000000000000
    ∷ passes
    ∷ passes ∷ passes ∷ passes ∷ passes ∷ passes
    ∷ []

-- ---- a node of two points in the unit 1

abbrev no_stamps : List ℕ
no_stamps = 0 ∷ 0 ∷ 0 ∷ 0 ∷ 0 ∷ 0 ∷ 0 ∷ 0 ∷ 0 ∷ 0 ∷ 0 ∷ 0 ∷ []

-- (1, 5) and (2, 5)
unfoldable pub pair : Cell
pair = record {
  head = record { name = 0x41 ∷ []; stamps = no_stamps };
  elements = record { flags = none; plex = none; body = S.node (record { layer = 0; datatype = 0; points = at (pos 1) (pos 5) ∷ at (pos 2) (pos 5) ∷ [] }); properties = [] } ∷ [];
}

abbrev drawn_at : List (Point ℤ) → D.Structure
drawn_at ps = record {
  stamps = no_stamps;
  name = 0x41 ∷ 0 ∷ [];
  elements = record { flags = none; plex = none; body = D.node (record { layer = 0; datatype = 0; points = ps }); properties = [] } ∷ [];
}

-- as nearest writes it in the database unit 2: 0.5 and 1 both to 1, 2.5 to 3
unfoldable pub kept : D.Structure
kept = drawn_at (drawn (pos 1) (pos 3) ∷ drawn (pos 1) (pos 3) ∷ [])

-- the left point to the right of the right one
unfoldable pub crossed : D.Structure
crossed = drawn_at (drawn (pos 2) (pos 3) ∷ drawn (pos 1) (pos 3) ∷ [])

-- one height at two
unfoldable pub parted : D.Structure
parted = drawn_at (drawn (pos 1) (pos 3) ∷ drawn (pos 1) (pos 4) ∷ [])

-- a point too few
unfoldable pub short : D.Structure
short = drawn_at (drawn (pos 1) (pos 3) ∷ [])
