-- The sheet of a cell (document 02, request 8): the bytes that the forms of document 01 ("Input") and of requests 3 and 5 read as that cell. Assumes nothing.
use Rattle.std.specs.Prelude.{Bool, cond, List, [], ◌∷◌, ◌++◌, ℕ, ◌+◌, ◌*◌, length, ℤ, Float}
use Rattle.std.proofs.Math.Option.{Option, none, some}
use Rattle.std.specs.Float.{binary64}
use Rattle.std.specs.Float.Ieee.{to_bits}
use Rattle.std.proofs.Common.{of_z}
use Rattle.std.specs.Int.{w32}
use Rattle.big_endian.specs.Big.{bytes_of, joined}
use Rattle.units.specs.declared.Unit.{Unit}
use Rattle.units.specs.declared.Unit.TheVariants as U
use Rattle.units.specs.Point.{Point}
use Rattle.sheet.specs.Form.{integer_kind, double_kind, absent_kind}
use Rattle.sheet.specs.Element.{Property, Head, Shape, Path, Text, Reference, Box, Body, polygon, path, text, node, reference, box, Element, kind_of, flags_raise, plex_raise}
use Rattle.sheet.specs.Cell.{Cell}

-- ---- parts

-- a 2-byte count and as many parts
abbrev pub counted_bytes : {A : Type 0} → (A → List ℕ) → List A → List ℕ
counted_bytes f s = bytes_of 2 (length s) ++ joined f s

-- "A string is a 2-byte length and its bytes."
abbrev pub string_bytes : List ℕ → List ℕ
string_bytes s = bytes_of 2 (length s) ++ s

abbrev pub double_bytes : Float → List ℕ
double_bytes x = bytes_of 8 (to_bits binary64 x)

-- 0 or 1
abbrev pub flag_bytes : Bool → List ℕ
flag_bytes b = cond b 1 0 ∷ []

-- "a kind .., 8 value bytes (integer: four zeros, then a signed 32-bit value), then the unit as a double": the number in eight bytes, of which the upper four are zeros
abbrev pub unit_bytes : Unit → List ℕ
unit_bytes (U.Integer v u) = integer_kind ∷ (bytes_of 8 (of_z w32 v) ++ double_bytes u)
unit_bytes (U.Float v u) = double_kind ∷ (double_bytes v ++ double_bytes u)

-- "Absent means 16 zero bytes follow"
abbrev pub coordinate_bytes : Option Unit → List ℕ
coordinate_bytes none = absent_kind ∷ bytes_of 16 0
coordinate_bytes (some u) = unit_bytes u

-- "A point is x then y."
abbrev pub point_bytes : Point Unit → List ℕ
point_bytes p = unit_bytes p.x ++ unit_bytes p.y

-- "whole spacings may be absent"
abbrev pub spacing_bytes : Option (Point Unit) → List ℕ
spacing_bytes none = coordinate_bytes none ++ coordinate_bytes none
spacing_bytes (some p) = point_bytes p

-- "for each a 2-byte attribute and a string"
abbrev pub property_bytes : Property → List ℕ
property_bytes q = bytes_of 2 q.attribute ++ string_bytes q.value

-- ---- blocks

-- "Head: name string; twelve numbers"
unfoldable pub head_block : Head → List ℕ
head_block h = string_bytes h.name ++ joined (bytes_of 2) h.stamps

-- "Polygon or node: layer, type, point count, points"
unfoldable pub shape_bytes : Shape → List ℕ
shape_bytes e = bytes_of 2 e.layer ++ (bytes_of 2 e.datatype ++ counted_bytes point_bytes e.points)

-- "path type byte (0, 1, 2; 255 absent)"
abbrev pub path_type_byte : Option ℕ → ℕ
path_type_byte none = 255
path_type_byte (some n) = n

-- "Path: layer, type, path type byte, width, begin and end extension, point count, points"
unfoldable pub path_bytes : Path → List ℕ
path_bytes e =
    bytes_of 2 e.layer ++ (bytes_of 2 e.datatype ++ (path_type_byte e.path_type
    ∷ (coordinate_bytes e.width ++ (coordinate_bytes e.begin ++ (coordinate_bytes e.end ++ counted_bytes point_bytes e.points)))))

-- "Text: layer, type, bytes vertical (0–2), horizontal (0–2), reflection (0 or 1), doubles magnification and degrees, origin, string"
unfoldable pub text_bytes : Text → List ℕ
text_bytes e =
    bytes_of 2 e.layer ++ (bytes_of 2 e.texttype ++ (e.vertical ∷ e.horizontal ∷ (flag_bytes e.reflection
    ++ (double_bytes e.magnification ++ (double_bytes e.degrees ++ (point_bytes e.origin ++ string_bytes e.string))))))

-- "Reference: name string, 4-byte columns and rows, reflection byte, doubles magnification, degrees, sine, cosine, then origin, column spacing, row spacing"
unfoldable pub reference_bytes : Reference → List ℕ
reference_bytes e =
    string_bytes e.name ++ (bytes_of 4 e.columns ++ (bytes_of 4 e.rows ++ (flag_bytes e.reflection
    ++ (double_bytes e.magnification ++ (double_bytes e.degrees ++ (double_bytes e.sine ++ (double_bytes e.cosine
    ++ (point_bytes e.origin ++ (spacing_bytes e.column_spacing ++ spacing_bytes e.row_spacing)))))))))

-- "layer, type, two corner points"
unfoldable pub box_bytes : Box → List ℕ
box_bytes e = bytes_of 2 e.layer ++ (bytes_of 2 e.boxtype ++ (point_bytes e.first ++ point_bytes e.second))

abbrev pub body_bytes : Body → List ℕ
body_bytes (polygon e) = shape_bytes e
body_bytes (path e) = path_bytes e
body_bytes (text e) = text_bytes e
body_bytes (node e) = shape_bytes e
body_bytes (reference e) = reference_bytes e
body_bytes (box e) = box_bytes e

-- what the kind byte is raised by for an option
abbrev pub addition : {A : Type 0} → ℕ → Option A → ℕ
addition n none = 0
addition n (some a) = n

-- "A kind byte raised by 16 is followed by 2 bytes of flags; raised by 32, by 4 bytes of signed plex number"
abbrev pub kind_byte : Element → ℕ
kind_byte e = kind_of e.body + addition flags_raise e.flags + addition plex_raise e.plex

-- an option that is absent has no bytes
abbrev pub option_bytes : {A : Type 0} → (A → List ℕ) → Option A → List ℕ
option_bytes f none = []
option_bytes f (some a) = f a

abbrev pub plex_bytes : ℤ → List ℕ
plex_bytes p = bytes_of 4 (of_z w32 p)

-- kind byte, options, body, properties: "with both, flags come first"
unfoldable pub element_block : Element → List ℕ
element_block e =
    kind_byte e ∷ (option_bytes (bytes_of 2) e.flags ++ (option_bytes plex_bytes e.plex
    ++ (body_bytes e.body ++ counted_bytes property_bytes e.properties)))

abbrev pub blocks_of : List Element → List (List ℕ)
blocks_of [] = []
blocks_of (e ∷ es) = element_block e ∷ blocks_of es

-- ---- the sheet of any blocks: "a 4-byte pair count n, n pairs of 4-byte offset and 4-byte length .., then the blocks"

-- the pairs of blocks that follow each other from a place on
unfoldable pub pairs_bytes : ℕ → List (List ℕ) → List ℕ
pairs_bytes at [] = []
pairs_bytes at (b ∷ bs) = bytes_of 4 at ++ (bytes_of 4 (length b) ++ pairs_bytes (at + length b) bs)

-- "The first starts at 4 + 8n, each next where the one before ends"
unfoldable pub blocks_sheet : List (List ℕ) → List ℕ
blocks_sheet bs = bytes_of 4 (length bs) ++ (pairs_bytes (4 + 8 * length bs) bs ++ joined (λ b. b) bs)

-- "Block 0 is the head; block k is element index k − 1."
unfoldable pub cell_sheet : Cell → List ℕ
cell_sheet c = blocks_sheet (head_block c.head ∷ blocks_of c.elements)
