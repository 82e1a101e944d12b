-- What stands at a place of a block, whatever the block holds: total, with no form checked. The check of a block's form says once that these are
-- the values of the sheet's definitions; all that comes after it speaks of places alone (document 01, "Input", second paragraph). Assumes nothing.
use Rattle.std.specs.Prelude.{cond, List, [], ◌∷◌, ℕ, zero, suc, ◌+◌, eqb, take, drop, Float}
use Rattle.std.proofs.Math.Option.{Option, none, some}
use Rattle.std.specs.Float.{binary64}
use Rattle.std.specs.Float.Ieee.{of_bits}
use Rattle.std.proofs.Common.{to_z}
use Rattle.std.specs.Int.{w32}
use Rattle.big_endian.specs.Big.{number_at}
use Rattle.units.specs.declared.Unit.{Unit}
use Rattle.units.specs.declared.Unit.TheVariants as U
use Rattle.units.specs.Point.{Point}
use Rattle.sheet.specs.Form.{integer_kind, absent_kind}
use Rattle.sheet.specs.Element.{Property}

-- ---- values in a row

-- n values, each at the place where the one before ends
unfoldable pub values_from : {A : Type 0} → (List ℕ → ℕ → A) → (List ℕ → ℕ → ℕ) → ℕ → List ℕ → ℕ → List A
values_from value next zero b at = []
values_from value next (suc n) b at = value b at ∷ values_from value next n b (next b at)

-- the place where n values end
unfoldable pub place_from : (List ℕ → ℕ → ℕ) → ℕ → List ℕ → ℕ → ℕ
place_from next zero b at = at
place_from next (suc n) b at = place_from next n b (next b at)

-- ---- numbers

abbrev pub word_end : List ℕ → ℕ → ℕ
word_end b at = at + 2

-- n numbers of 2 bytes
abbrev pub words_from : ℕ → List ℕ → ℕ → List ℕ
words_from = values_from (number_at 2) word_end

abbrev pub double_at : List ℕ → ℕ → Float
double_at b at = of_bits binary64 (number_at 8 b at)

-- the greatest of 2 bytes
abbrev pub max_word : ℕ
max_word = 65535

-- "its twelve stamp numbers", and their bytes
abbrev pub stamp_numbers : ℕ
stamp_numbers = 12

abbrev pub stamps_length : ℕ
stamps_length = 24

-- where the points of a polygon, a node and a path begin, and the bytes of a text's string; where a box ends
abbrev pub shape_points_place : ℕ
shape_points_place = 7

abbrev pub path_points_place : ℕ
path_points_place = 59

abbrev pub string_bytes_place : ℕ
string_bytes_place = 60

abbrev pub box_end_place : ℕ
box_end_place = 73

-- what a reference's block has between its name and its properties
abbrev pub after_name_length : ℕ
after_name_length = 143

-- ---- coordinates

-- "17 bytes, a kind, 8 value bytes, then the unit as a double"; a point has two
abbrev pub coordinate_length : ℕ
coordinate_length = 17

abbrev pub point_length : ℕ
point_length = 34

-- A coordinate that is not absent, "17 bytes, a kind, 8 value bytes, then the unit as a double": kind 0 is an integer, of the lower four value bytes; any other a double.
unfoldable pub unit_at : List ℕ → ℕ → Unit
unit_at b at =
    cond (eqb (number_at 1 b at) integer_kind)
    (U.Integer (to_z w32 (number_at 4 b (at + 5))) (double_at b (at + 9)))
    (U.Float (double_at b (at + 1)) (double_at b (at + 9)))

-- a coordinate that may be absent
unfoldable pub coordinate_at : List ℕ → ℕ → Option Unit
coordinate_at b at = cond (eqb (number_at 1 b at) absent_kind) none (some (unit_at b at))

-- "A point is x then y"
unfoldable pub point_at : List ℕ → ℕ → Point Unit
point_at b at = record { x = unit_at b at; y = unit_at b (at + coordinate_length) }

abbrev pub point_end : List ℕ → ℕ → ℕ
point_end b at = at + point_length

abbrev pub points_from : ℕ → List ℕ → ℕ → List (Point Unit)
points_from = values_from point_at point_end

-- a spacing, which is absent as a whole: its first coordinate tells
unfoldable pub spacing_at : List ℕ → ℕ → Option (Point Unit)
spacing_at b at = cond (eqb (number_at 1 b at) absent_kind) none (some (point_at b at))

-- ---- strings and properties

-- "A string is a 2-byte length and its bytes": the bytes
unfoldable pub string_at : List ℕ → ℕ → List ℕ
string_at b at = take (number_at 2 b at) (drop (at + 2) b)

abbrev pub string_end : List ℕ → ℕ → ℕ
string_end b at = at + 2 + number_at 2 b at

-- "a 2-byte attribute and a string"
unfoldable pub property_at : List ℕ → ℕ → Property
property_at b at = record { attribute = number_at 2 b at; value = string_at b (at + 2) }

abbrev pub property_end : List ℕ → ℕ → ℕ
property_end b at = string_end b (at + 2)

abbrev pub properties_from : ℕ → List ℕ → ℕ → List Property
properties_from = values_from property_at property_end
