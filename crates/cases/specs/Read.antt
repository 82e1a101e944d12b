-- A stream with every kind of element and the cell that is read from it, both by hand (document 02, requests 5, 6 and 8). Assumes nothing.
use Rattle.std.specs.Prelude.{true, false, List, [], ◌∷◌, ◌++◌, ℕ, ℤ, pos, negsuc, Float}
use Rattle.std.proofs.Math.Option.{none, some}
use Rattle.std.specs.Float.{binary64}
use Rattle.std.specs.Float.Ieee.{of_bits}
use Rattle.units.specs.declared.Unit.{Unit}
use Rattle.units.specs.declared.Unit.TheVariants as U
use Rattle.units.specs.Point.{Point}
use Rattle.sheet.specs.Element.{polygon, path, text, node, reference, box}
use Rattle.sheet.specs.Cell.{Cell}
use Rattle.cases.specs.Case.{unpacked}
use Rattle.cases.specs.Limits.{repeated}

unfoldable pub stream : List ℕ
stream =
    unpacked 36 0x001c050207e80002001d0017003b003a00010002000300040005000600080606544f5000 {- BGNSTR, STRNAME "TOP" -}
    ++ (unpacked 92 0x0004080000062601000000082f030000000000060d02000100060e020002002410030000000000000000000000040000000000000004fffffffc000000000000000000062b02000100062c06760000062b02007f00042c0600041100 {- BOUNDARY, two properties, of attributes 1 and 127, ELFLAGS 0, PLEX 0 -}
    ++ (unpacked 84 0x0004090000062601000300082f03fffffffe00060d02000300060e02000400062102000100080f03fffffffb00083003000000060008310300000007001410030000000000000000000000080000000900041100 {- PATH with every option, ELFLAGS 3, PLEX -2 -}
    ++ (unpacked 40 0x0004090000060d0200ff00060e020000001410030000000100000002000000030000000400041100 {- PATH with none -}
    ++ (unpacked 82 0x00040c0000062601000100060d0200050006160200ff00061701000600061a018000000c1b054120000000000000000c1c05425a000000000000000c10030000000afffffff5000819066869210000041100 {- TEXT of type 255, PRESENTATION 6, reflected, MAG 2, ANGLE 90, "hi!", ELFLAGS 1 -}
    ++ (unpacked 40 0x00040c0000060d020000000616020000000c10030000000000000000000819064100000000041100 {- TEXT with none, "A" and three zero bytes -}
    ++ (unpacked 40 0x0004150000082f030100000700060d02000800062a020009000c1003000000010000000200041100 {- NODE, PLEX 16777223 -}
    ++ (unpacked 50 0x00040a0000062601000200061206420000061a010000000c1b054080000000000000000c10030000000c0000000d00041100 {- SREF of "B", MAG 0.5, ELFLAGS 2 -}
    ++ (unpacked 76 0x00040b0000082f038000000000061206434300061a010000000c1c05421e0000000000000008130200020003001c100300000064000000c80000006e000000ca00000061000000b900041100 {- AREF of "CC", 2 x 3, ANGLE 30, corners (100, 200) (110, 202) (97, 185), PLEX -2147483648 -}
    ++ (unpacked 64 0x00040b0000062601000100082f037fffffff0006120644000008130200010001001c100300000001ffffffff0000000500000005000000060000000600041100 {- AREF of "D", 1 x 1, ELFLAGS 1, PLEX 2147483647 -}
    ++ (unpacked 84 0x00042d0000062601000300082f03ffffffff00060d0200ff00062e0200ff002c100300000003fffffffbfffffff9fffffffbfffffff90000000b000000030000000b00000003fffffffb00062b02000700822c06 {- BOX, one property, from (3, -5) to the left and above, ELFLAGS 3, PLEX -1 -}
    ++ (repeated 126 0x76 {- the property's value -}
    ++ unpacked 8 0x0004110000040700 {- ENDEL, ENDSTR -}
    )))))))))))

-- ---- the cell

abbrev one : Float
one = of_bits binary64 0x3ff0000000000000

abbrev zero : Float
zero = of_bits binary64 0

abbrev whole : ℤ → Unit
whole v = U.Integer v one

abbrev pub at : ℤ → ℤ → Point Unit
at x y = record { x = whole x; y = whole y }

unfoldable pub cell : Cell
cell = record {
  head = record { name = 0x54 ∷ 0x4f ∷ 0x50 ∷ []; stamps = 2024 ∷ 2 ∷ 29 ∷ 23 ∷ 59 ∷ 58 ∷ 1 ∷ 2 ∷ 3 ∷ 4 ∷ 5 ∷ 6 ∷ [] };
  elements =
      record {
        flags = some 0;
        plex = some (pos 0);
        body = polygon (record { layer = 1; datatype = 2; points = at (pos 0) (pos 0) ∷ at (pos 4) (pos 0) ∷ at (pos 4) (negsuc 3) ∷ at (pos 0) (pos 0) ∷ [] });
        properties = record { attribute = 1; value = 0x76 ∷ [] } ∷ record { attribute = 127; value = [] } ∷ [];
      }
      ∷ record {
        flags = some 3;
        plex = some (negsuc 1);
        body = path (record { layer = 3; datatype = 4; path_type = some 1; width = some (whole (negsuc 4)); begin = some (whole (pos 6)); end = some (whole (pos 7)); points = at (pos 0) (pos 0) ∷ at (pos 8) (pos 9) ∷ [] });
        properties = [];
      }
      ∷ record {
        flags = none;
        plex = none;
        body = path (record { layer = 255; datatype = 0; path_type = none; width = none; begin = none; end = none; points = at (pos 1) (pos 2) ∷ at (pos 3) (pos 4) ∷ [] });
        properties = [];
      }
      ∷ record {
        flags = some 1;
        plex = none;
        body = text (record { layer = 5; texttype = 255; vertical = 1; horizontal = 2; reflection = true; magnification = of_bits binary64 0x4000000000000000; degrees = of_bits binary64 0x4056800000000000; origin = at (pos 10) (negsuc 10); string = 0x68 ∷ 0x69 ∷ 0x21 ∷ [] });
        properties = [];
      }
      ∷ record {
        flags = none;
        plex = none;
        body = text (record { layer = 0; texttype = 0; vertical = 0; horizontal = 0; reflection = false; magnification = one; degrees = zero; origin = at (pos 0) (pos 0); string = 0x41 ∷ 0 ∷ 0 ∷ [] });
        properties = [];
      }
      ∷ record {
        flags = none;
        plex = some (pos 16777223);
        body = node (record { layer = 8; datatype = 9; points = at (pos 1) (pos 2) ∷ [] });
        properties = [];
      }
      ∷ record {
        flags = some 2;
        plex = none;
        body = reference (record { name = 0x42 ∷ []; columns = 1; rows = 1; reflection = false; magnification = of_bits binary64 0x3fe0000000000000; degrees = zero; sine = zero; cosine = one; origin = at (pos 12) (pos 13); column_spacing = none; row_spacing = none });
        properties = [];
      }
      ∷ record {
        flags = none;
        plex = some (negsuc 2147483647);
        body = reference (record { name = 0x43 ∷ 0x43 ∷ []; columns = 2; rows = 3; reflection = false; magnification = one; degrees = of_bits binary64 0x403e000000000000; sine = zero; cosine = one; origin = at (pos 100) (pos 200); column_spacing = some (at (pos 5) (pos 1)); row_spacing = some (at (negsuc 0) (negsuc 4)) });
        properties = [];
      }
      ∷ record {
        flags = some 1;
        plex = some (pos 2147483647);
        body = reference (record { name = 0x44 ∷ []; columns = 1; rows = 1; reflection = false; magnification = one; degrees = zero; sine = zero; cosine = one; origin = at (pos 1) (negsuc 0); column_spacing = none; row_spacing = none });
        properties = [];
      }
      ∷ record {
        flags = some 3;
        plex = some (negsuc 0);
        body = box (record { layer = 255; boxtype = 255; first = at (pos 3) (negsuc 4); second = at (negsuc 6) (pos 11) });
        properties = record { attribute = 7; value = repeated 126 0x76 } ∷ [];
      }
      ∷ [];
}

-- ---- a sheet buffer

-- a structure of no elements and its sheet
unfoldable pub bare : List ℕ
bare = unpacked 38 0x001c050200000000000000000000000000000000000000000000000000060606414200040700

unfoldable pub bare_sheet : List ℕ
bare_sheet = unpacked 40 0x000000010000000c0000001c00024142000000000000000000000000000000000000000000000000

-- ---- a BOX whose points, (0, 0) (0, 1) (1, 1) (1, 0) (0, 0), no two corners give: its layer and its type

unfoldable pub turned_box : ℕ → ℕ → List ℕ
turned_box l t =
    unpacked 34 0x001c0502000000000000000000000000000000000000000000000000000606064142 {- BGNSTR, STRNAME "AB" -}
    ++ (unpacked 8 0x00042d0000060d02 ++ (unpacked 2 l ++ (unpacked 4 0x00062e02 ++ (unpacked 2 t
    ++ unpacked 52 0x002c1003000000000000000000000000000000010000000100000001000000010000000000000000000000000004110000040700 {- XY, ENDEL, ENDSTR -}
    ))))
