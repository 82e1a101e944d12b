-- The cell that the sheet of specs/Sample holds, what its structure says and what it draws, written out by hand from the bytes (document 01, "Input" and "What a structure draws"; the box: document 02, request 3).
-- Assumes nothing.
use Rattle.std.specs.Prelude.{true, false, [], ◌∷◌, ℕ, ◌*◌, ◌^◌, ℤ, pos, negsuc, Float}
use Rattle.std.proofs.Math.Option.{none, some}
use Rattle.units.specs.declared.Unit.{Unit}
use Rattle.units.specs.declared.Unit.TheVariants as U
use Rattle.units.specs.Point.{Point}
use Rattle.sheet.specs.Element as S
use Rattle.sheet.specs.Cell.{Cell}
use Rattle.stream.specs.Structure as D
use Rattle.stream.specs.Drawn.{Transform, Drawn}
use Rattle.guards.specs.Question.{bits}

abbrev pub one : Float
one = bits 0x3ff0000000000000

abbrev zero : Float
zero = bits 0

abbrev whole : ℤ → Unit
whole z = U.Integer z one

abbrev at : {A : Type 0} → A → A → Point A
at x y = record { x = x; y = y }

abbrev corner : ℕ → ℕ → Point Unit
corner x y = at (whole (pos x)) (whole (pos y))

abbrev spot : ℕ → ℕ → Point ℤ
spot x y = at (pos x) (pos y)

-- "A", "B", "C"; "x", "yz", "abc", "b"
unfoldable pub cell : Cell
cell =
    record {
      head = record { name = 65 ∷ []; stamps = 0 ∷ 0 ∷ 0 ∷ 0 ∷ 0 ∷ 0 ∷ 0 ∷ 0 ∷ 0 ∷ 0 ∷ 0 ∷ 0 ∷ [] };
      elements =
          record {
            flags = none;
            plex = none;
            body = S.polygon (record { layer = 1; datatype = 2; points = corner 0 0 ∷ corner 4 0 ∷ corner 4 4 ∷ corner 0 0 ∷ [] });
            properties = record { attribute = 1; value = 120 ∷ [] } ∷ record { attribute = 2; value = 121 ∷ 122 ∷ [] } ∷ [];
          }
          ∷ record {
            flags = none;
            plex = none;
            body = S.path (record { layer = 3; datatype = 4; path_type = some 2; width = some (whole (pos 5)); begin = some (whole (pos 6)); end = some (whole (pos 7)); points = corner 0 0 ∷ corner 9 8 ∷ [] });
            properties = [];
          }
          ∷ record {
            flags = none;
            plex = none;
            body = S.text (record { layer = 5; texttype = 200; vertical = 1; horizontal = 2; reflection = true; magnification = bits 0x4000000000000000; degrees = bits 0x4056800000000000; origin = at (whole (pos 3)) (whole (negsuc 3)); string = 97 ∷ 98 ∷ 99 ∷ [] });
            properties = [];
          }
          ∷ record { flags = none; plex = none; body = S.node (record { layer = 6; datatype = 7; points = at (U.Float (bits 0x3ff8000000000000) one) (whole (pos 2)) ∷ [] }); properties = [] }
          ∷ record {
            flags = none;
            plex = none;
            body = S.reference (record { name = 66 ∷ []; columns = 1; rows = 1; reflection = false; magnification = one; degrees = zero; sine = zero; cosine = zero; origin = corner 5 6; column_spacing = none; row_spacing = none });
            properties = [];
          }
          ∷ record {
            flags = none;
            plex = none;
            body = S.reference (record { name = 67 ∷ []; columns = 2; rows = 3; reflection = false; magnification = one; degrees = zero; sine = zero; cosine = one; origin = corner 10 20; column_spacing = some (corner 30 1); row_spacing = some (corner 2 40) });
            properties = [];
          }
          ∷ record {
            flags = none;
            plex = none;
            body = S.path (record { layer = 8; datatype = 9; path_type = none; width = none; begin = none; end = none; points = corner 1 2 ∷ corner 3 4 ∷ [] });
            properties = [];
          }
          ∷ record {
            flags = none;
            plex = none;
            body = S.box (record { layer = 10; boxtype = 11; first = at (U.Float (bits 0x4015000000000000) one) (U.Integer (pos 3) (bits 0x4000000000000000)); second = at (whole (negsuc 1)) (whole (negsuc 2)) });
            properties = record { attribute = 3; value = 98 ∷ [] } ∷ [];
          }
          ∷ [];
    }

-- strings as they stand in their records; MAG 2 and ANGLE 90 as eight bytes
unfoldable pub structure : D.Structure
structure =
    record {
      stamps = 0 ∷ 0 ∷ 0 ∷ 0 ∷ 0 ∷ 0 ∷ 0 ∷ 0 ∷ 0 ∷ 0 ∷ 0 ∷ 0 ∷ [];
      name = 65 ∷ 0 ∷ [];
      elements =
          record {
            flags = none;
            plex = none;
            body = D.boundary (record { layer = 1; datatype = 2; points = spot 0 0 ∷ spot 4 0 ∷ spot 4 4 ∷ spot 0 0 ∷ [] });
            properties = record { attribute = 1; value = 120 ∷ 0 ∷ [] } ∷ record { attribute = 2; value = 121 ∷ 122 ∷ [] } ∷ [];
          }
          ∷ record {
            flags = none;
            plex = none;
            body = D.path (record { layer = 3; datatype = 4; path_type = some 2; width = some (pos 5); begin = some (pos 6); end = some (pos 7); points = spot 0 0 ∷ spot 9 8 ∷ [] });
            properties = [];
          }
          ∷ record {
            flags = none;
            plex = none;
            body = D.text (record { layer = 5; texttype = 200; presentation = some 6; transform = some (record { reflection = true; magnification = some (0x41 ∷ 0x20 ∷ 0 ∷ 0 ∷ 0 ∷ 0 ∷ 0 ∷ 0 ∷ []); angle = some (0x42 ∷ 0x5a ∷ 0 ∷ 0 ∷ 0 ∷ 0 ∷ 0 ∷ 0 ∷ []) }); origin = at (pos 3) (negsuc 3); string = 97 ∷ 98 ∷ 99 ∷ 0 ∷ [] });
            properties = [];
          }
          ∷ record { flags = none; plex = none; body = D.node (record { layer = 6; datatype = 7; points = spot 2 2 ∷ [] }); properties = [] }
          ∷ record { flags = none; plex = none; body = D.sref (record { name = 66 ∷ 0 ∷ []; transform = none; origin = spot 5 6 }); properties = [] }
          ∷ record {
            flags = none;
            plex = none;
            body = D.aref (record { name = 67 ∷ 0 ∷ []; transform = none; columns = 2; rows = 3; origin = spot 10 20; column_step = spot 30 1; row_step = spot 2 40 });
            properties = [];
          }
          ∷ record {
            flags = none;
            plex = none;
            body = D.path (record { layer = 8; datatype = 9; path_type = none; width = none; begin = none; end = none; points = spot 1 2 ∷ spot 3 4 ∷ [] });
            properties = [];
          }
          ∷ record {
            flags = none;
            plex = none;
            body = D.box (record { layer = 10; datatype = 11; points = spot 5 6 ∷ at (negsuc 1) (pos 6) ∷ at (negsuc 1) (negsuc 2) ∷ at (pos 5) (negsuc 2) ∷ spot 5 6 ∷ [] });
            properties = record { attribute = 3; value = 98 ∷ 0 ∷ [] } ∷ [];
          }
          ∷ [];
    }

-- magnification 1 and degrees 0, with no reflection
abbrev pub plain : Transform
plain = record { reflection = false; magnification = pos (2 ^ 1074); degrees = pos 0 }

unfoldable pub drawn : Drawn
drawn =
    record {
      name = 65 ∷ [];
      elements =
          record {
            flags = none;
            plex = none;
            body = D.boundary (record { layer = 1; datatype = 2; points = spot 0 0 ∷ spot 4 0 ∷ spot 4 4 ∷ spot 0 0 ∷ [] });
            properties = record { attribute = 1; value = 120 ∷ [] } ∷ record { attribute = 2; value = 121 ∷ 122 ∷ [] } ∷ [];
          }
          ∷ record {
            flags = none;
            plex = none;
            body = D.path (record { layer = 3; datatype = 4; path_type = some 2; width = some (pos 5); begin = some (pos 6); end = some (pos 7); points = spot 0 0 ∷ spot 9 8 ∷ [] });
            properties = [];
          }
          ∷ record {
            flags = none;
            plex = none;
            body = D.text (record { layer = 5; texttype = 200; presentation = 6; transform = record { reflection = true; magnification = pos (2 * 2 ^ 1074); degrees = pos (90 * 2 ^ 1074) }; origin = at (pos 3) (negsuc 3); string = 97 ∷ 98 ∷ 99 ∷ [] });
            properties = [];
          }
          ∷ record { flags = none; plex = none; body = D.node (record { layer = 6; datatype = 7; points = spot 2 2 ∷ [] }); properties = [] }
          ∷ record { flags = none; plex = none; body = D.sref (record { name = 66 ∷ []; transform = plain; origin = spot 5 6 }); properties = [] }
          ∷ record {
            flags = none;
            plex = none;
            body = D.aref (record { name = 67 ∷ []; transform = plain; columns = 2; rows = 3; origin = spot 10 20; column_step = spot 30 1; row_step = spot 2 40 });
            properties = [];
          }
          ∷ record {
            flags = none;
            plex = none;
            body = D.path (record { layer = 8; datatype = 9; path_type = none; width = none; begin = none; end = none; points = spot 1 2 ∷ spot 3 4 ∷ [] });
            properties = [];
          }
          ∷ record {
            flags = none;
            plex = none;
            body = D.box (record { layer = 10; datatype = 11; points = spot 5 6 ∷ at (negsuc 1) (pos 6) ∷ at (negsuc 1) (negsuc 2) ∷ at (pos 5) (negsuc 2) ∷ spot 5 6 ∷ [] });
            properties = record { attribute = 3; value = 98 ∷ [] } ∷ [];
          }
          ∷ [];
    }
