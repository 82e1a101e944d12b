-- One below, at and above each limit that a sheet puts on a record (document 02, requests 5, 6 and 8), by hand. Assumes nothing.
use Rattle.std.proofs.Math.Option.{Option, none, some}
use Rattle.std.specs.Prelude.{List, [], ◌∷◌, ◌++◌, ℕ, zero, suc, ◌-◌, ◌^◌, ℤ, pos, negsuc}
use Rattle.big_endian.specs.Big.{bytes_of}
use Rattle.refusal.specs.declared.Refusal.{Refusal}
use Rattle.units.specs.Point.{Point}
use Rattle.stream.specs.Record.{Rec, STRNAME, BOUNDARY, PATH, SREF, AREF, TEXT, NODE, BOX, LAYER, DATATYPE, NODETYPE, TEXTTYPE, BOXTYPE, ELFLAGS, PLEX, PATHTYPE, PRESENTATION, SNAME, STRING, STRANS, MAG, ANGLE, WIDTH, PROPATTR, PROPVALUE}
use Rattle.stream.specs.Records.{empty_record, word_record, bits_record, long_record, real_record, string_record, xy_record, colrow_record, stamps_record}
use Rattle.reading.specs.Limits.{sheet_limits}

-- what the sheet's limits refuse something by, and the number that it should be, if any
pub record Row : Type 0 where
  pub found : Option Refusal
  pub number : Option ℕ

-- a record of an element of a kind, after so many elements or properties
abbrev row : ℕ → ℕ → Rec → Option ℕ → Row
row kind i r n = record { found = sheet_limits.admit kind i r; number = n }

-- an array's step on one axis
abbrev step : ℤ → Option ℕ → Row
step z n = record { found = sheet_limits.step z; number = n }

-- n of one kind
unfoldable pub repeated : {A : Type 0} → ℕ → A → List A
repeated zero a = []
repeated (suc n) a = a ∷ repeated n a

abbrev name : ℕ → List ℕ
name n = repeated n 0x41

-- n points, the last as the first
abbrev points : ℕ → List (Point ℤ)
points n = repeated n (record { x = pos 7; y = negsuc 7 })

-- four points, the last on another place
abbrev unclosed : List (Point ℤ)
unclosed = points 3 ++ record { x = pos 7; y = pos 7 } ∷ []

-- points by their coordinates in turn: x, y, x, y, ..
abbrev placed : List ℕ → List (Point ℤ)
placed [] = []
placed (x ∷ []) = []
placed (x ∷ y ∷ cs) = record { x = pos x; y = pos y } ∷ placed cs

-- an XY of a BOX
abbrev box : List ℕ → Option ℕ → Row
box cs n = row BOX 0 (xy_record (placed cs)) n

abbrev real : ℕ → ℕ → Rec
real c p = real_record c (bytes_of 8 p)

abbrev year : ℕ → List ℕ
year y = y ∷ 12 ∷ 31 ∷ 23 ∷ 59 ∷ 59 ∷ []

unfoldable pub rows : List Row
rows =
    -- 4: a 16,383rd and a 16,384th element
    row BOUNDARY 16382 (empty_record BOUNDARY) none ∷ row BOUNDARY 16383 (empty_record BOUNDARY) (some 4)
    ∷ row PATH 16382 (empty_record PATH) none ∷ row PATH 16383 (empty_record PATH) (some 4)
    ∷ row TEXT 16382 (empty_record TEXT) none ∷ row TEXT 16383 (empty_record TEXT) (some 4)
    ∷ row NODE 16382 (empty_record NODE) none ∷ row NODE 16383 (empty_record NODE) (some 4)
    ∷ row SREF 16382 (empty_record SREF) none ∷ row SREF 16383 (empty_record SREF) (some 4)
    ∷ row AREF 16382 (empty_record AREF) none ∷ row AREF 16383 (empty_record AREF) (some 4)
    ∷ row BOX 16382 (empty_record BOX) none ∷ row BOX 16383 (empty_record BOX) (some 4)
    -- 5: a 65,535th and a 65,536th property, before its attribute; its value is not asked
    ∷ row NODE 65534 (word_record PROPATTR 1) none ∷ row NODE 65534 (word_record PROPATTR 0) (some 27) ∷ row NODE 65535 (word_record PROPATTR 1) (some 5) ∷ row NODE 65535 (word_record PROPATTR 0) (some 5)
    ∷ row NODE 65535 (string_record PROPVALUE []) none
    -- 6
    ∷ row 0 0 (stamps_record (year 9999 ++ year 1)) none ∷ row 0 0 (stamps_record (year 10000 ++ year 1)) (some 6) ∷ row 0 0 (stamps_record (year 1 ++ year 0)) (some 6)
    ∷ row 0 0 (stamps_record (repeated 12 0)) none ∷ row 0 0 (stamps_record (repeated 6 0 ++ year 1)) (some 6)
    -- 7, of a string without its one final zero byte
    ∷ row 0 0 (string_record STRNAME []) (some 7) ∷ row 0 0 (string_record STRNAME (name 1 ++ 0 ∷ [])) none ∷ row 0 0 (string_record STRNAME (name 32)) none
    ∷ row 0 0 (string_record STRNAME (name 33 ++ 0 ∷ [])) (some 7) ∷ row 0 0 (string_record STRNAME (name 2 ++ 0 ∷ 0 ∷ [])) (some 7)
    ∷ row SREF 0 (string_record SNAME []) (some 7) ∷ row SREF 0 (string_record SNAME (name 32)) none ∷ row AREF 0 (string_record SNAME (name 33 ++ 0 ∷ [])) (some 7)
    -- 8 and 20
    ∷ row BOUNDARY 0 (xy_record (points 3)) (some 8) ∷ row BOUNDARY 0 (xy_record (points 4)) none ∷ row BOUNDARY 0 (xy_record unclosed) (some 20)
    ∷ row PATH 0 (xy_record (points 1)) (some 8) ∷ row PATH 0 (xy_record (points 2)) none ∷ row PATH 0 (xy_record unclosed) none
    ∷ row NODE 0 (xy_record []) (some 8) ∷ row NODE 0 (xy_record (points 1)) none ∷ row NODE 0 (xy_record (points 50)) none ∷ row NODE 0 (xy_record (points 51)) (some 8)
    ∷ row TEXT 0 (xy_record []) none ∷ row SREF 0 (xy_record []) none ∷ row AREF 0 (xy_record []) none
    -- 9
    ∷ row TEXT 0 (word_record LAYER 255) none ∷ row TEXT 0 (word_record LAYER 256) (some 9)
    ∷ row PATH 0 (word_record DATATYPE 255) none ∷ row PATH 0 (word_record DATATYPE 256) (some 9)
    ∷ row NODE 0 (word_record NODETYPE 255) none ∷ row NODE 0 (word_record NODETYPE 256) (some 9)
    ∷ row BOX 0 (word_record LAYER 255) none ∷ row BOX 0 (word_record LAYER 256) (some 9)
    ∷ row BOX 0 (word_record BOXTYPE 255) none ∷ row BOX 0 (word_record BOXTYPE 256) (some 9) ∷ row BOX 0 (word_record BOXTYPE 65535) (some 9)
    ∷ row TEXT 0 (word_record TEXTTYPE 254) none ∷ row TEXT 0 (word_record TEXTTYPE 255) none ∷ row TEXT 0 (word_record TEXTTYPE 256) (some 9) ∷ row TEXT 0 (word_record TEXTTYPE 65535) (some 9)
    -- 26; every plex number passes
    ∷ row BOUNDARY 0 (bits_record ELFLAGS 0) none ∷ row PATH 0 (bits_record ELFLAGS 2) none ∷ row TEXT 0 (bits_record ELFLAGS 3) none ∷ row TEXT 0 (bits_record ELFLAGS 4) (some 26)
    ∷ row NODE 0 (bits_record ELFLAGS 3) none ∷ row NODE 0 (bits_record ELFLAGS 4) (some 26) ∷ row SREF 0 (bits_record ELFLAGS 256) (some 26) ∷ row AREF 0 (bits_record ELFLAGS 0x8000) (some 26) ∷ row BOX 0 (bits_record ELFLAGS 65535) (some 26)
    ∷ row BOX 0 (long_record PLEX (pos 0)) none ∷ row PATH 0 (long_record PLEX (pos 16777216)) none ∷ row TEXT 0 (long_record PLEX (pos 2147483647)) none ∷ row NODE 0 (long_record PLEX (negsuc 2147483647)) none
    -- 27: "outside 1 to 127", and 257, whose low byte is 1
    ∷ row BOUNDARY 0 (word_record PROPATTR 0) (some 27) ∷ row PATH 0 (word_record PROPATTR 1) none ∷ row TEXT 0 (word_record PROPATTR 2) none ∷ row BOX 1 (word_record PROPATTR 126) none
    ∷ row SREF 0 (word_record PROPATTR 127) none ∷ row AREF 0 (word_record PROPATTR 128) (some 27) ∷ row BOX 1 (word_record PROPATTR 257) (some 27) ∷ row TEXT 0 (word_record PROPATTR 65535) (some 27)
    -- 28: values that the sheet has no code for
    ∷ row PATH 0 (word_record PATHTYPE 0) none ∷ row PATH 0 (word_record PATHTYPE 2) none ∷ row PATH 0 (word_record PATHTYPE 3) (some 28) ∷ row PATH 0 (word_record PATHTYPE 255) (some 28)
    ∷ row TEXT 0 (bits_record PRESENTATION 0) none ∷ row TEXT 0 (bits_record PRESENTATION 2) none ∷ row TEXT 0 (bits_record PRESENTATION 3) (some 28)
    ∷ row TEXT 0 (bits_record PRESENTATION 4) none ∷ row TEXT 0 (bits_record PRESENTATION 6) none ∷ row TEXT 0 (bits_record PRESENTATION 7) (some 28)
    ∷ row TEXT 0 (bits_record PRESENTATION 8) none ∷ row TEXT 0 (bits_record PRESENTATION 10) none ∷ row TEXT 0 (bits_record PRESENTATION 11) (some 28)
    ∷ row TEXT 0 (bits_record PRESENTATION 12) (some 28) ∷ row TEXT 0 (bits_record PRESENTATION 16) (some 28)
    -- 28: "a BOX that no two corners give". From each corner of a box one way round passes, with its first side along x, and the other does not
    ∷ box (7 ∷ 2 ∷ 1 ∷ 2 ∷ 1 ∷ 5 ∷ 7 ∷ 5 ∷ 7 ∷ 2 ∷ []) none ∷ box (7 ∷ 2 ∷ 7 ∷ 5 ∷ 1 ∷ 5 ∷ 1 ∷ 2 ∷ 7 ∷ 2 ∷ []) (some 28)
    ∷ box (1 ∷ 2 ∷ 7 ∷ 2 ∷ 7 ∷ 5 ∷ 1 ∷ 5 ∷ 1 ∷ 2 ∷ []) none ∷ box (1 ∷ 2 ∷ 1 ∷ 5 ∷ 7 ∷ 5 ∷ 7 ∷ 2 ∷ 1 ∷ 2 ∷ []) (some 28)
    ∷ box (1 ∷ 5 ∷ 7 ∷ 5 ∷ 7 ∷ 2 ∷ 1 ∷ 2 ∷ 1 ∷ 5 ∷ []) none ∷ box (1 ∷ 5 ∷ 1 ∷ 2 ∷ 7 ∷ 2 ∷ 7 ∷ 5 ∷ 1 ∷ 5 ∷ []) (some 28)
    ∷ box (7 ∷ 5 ∷ 1 ∷ 5 ∷ 1 ∷ 2 ∷ 7 ∷ 2 ∷ 7 ∷ 5 ∷ []) none ∷ box (7 ∷ 5 ∷ 7 ∷ 2 ∷ 1 ∷ 2 ∷ 1 ∷ 5 ∷ 7 ∷ 5 ∷ []) (some 28)
    -- without width, without height and without both
    ∷ box (7 ∷ 2 ∷ 7 ∷ 2 ∷ 7 ∷ 5 ∷ 7 ∷ 5 ∷ 7 ∷ 2 ∷ []) none ∷ box (7 ∷ 2 ∷ 1 ∷ 2 ∷ 1 ∷ 2 ∷ 7 ∷ 2 ∷ 7 ∷ 2 ∷ []) none ∷ row BOX 0 (xy_record (points 5)) none
    -- a point too few and too many, of a box and of one place; no point
    ∷ box (7 ∷ 2 ∷ 1 ∷ 2 ∷ 1 ∷ 5 ∷ 7 ∷ 5 ∷ []) (some 28) ∷ box (7 ∷ 2 ∷ 1 ∷ 2 ∷ 1 ∷ 5 ∷ 7 ∷ 5 ∷ 7 ∷ 2 ∷ 7 ∷ 2 ∷ []) (some 28)
    ∷ row BOX 0 (xy_record (points 4)) (some 28) ∷ row BOX 0 (xy_record (points 6)) (some 28) ∷ row BOX 0 (xy_record []) (some 28)
    -- one coordinate off in each of the five points; the last two are ends that differ, 28 and not 20
    ∷ box (6 ∷ 2 ∷ 1 ∷ 2 ∷ 1 ∷ 5 ∷ 7 ∷ 5 ∷ 7 ∷ 2 ∷ []) (some 28) ∷ box (7 ∷ 3 ∷ 1 ∷ 2 ∷ 1 ∷ 5 ∷ 7 ∷ 5 ∷ 7 ∷ 2 ∷ []) (some 28)
    ∷ box (7 ∷ 2 ∷ 0 ∷ 2 ∷ 1 ∷ 5 ∷ 7 ∷ 5 ∷ 7 ∷ 2 ∷ []) (some 28) ∷ box (7 ∷ 2 ∷ 1 ∷ 3 ∷ 1 ∷ 5 ∷ 7 ∷ 5 ∷ 7 ∷ 2 ∷ []) (some 28)
    ∷ box (7 ∷ 2 ∷ 1 ∷ 2 ∷ 0 ∷ 5 ∷ 7 ∷ 5 ∷ 7 ∷ 2 ∷ []) (some 28) ∷ box (7 ∷ 2 ∷ 1 ∷ 2 ∷ 1 ∷ 6 ∷ 7 ∷ 5 ∷ 7 ∷ 2 ∷ []) (some 28)
    ∷ box (7 ∷ 2 ∷ 1 ∷ 2 ∷ 1 ∷ 5 ∷ 6 ∷ 5 ∷ 7 ∷ 2 ∷ []) (some 28) ∷ box (7 ∷ 2 ∷ 1 ∷ 2 ∷ 1 ∷ 5 ∷ 7 ∷ 6 ∷ 7 ∷ 2 ∷ []) (some 28)
    ∷ box (7 ∷ 2 ∷ 1 ∷ 2 ∷ 1 ∷ 5 ∷ 7 ∷ 5 ∷ 6 ∷ 2 ∷ []) (some 28) ∷ box (7 ∷ 2 ∷ 1 ∷ 2 ∷ 1 ∷ 5 ∷ 7 ∷ 5 ∷ 7 ∷ 3 ∷ []) (some 28)
    -- 10, of a string without its one final zero byte
    ∷ row TEXT 0 (string_record STRING (name 512)) none ∷ row TEXT 0 (string_record STRING (name 513 ++ 0 ∷ [])) (some 10) ∷ row TEXT 0 (string_record STRING (name 512 ++ 0 ∷ 0 ∷ [])) (some 10)
    ∷ row TEXT 0 (string_record PROPVALUE (name 125)) none ∷ row NODE 1 (string_record PROPVALUE (name 126)) none
    ∷ row TEXT 0 (string_record PROPVALUE (name 127)) (some 10) ∷ row BOX 0 (string_record PROPVALUE (name 128)) (some 10)
    ∷ row PATH 0 (string_record PROPVALUE (name 125 ++ 0 ∷ [])) none ∷ row TEXT 0 (string_record PROPVALUE (name 126 ++ 0 ∷ [])) none
    ∷ row SREF 0 (string_record PROPVALUE (name 127 ++ 0 ∷ [])) (some 10) ∷ row AREF 0 (string_record PROPVALUE (name 126 ++ 0 ∷ 0 ∷ [])) (some 10)
    -- 11
    ∷ row AREF 0 (colrow_record 1 32767) none ∷ row AREF 0 (colrow_record 32767 1) none ∷ row AREF 0 (colrow_record 0 1) (some 11) ∷ row AREF 0 (colrow_record 1 0) (some 11)
    ∷ row AREF 0 (colrow_record 32768 1) (some 11) ∷ row AREF 0 (colrow_record 1 32768) (some 11)
    -- 29, then 13, then 14: 56 digits and below 0; below 0 and too small; 0 and minus 0; 2 ^ -260 and below; the greatest
    ∷ row TEXT 0 (real MAG 0xC1FFFFFFFFFFFFFF) (some 29) ∷ row TEXT 0 (real MAG 0x8000000000000001) (some 13) ∷ row TEXT 0 (real MAG 0) (some 13) ∷ row TEXT 0 (real MAG 0x8000000000000000) (some 13)
    ∷ row TEXT 0 (real MAG 0x0010000000000000) none ∷ row TEXT 0 (real MAG 0x000FFFFFFFFFFFFF) (some 14) ∷ row TEXT 0 (real MAG 0x7FFFFFFFFFFFFFF8) none ∷ row TEXT 0 (real MAG 0x7FFFFFFFFFFFFFFF) (some 29)
    ∷ row SREF 0 (real ANGLE 0xC1FFFFFFFFFFFFFF) (some 29) ∷ row SREF 0 (real ANGLE 0) none ∷ row SREF 0 (real ANGLE 0x8000000000000000) none ∷ row SREF 0 (real ANGLE 0xC120000000000000) none
    ∷ row SREF 0 (real ANGLE 0x8010000000000000) none ∷ row SREF 0 (real ANGLE 0x800FFFFFFFFFFFFF) (some 14)
    -- nothing more is asked of these
    ∷ row SREF 0 (bits_record STRANS 0x8000) none ∷ row PATH 0 (long_record WIDTH (negsuc 4)) none
    -- 30: "a signed 32-bit spacing"
    ∷ step (pos (2 ^ 31 - 1)) none ∷ step (pos (2 ^ 31)) (some 30) ∷ step (negsuc (2 ^ 31 - 1)) none ∷ step (negsuc (2 ^ 31)) (some 30)
    ∷ []
