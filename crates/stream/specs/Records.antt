-- The records of a structure (document 01, "Result one"; BOX: document 02, request 3; ELFLAGS and PLEX: its request 5), in the order of its elements' lists. Assumes nothing.
use Rattle.std.specs.Prelude.{Bool, cond, List, [], ◌∷◌, ◌++◌, ℕ, ℤ}
use Rattle.std.proofs.Math.Option.{Option, none, some}
use Rattle.std.proofs.Common.{of_z}
use Rattle.std.specs.Int.{w32}
use Rattle.big_endian.specs.Big.{bytes_of, joined}
use Rattle.units.specs.Point.{Point, endpoint}
use Rattle.stream.specs.Record.{Rec, BGNSTR, STRNAME, ENDSTR, BOUNDARY, PATH, SREF, AREF, TEXT, LAYER, DATATYPE, WIDTH, XY, ENDEL, SNAME, COLROW, NODE, TEXTTYPE, PRESENTATION, STRING, STRANS, MAG, ANGLE, PATHTYPE, NODETYPE, PROPATTR, PROPVALUE, BOX, BOXTYPE, ELFLAGS, PLEX, BGNEXTN, ENDEXTN, no_data, bit_array, two_byte, four_byte, eight_byte_real, ascii_string, stream_bytes}
use Rattle.stream.specs.Structure.{Property, Strans, Shape, Path, Text, Sref, Aref, boundary, path, text, node, sref, aref, box, SaidBody, Said, Structure}

-- ---- one record

abbrev pub empty_record : ℕ → Rec
empty_record c = record { code = c; data_type = no_data; content = [] }

abbrev pub word_record : ℕ → ℕ → Rec
word_record c v = record { code = c; data_type = two_byte; content = bytes_of 2 v }

abbrev pub bits_record : ℕ → ℕ → Rec
bits_record c v = record { code = c; data_type = bit_array; content = bytes_of 2 v }

-- a signed number as 4 bytes
abbrev pub long_bytes : ℤ → List ℕ
long_bytes q = bytes_of 4 (of_z w32 q)

abbrev pub long_record : ℕ → ℤ → Rec
long_record c q = record { code = c; data_type = four_byte; content = long_bytes q }

abbrev pub real_record : ℕ → List ℕ → Rec
real_record c b = record { code = c; data_type = eight_byte_real; content = b }

-- a string that is even already
abbrev pub string_record : ℕ → List ℕ → Rec
string_record c s = record { code = c; data_type = ascii_string; content = s }

abbrev pub words_bytes : List ℕ → List ℕ
words_bytes vs = joined (bytes_of 2) vs

abbrev pub point_bytes : Point ℤ → List ℕ
point_bytes p = long_bytes p.x ++ long_bytes p.y

abbrev pub points_bytes : List (Point ℤ) → List ℕ
points_bytes ps = joined point_bytes ps

-- of the points' bytes
abbrev pub xy_of : List ℕ → Rec
xy_of b = record { code = XY; data_type = four_byte; content = b }

abbrev pub xy_record : List (Point ℤ) → Rec
xy_record ps = xy_of (points_bytes ps)

abbrev pub colrow_record : ℕ → ℕ → Rec
colrow_record c r = record { code = COLROW; data_type = two_byte; content = bytes_of 2 c ++ bytes_of 2 r }

-- the twelve numbers of the two stamps
abbrev pub stamps_record : List ℕ → Rec
stamps_record vs = record { code = BGNSTR; data_type = two_byte; content = words_bytes vs }

-- ---- parts of an element: each puts its records in front of the rest

-- a record that may be missing
unfoldable pub opt : {A : Type 0} → (A → Rec) → Option A → List Rec → List Rec
opt f none rest = rest
opt f (some a) rest = f a ∷ rest

-- "STRANS (0x8000 or 0)"
abbrev pub strans_bits : Bool → ℕ
strans_bits reflection = cond reflection 0x8000 0

-- "STRANS .., MAG .., ANGLE .."
unfoldable pub strans_records : Option Strans → List Rec → List Rec
strans_records none rest = rest
strans_records (some t) rest =
    bits_record STRANS (strans_bits t.reflection) ∷ opt (real_record MAG) t.magnification (opt (real_record ANGLE) t.angle rest)

-- an array's three points: its first, and that after all columns and after all rows
abbrev pub endpoint_of : Point ℤ → Point ℤ → ℕ → Point ℤ
endpoint_of o a n = record { x = endpoint o.x a.x n; y = endpoint o.y a.y n }

abbrev pub corners_of : {T : Type 0} → Aref T → List (Point ℤ)
corners_of e = e.origin ∷ endpoint_of e.origin e.column_step e.columns ∷ endpoint_of e.origin e.row_step e.rows ∷ []

-- ---- bodies

-- "BOUNDARY or NODE: LAYER, DATATYPE or NODETYPE, XY."; BOX: LAYER, BOXTYPE, XY, as `write_box_with_converter` has them
unfoldable pub shape_records : ℕ → ℕ → Shape → List Rec → List Rec
shape_records code type_code e rest =
    empty_record code ∷ word_record LAYER e.layer ∷ word_record type_code e.datatype ∷ xy_record e.points ∷ rest

-- "PATH: LAYER, DATATYPE, then where present PATHTYPE, WIDTH, BGNEXTN, ENDEXTN; XY."
unfoldable pub path_records : Path → List Rec → List Rec
path_records e rest =
    empty_record PATH ∷ word_record LAYER e.layer ∷ word_record DATATYPE e.datatype
    ∷ opt (word_record PATHTYPE) e.path_type
    (opt (long_record WIDTH) e.width
    (opt (long_record BGNEXTN) e.begin
    (opt (long_record ENDEXTN) e.end (xy_record e.points ∷ rest))))

-- "TEXT: LAYER, TEXTTYPE, PRESENTATION .., transform, XY, STRING."
unfoldable pub text_records : Text (Option ℕ) (Option Strans) → List Rec → List Rec
text_records e rest =
    empty_record TEXT ∷ word_record LAYER e.layer ∷ word_record TEXTTYPE e.texttype
    ∷ opt (bits_record PRESENTATION) e.presentation
    (strans_records e.transform (xy_record (e.origin ∷ []) ∷ string_record STRING e.string ∷ rest))

-- "SREF, SNAME, transform, XY."
unfoldable pub sref_records : Sref (Option Strans) → List Rec → List Rec
sref_records e rest =
    empty_record SREF ∷ string_record SNAME e.name ∷ strans_records e.transform (xy_record (e.origin ∷ []) ∷ rest)

-- "Else AREF, SNAME, transform, COLROW, XY of three points."
unfoldable pub aref_records : Aref (Option Strans) → List Rec → List Rec
aref_records e rest =
    empty_record AREF ∷ string_record SNAME e.name
    ∷ strans_records e.transform (colrow_record e.columns e.rows ∷ xy_record (corners_of e) ∷ rest)

abbrev pub body_records : SaidBody → List Rec → List Rec
body_records (boundary e) rest = shape_records BOUNDARY DATATYPE e rest
body_records (path e) rest = path_records e rest
body_records (text e) rest = text_records e rest
body_records (node e) rest = shape_records NODE NODETYPE e rest
body_records (sref e) rest = sref_records e rest
body_records (aref e) rest = aref_records e rest
body_records (box e) rest = shape_records BOX BOXTYPE e rest

-- ---- elements and the structure

-- "PROPATTR and PROPVALUE per property, ENDEL"
unfoldable pub tail_records : List Property → List Rec → List Rec
tail_records [] rest = empty_record ENDEL ∷ rest
tail_records (q ∷ qs) rest = word_record PROPATTR q.attribute ∷ string_record PROPVALUE q.value ∷ tail_records qs rest

-- "The records ELFLAGS and PLEX follow the element's first record, in this order"
abbrev pub option_records : Option ℕ → Option ℤ → List Rec → List Rec
option_records flags plex rest = opt (bits_record ELFLAGS) flags (opt (long_record PLEX) plex rest)

unfoldable pub with_options : Option ℕ → Option ℤ → List Rec → List Rec
with_options flags plex [] = []
with_options flags plex (first ∷ rest) = first ∷ option_records flags plex rest

abbrev pub element_records : Said → List Rec → List Rec
element_records e rest = with_options e.flags e.plex (body_records e.body (tail_records e.properties rest))

abbrev pub elements_records : List Said → List Rec → List Rec
elements_records [] rest = rest
elements_records (e ∷ es) rest = element_records e (elements_records es rest)

-- "BGNSTR .., STRNAME, elements, ENDSTR."
unfoldable pub structure_records : Structure → List Rec
structure_records s =
    stamps_record s.stamps ∷ string_record STRNAME s.name ∷ elements_records s.elements (empty_record ENDSTR ∷ [])

-- ---- bytes

-- the bytes of one element's records
unfoldable pub element_bytes : Said → List ℕ
element_bytes w = stream_bytes (element_records w [])

-- "Each element is written into the part of the output that starts where the last ended."
unfoldable pub elements_bytes : List Said → List ℕ
elements_bytes [] = []
elements_bytes (w ∷ ws) = element_bytes w ++ elements_bytes ws
