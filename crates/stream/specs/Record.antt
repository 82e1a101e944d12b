-- Records (the GDSII manual, "Record descriptions"; document 01, "Result one"; document 02, requests 3 and 5; config/gds_file_types.rs): a code, a data type, data. Assumes nothing.
use Rattle.std.specs.Prelude.{Bool, false, ◌&&◌, cond, List, [], ◌∷◌, ◌++◌, ℕ, zero, suc, ◌+◌, ◌-◌, ◌%◌, leb, eqb, length}
use Rattle.big_endian.specs.Big.{number, bytes_of}
use Rattle.parsing.specs.Parse.{Part, ill, part, Parse, IllFormed, ill_formed, pure, when, map, items, ◌>>=◌}

-- "code byte, data type byte, data"; the length is the data's and 4
pub record Rec : Type 0 where
  pub code : ℕ
  pub data_type : ℕ
  pub content : List ℕ

-- ---- the codes of the manual

abbrev pub BGNSTR : ℕ
BGNSTR = 0x05

abbrev pub STRNAME : ℕ
STRNAME = 0x06

abbrev pub ENDSTR : ℕ
ENDSTR = 0x07

abbrev pub BOUNDARY : ℕ
BOUNDARY = 0x08

abbrev pub PATH : ℕ
PATH = 0x09

abbrev pub SREF : ℕ
SREF = 0x0A

abbrev pub AREF : ℕ
AREF = 0x0B

abbrev pub TEXT : ℕ
TEXT = 0x0C

abbrev pub LAYER : ℕ
LAYER = 0x0D

abbrev pub DATATYPE : ℕ
DATATYPE = 0x0E

abbrev pub WIDTH : ℕ
WIDTH = 0x0F

abbrev pub XY : ℕ
XY = 0x10

abbrev pub ENDEL : ℕ
ENDEL = 0x11

abbrev pub SNAME : ℕ
SNAME = 0x12

abbrev pub COLROW : ℕ
COLROW = 0x13

abbrev pub NODE : ℕ
NODE = 0x15

abbrev pub TEXTTYPE : ℕ
TEXTTYPE = 0x16

abbrev pub PRESENTATION : ℕ
PRESENTATION = 0x17

abbrev pub STRING : ℕ
STRING = 0x19

abbrev pub STRANS : ℕ
STRANS = 0x1A

abbrev pub MAG : ℕ
MAG = 0x1B

abbrev pub ANGLE : ℕ
ANGLE = 0x1C

abbrev pub PATHTYPE : ℕ
PATHTYPE = 0x21

abbrev pub ELFLAGS : ℕ
ELFLAGS = 0x26

abbrev pub NODETYPE : ℕ
NODETYPE = 0x2A

abbrev pub PROPATTR : ℕ
PROPATTR = 0x2B

abbrev pub PROPVALUE : ℕ
PROPVALUE = 0x2C

abbrev pub BOX : ℕ
BOX = 0x2D

abbrev pub BOXTYPE : ℕ
BOXTYPE = 0x2E

abbrev pub PLEX : ℕ
PLEX = 0x2F

abbrev pub BGNEXTN : ℕ
BGNEXTN = 0x30

abbrev pub ENDEXTN : ℕ
ENDEXTN = 0x31

-- ---- the data types of the manual

abbrev pub no_data : ℕ
no_data = 0

abbrev pub bit_array : ℕ
bit_array = 1

abbrev pub two_byte : ℕ
two_byte = 2

abbrev pub four_byte : ℕ
four_byte = 3

abbrev pub eight_byte_real : ℕ
eight_byte_real = 5

abbrev pub ascii_string : ℕ
ascii_string = 6

-- ---- the data type and the data size of each record

-- data of n bytes, or of a whole number of n bytes: 8 to a point, and strings are even
pub data Size : Type 0 where
  exactly : ℕ → Size
  multiple : ℕ → Size

abbrev pub has_size : Size → ℕ → Bool
has_size (exactly n) m = eqb m n
has_size (multiple n) m = eqb (m % n) 0

-- a row of the manual's table
pub record Manual : Type 0 where
  pub code : ℕ
  pub data_type : ℕ
  pub size : Size

abbrev row : ℕ → ℕ → Size → Manual
row c k z = record { code = c; data_type = k; size = z }

-- The manual's data types and sizes, for the records of our elements. Limits on points and string lengths are no part of reading.
unfoldable pub manual : List Manual
manual =
    row BGNSTR two_byte (exactly 24)
    ∷ row STRNAME ascii_string (multiple 2)
    ∷ row ENDSTR no_data (exactly 0)
    ∷ row BOUNDARY no_data (exactly 0)
    ∷ row PATH no_data (exactly 0)
    ∷ row SREF no_data (exactly 0)
    ∷ row AREF no_data (exactly 0)
    ∷ row TEXT no_data (exactly 0)
    ∷ row NODE no_data (exactly 0)
    ∷ row BOX no_data (exactly 0)
    ∷ row ELFLAGS bit_array (exactly 2)
    ∷ row PLEX four_byte (exactly 4)
    ∷ row LAYER two_byte (exactly 2)
    ∷ row DATATYPE two_byte (exactly 2)
    ∷ row TEXTTYPE two_byte (exactly 2)
    ∷ row NODETYPE two_byte (exactly 2)
    ∷ row BOXTYPE two_byte (exactly 2)
    ∷ row PATHTYPE two_byte (exactly 2)
    ∷ row WIDTH four_byte (exactly 4)
    ∷ row BGNEXTN four_byte (exactly 4)
    ∷ row ENDEXTN four_byte (exactly 4)
    ∷ row XY four_byte (multiple 8)
    ∷ row SNAME ascii_string (multiple 2)
    ∷ row COLROW two_byte (exactly 4)
    ∷ row PRESENTATION bit_array (exactly 2)
    ∷ row STRING ascii_string (multiple 2)
    ∷ row STRANS bit_array (exactly 2)
    ∷ row MAG eight_byte_real (exactly 8)
    ∷ row ANGLE eight_byte_real (exactly 8)
    ∷ row PROPATTR two_byte (exactly 2)
    ∷ row PROPVALUE ascii_string (multiple 2)
    ∷ row ENDEL no_data (exactly 0)
    ∷ []

-- the record's code stands among the rows, with the row's data type and size
abbrev pub listed : List Manual → ℕ → ℕ → ℕ → Bool
listed [] c k n = false
listed (m ∷ ms) c k n = cond (eqb m.code c) (eqb m.data_type k && has_size m.size n) (listed ms c k n)

-- code, data type and data size of the manual
unfoldable pub of_manual : Rec → Bool
of_manual r = listed manual r.code r.data_type (length r.content)

-- ---- bytes

-- a 2-byte length that counts its own 4-byte head, code byte, data type byte, data
unfoldable pub record_bytes : Rec → List ℕ
record_bytes r = bytes_of 2 (4 + length r.content) ++ r.code ∷ r.data_type ∷ r.content

unfoldable pub stream_bytes : List Rec → List ℕ
stream_bytes [] = []
stream_bytes (r ∷ rs) = record_bytes r ++ stream_bytes rs

-- ---- and back

-- the next number, of k bytes
abbrev number_next : ℕ → Parse IllFormed ℕ ℕ
number_next k = map number (items ill_formed k)

-- "an even length of at least 4 that fits what is left": n is the length, and what is after the head is left
abbrev pub data_of : ℕ → Parse IllFormed ℕ (List ℕ)
data_of n = when ill_formed (eqb (n % 2) 0 && leb 4 n) (items ill_formed (n - 4))

-- "code, data type and data size of the manual"
abbrev pub checked : Rec → Parse IllFormed ℕ Rec
checked r = when ill_formed (of_manual r) (pure r)

-- one well-formed record from the front of the bytes
unfoldable pub next_record : Parse IllFormed ℕ Rec
next_record = do
  n ← number_next 2
  c ← number_next 1
  k ← number_next 1
  content ← data_of n
  checked (record { code = c; data_type = k; content = content })

-- records from the front of the bytes, and the bytes after them
pub record Run : Type 0 where
  pub records : List Rec
  pub rest : List ℕ

abbrev pub with_record : Rec → Run → Run
with_record r u = record { records = r ∷ u.records; rest = u.rest }

-- after one record was looked for at the front of s; `go` looks on
abbrev pub onward : List ℕ → Part IllFormed ℕ Rec → (List ℕ → Run) → Run
onward s (ill c) go = record { records = []; rest = s }
onward s (part r t) go = with_record r (go t)

-- at most f records
unfoldable pub run_f : ℕ → List ℕ → Run
run_f zero s = record { records = []; rest = s }
run_f (suc f) s = onward s (next_record s) (λ t. run_f f t)

-- The longest run of well-formed records from the front: there are no more records than bytes.
-- The grammar goes over this run, so the first fault that it meets is the first in byte order.
unfoldable pub run_of : List ℕ → Run
run_of s = run_f (length s) s
