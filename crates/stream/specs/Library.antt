-- The records of a library file about its structures (document 02, request 1; `write_gds_head_to_file` and `write_gds_tail_to_file` of write/mod.rs). Assumes nothing.
use Rattle.std.specs.Prelude.{List, [], ◌∷◌, ◌++◌, ℕ}
use Rattle.stream.specs.Record.{Rec, two_byte, eight_byte_real, stream_bytes}
use Rattle.stream.specs.Records.{empty_record, word_record, string_record, words_bytes}

-- ---- the codes of the manual

abbrev pub HEADER : ℕ
HEADER = 0x00

abbrev pub BGNLIB : ℕ
BGNLIB = 0x01

abbrev pub LIBNAME : ℕ
LIBNAME = 0x02

abbrev pub UNITS : ℕ
UNITS = 0x03

abbrev pub ENDLIB : ℕ
ENDLIB = 0x04

-- "HEADER 0x0258"
abbrev pub version : ℕ
version = 0x0258

-- What the file's own records say. The name is even already; the reals have eight bytes each.
pub record FileHead : Type 0 where
  pub stamps : List ℕ
  pub name : List ℕ
  pub user_unit : List ℕ
  pub database_unit : List ℕ

-- the twelve numbers of the library's two stamps
abbrev pub begin_record : List ℕ → Rec
begin_record vs = record { code = BGNLIB; data_type = two_byte; content = words_bytes vs }

-- "UNITS holds the two reals that it writes": the user unit, then the database unit
abbrev pub units_record : List ℕ → List ℕ → Rec
units_record u d = record { code = UNITS; data_type = eight_byte_real; content = u ++ d }

-- "HEADER 0x0258, BGNLIB, LIBNAME, UNITS"
unfoldable pub file_head_records : FileHead → List Rec
file_head_records h =
    word_record HEADER version ∷ begin_record h.stamps ∷ string_record LIBNAME h.name ∷ units_record h.user_unit h.database_unit ∷ []

abbrev pub file_head_bytes : FileHead → List ℕ
file_head_bytes h = stream_bytes (file_head_records h)

-- "ENDLIB"
abbrev pub file_end_bytes : List ℕ
file_end_bytes = stream_bytes (empty_record ENDLIB ∷ [])
