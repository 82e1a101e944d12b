-- The bytes of a path in the structure (document 01, "PATH: LAYER, DATATYPE, then where present PATHTYPE, WIDTH, BGNEXTN, ENDEXTN; XY"), and their length by the sheet alone. Assumes nothing.
use Rattle.std.specs.Prelude.{◌≡◌, Bool, cond, List, [], ◌∷◌, ◌++◌, ℕ, ◌+◌, ◌*◌, ◌≤◌, length}
use Rattle.std.proofs.Math.Option.{Option}
use Rattle.sheet.specs.Element as S
use Rattle.stream.specs.Structure as D
use Rattle.stream.specs.Record.{Rec, PATH, LAYER, DATATYPE, PATHTYPE, WIDTH, BGNEXTN, ENDEXTN, XY, four_byte, stream_bytes}
use Rattle.stream.specs.Records.{empty_record, word_record, long_record, opt, path_records}
use Rattle.records.specs.code.Bytes.{record_head, xy_point_length, head_bytes, option_of}
use Rattle.cell.specs.Write.{is_some}
use Rattle.path.specs.declared.Extent.{Extent}
use Rattle.path.specs.code.Front.{OptExtent}

unfoldable pub path_bytes : D.Path → List ℕ
path_bytes w = stream_bytes (path_records w [])

-- ---- the bytes before the points

-- "where present .. WIDTH, BGNEXTN, ENDEXTN"
abbrev pub extent_records : OptExtent → List Rec → List Rec
extent_records l rest = opt (long_record WIDTH) l.width (opt (long_record BGNEXTN) l.begin (opt (long_record ENDEXTN) l.end rest))

-- the records before the XY, in front of the rest
abbrev pub head_records : ℕ → ℕ → Option ℕ → OptExtent → List Rec → List Rec
head_records layer datatype path_type l rest =
    empty_record PATH ∷ word_record LAYER layer ∷ word_record DATATYPE datatype ∷ opt (word_record PATHTYPE) path_type (extent_records l rest)

-- and then the head of the XY, of n points
unfoldable pub path_head : ℕ → ℕ → Option ℕ → OptExtent → ℕ → List ℕ
path_head layer datatype path_type l n = stream_bytes (head_records layer datatype path_type l []) ++ head_bytes (record_head + xy_point_length * n) XY four_byte

-- ---- lengths

-- each of the lengths that is there 8
abbrev pub longs_length : Bool → Bool → Bool → ℕ
longs_length wide begun ended = cond wide 8 0 + (cond begun 8 0 + cond ended 8 0)

abbrev pub extent_length : Extent → ℕ
extent_length x = longs_length (is_some (option_of x.width)) (is_some (option_of x.begin)) (is_some (option_of x.end))

-- PATH 4, LAYER 6, DATATYPE 6, the head of the XY 4; a PATHTYPE 6
abbrev pub flags_length : Bool → Bool → Bool → Bool → ℕ
flags_length typed wide begun ended = 20 + (cond typed 6 0 + longs_length wide begun ended)

abbrev pub head_length : Bool → Extent → ℕ
head_length typed x = flags_length typed (is_some (option_of x.width)) (is_some (option_of x.begin)) (is_some (option_of x.end))

pub record HeadSize (typed : Bool) (x : Extent) (n : ℕ) : Type 0 where
  pub is : n ≡ head_length typed x
  pub small : n ≤ 50

-- each of the points 8
unfoldable pub path_length : S.Path → ℕ
path_length e = flags_length (is_some e.path_type) (is_some e.width) (is_some e.begin) (is_some e.end) + xy_point_length * length e.points
