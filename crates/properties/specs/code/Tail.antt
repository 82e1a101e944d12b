-- The bytes of an element's properties and its ENDEL (document 01, "Then PROPATTR and PROPVALUE per property, ENDEL"), and their length by the block alone. Assumes nothing.
use Rattle.std.specs.Prelude.{List, [], ◌++◌, ℕ, zero, suc, ◌+◌, ◌%◌}
use Rattle.big_endian.specs.Big.{number_at}
use Rattle.sheet.specs.Element as S
use Rattle.stream.specs.Strings.{padded}
use Rattle.stream.specs.Structure as D
use Rattle.stream.specs.Record.{PROPATTR, PROPVALUE, record_bytes, stream_bytes}
use Rattle.stream.specs.Records.{word_record, string_record, tail_records}
use Rattle.block_places.specs.code.Place.{property_end}

-- what the records say of a property whose value is not too long
abbrev pub said : S.Property → D.Property
said q = record { attribute = q.attribute; value = padded q.value }

abbrev pub property_bytes : D.Property → List ℕ
property_bytes q = record_bytes (word_record PROPATTR q.attribute) ++ record_bytes (string_record PROPVALUE q.value)

-- a PROPATTR of 6 bytes, and the head of its PROPVALUE, of 4
abbrev pub property_front : ℕ
property_front = 10

-- and a value of m bytes, made even
abbrev pub property_length : ℕ → ℕ
property_length m = property_front + (m + m % 2)

unfoldable pub tail_bytes : List D.Property → List ℕ
tail_bytes qs = stream_bytes (tail_records qs [])

-- each property, and an ENDEL of 4 bytes
unfoldable pub tail_length : ℕ → List ℕ → ℕ → ℕ
tail_length zero b at = 4
tail_length (suc n) b at = property_length (number_at 2 b (at + 2)) + tail_length n b (property_end b at)
