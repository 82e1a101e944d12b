-- One record in the lent output (document 01, "A record is a 2-byte length that counts its own 4-byte head, code byte, data type byte, data"). Assumes nothing.
use Rattle.std.specs.Prelude.{◌≡◌, List, [], ◌∷◌, ◌++◌, ℕ, ◌+◌, ◌%◌, length}
use Rattle.std.proofs.Math.Option.{Option, none, some}
use Rattle.std.specs.declared.option.Option as CodeOption
use Rattle.std.specs.declared.option.Option.TheVariants as Code
use Rattle.big_endian.specs.Big.{bytes_of}
use Rattle.big_endian.specs.Buffer.{WroteAt}
use Rattle.stream.specs.Record.{Rec, two_byte, record_bytes}

-- ---- how many bytes

-- a record's head, which is all of a record with no data
abbrev pub record_head : ℕ
record_head = 4

-- records of one 2-byte number, of 4 bytes (one number, or COLROW's two) and of one eight-byte real
abbrev pub word_record_length : ℕ
word_record_length = 6

abbrev pub long_record_length : ℕ
long_record_length = 8

abbrev pub real_record_length : ℕ
real_record_length = 12

-- UNITS' two reals
abbrev pub units_record_length : ℕ
units_record_length = 20

-- a record of a string of n bytes, made even; the longest string whose record's length 2 bytes hold
abbrev pub string_record_length : ℕ → ℕ
string_record_length n = record_head + (n + n % 2)

abbrev pub max_string_data : ℕ
max_string_data = 65530

-- the twelve 2-byte numbers of two stamps, and their record
abbrev pub stamps_data : ℕ
stamps_data = 24

abbrev pub stamps_record_length : ℕ
stamps_record_length = 28

-- a point in an XY record
abbrev pub xy_point_length : ℕ
xy_point_length = 8

-- ---- the bytes

-- a record's head: its length, code and data type
abbrev pub head_bytes : ℕ → ℕ → ℕ → List ℕ
head_bytes len code data_type = bytes_of 2 len ++ code ∷ data_type ∷ []

-- a record by its parts
abbrev pub record_of : ℕ → ℕ → List ℕ → Rec
record_of code data_type bs = record { code = code; data_type = data_type; content = bs }

-- a record of one number of k bytes
abbrev pub sized : ℕ → ℕ → ℕ → ℕ → Rec
sized code data_type k v = record_of code data_type (bytes_of k v)

-- a record of two stamps, by the bytes of their numbers
abbrev pub stamped : ℕ → List ℕ → Rec
stamped code bs = record_of code two_byte bs

-- n bytes `bs` stand from `at` to `to`, and every other byte of the output is as it was
pub record Placed (bs : List ℕ) (n : ℕ) (before after : List ℕ) (at to : ℕ) : Type 0 where
  pub wrote : WroteAt bs before after at to
  pub end : to ≡ at + n
  pub long : length after ≡ length before

-- the record r, of n bytes
abbrev pub Recorded : Rec → ℕ → List ℕ → List ℕ → ℕ → ℕ → Type 0
Recorded r = Placed (record_bytes r)

-- a record that may be missing: its bytes, or none
unfoldable pub opt_bytes : {A : Type 0} → (A → Rec) → Option A → List ℕ
opt_bytes f none = []
opt_bytes f (some a) = record_bytes (f a)

-- how long it is, where one that is there has n bytes
abbrev pub opt_length : {A : Type 0} → ℕ → CodeOption.Option A → ℕ
opt_length n Code.None = 0
opt_length n (Code.Some a) = n

-- the code's option as that of the definitions
abbrev pub option_of : {A : Type 0} → CodeOption.Option A → Option A
option_of Code.None = none
option_of (Code.Some a) = some a
