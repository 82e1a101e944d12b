-- Block 0 of a library sheet, found in places and checked, by the definition of writing a library (library/specs/Library). Assumes nothing.
use Rattle.std.specs.Prelude.{◌≡◌, true, List, ℕ, ◌+◌, ◌≤◌, T, leb, length, Float, Result, Ok, Err}
use Rattle.std.proofs.Math.Option.{Option, none, some}
use Rattle.std.specs.Prelude as Code
use Rattle.big_endian.specs.Big.{bytes_of}
use Rattle.refusal.specs.declared.Refusal.{Refusal}
use Rattle.refusal.specs.declared.Refusal.TheVariants as R
use Rattle.conversion.specs.Made.{Made, refused, pure, need, ◌>>◌}
use Rattle.sheet.specs.Library.{LibraryHead, library_head_of}
use Rattle.stream.specs.Strings.{padded}
use Rattle.stream.specs.Library.{FileHead, file_head_bytes}
use Rattle.block_places.specs.code.Place.{words_from, string_at, string_end, double_at, stamp_numbers, stamps_length}
use Rattle.cell.specs.Stamps.{stamps_fit}
use Rattle.library.specs.Library.{max_library_name_length, file_head_for, file_head_of}
use Rattle.library_head.specs.declared.Units.{Units}
use Rattle.library_head.specs.declared.HeadParts.{HeadParts}
use Rattle.library_head.specs.declared.HeadChecked.{HeadChecked}

-- ---- the form

-- the bytes of the user unit
abbrev pub user_unit_length : ℕ
user_unit_length = 8

-- the head whose user unit stands at a place
abbrev pub library_head_at : List ℕ → ℕ → LibraryHead
library_head_at b at = record { name = string_at b 0; user_unit = double_at b at; stamps = words_from stamp_numbers b (at + user_unit_length) }

-- its parts lie in the block, which 4 bytes count
pub record PartsIn (b : List ℕ) (at : ℕ) : Type 0 where
  pub name_in : string_end b 0 ≤ length b
  pub stamps-in : at + user_unit_length + stamps_length ≤ length b

abbrev pub form_at : List ℕ → Code.Option ℕ → Option LibraryHead
form_at b Code.None = none
form_at b (Code.Some at) = some (library_head_at b at)

abbrev pub FormIn : List ℕ → Code.Option ℕ → Type 0
FormIn b Code.None = T true
FormIn b (Code.Some at) = PartsIn b at

pub record FormRead (b : List ℕ) (r : Code.Option ℕ) : Type 0 where
  pub form : library_head_of b ≡ form_at b r
  pub places : FormIn b r

-- ---- 24

-- the file's own records of a head with these reals, or none
abbrev pub head_encoded : LibraryHead → Code.Option Units → Option FileHead
head_encoded h Code.None = none
head_encoded h (Code.Some u) = some (file_head_for h (bytes_of 8 u.user) (bytes_of 8 u.database))

-- of every head with this user unit
pub record UnitsRead (user d : Float) (r : Code.Option Units) : Type 0 where
  pub reals : (h : LibraryHead) → h.user_unit ≡ user → file_head_of d h ≡ head_encoded h r

-- ---- 23, 6, 24, 25

abbrev pub units_step : LibraryHead → Option FileHead → Made FileHead
units_step h none = refused R.LibraryUnits
units_step h (some f) = need (leb (length h.name) max_library_name_length) R.LibraryName >> pure f

abbrev pub head_step : Float → Option LibraryHead → Made FileHead
head_step d none = refused R.LibraryForm
head_step d (some h) = need (stamps_fit h.stamps) R.Stamp >> units_step h (file_head_of d h)

-- the file's own records by their parts
unfoldable pub file_head_at : List ℕ → HeadParts → FileHead
file_head_at b p = record { stamps = words_from stamp_numbers b p.stamps; name = padded (string_at b 0); user_unit = bytes_of 8 p.user; database_unit = bytes_of 8 p.database }

pub record HeadIn (b : List ℕ) (p : HeadParts) : Type 0 where
  pub name_in : string_end b 0 ≤ length b
  pub name-short : length (string_at b 0) ≤ max_library_name_length
  pub stamps-in : p.stamps + stamps_length ≤ length b

abbrev pub step_of : List ℕ → Result HeadChecked Refusal → Made FileHead
step_of b (Err r) = refused r
step_of b (Ok c) = pure (file_head_at b c.parts)

-- a name has at most 65,530 bytes: sums with the length fit
pub record HeadPassed (b : List ℕ) (p : HeadParts) (n : ℕ) : Type 0 where
  pub places : HeadIn b p
  pub count : n ≡ length (file_head_bytes (file_head_at b p))
  pub small : n ≤ 65588

abbrev pub CheckedIn : List ℕ → Result HeadChecked Refusal → Type 0
CheckedIn b (Err r) = T true
CheckedIn b (Ok c) = HeadPassed b c.parts c.length

-- the checks of a head x, as they go for the block b
pub record HeadRead (d : Float) (b : List ℕ) (x : Option LibraryHead) (r : Result HeadChecked Refusal) : Type 0 where
  pub step : step_of b r ≡ head_step d x
  pub places : CheckedIn b r
