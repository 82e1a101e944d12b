-- Reading the bytes of one structure to a cell sheet (document 02, request 8), and the claim that the structure of that sheet is canonical. Assumes nothing.
use Rattle.std.specs.Prelude.{◌≡◌, Bool, true, false, List, [], ℕ, leb, length}
use Rattle.std.proofs.Math.Option.{some}
use Rattle.big_endian.specs.Big.{Bytes}
use Rattle.big_endian.specs.Buffer.{over}
use Rattle.binary64.specs.Value.{one64}
use Rattle.refusal.specs.declared.Refusal.{Refusal}
use Rattle.refusal.specs.declared.Refusal.TheVariants as R
use Rattle.parsing.specs.Parse.{Outcome, refused, given}
use Rattle.sheet.specs.Cell.{cell_of}
use Rattle.sheet.specs.Encode.{cell_sheet}
use Rattle.stream.specs.Structure.{Structure}
use Rattle.stream.specs.Drawn.{drawn_of}
use Rattle.stream.specs.Read.{Stop, refusal_of, read_structure, structure_of}
use Rattle.cell.specs.Limits.{max_sheet_length}
use Rattle.cell.specs.Cell.{written, cell_structure, structure_bytes}
use Rattle.reading.specs.Limits.{sheet_limits}
use Rattle.reading.specs.Cell.{cell_read}

-- the first refusal and its block, or the sheet
pub data Reading : Type 0 where
  stopped : Refusal → ℕ → Reading
  made : List ℕ → Reading

-- a check after the whole structure: block 0
abbrev pub check : Bool → Refusal → Reading → Reading
check true r x = x
check false r x = stopped r 0

-- a sheet of at most n bytes
abbrev pub long_enough : ℕ → Refusal → Reading → Reading
long_enough n r (stopped q k) = stopped q k
long_enough n r (made sheet) = check (leb (length sheet) n) r (made sheet)

abbrev pub sheet_from : Outcome Stop Structure → Reading
sheet_from (refused s) = stopped (refusal_of s.fault) s.block
sheet_from (given s) = made (cell_sheet (cell_read s))

-- "met first in byte order ..; then 3"
unfoldable pub measure_structure : List ℕ → Reading
measure_structure bytes = long_enough max_sheet_length R.SheetSize (sheet_from (read_structure sheet_limits bytes))

-- "then 21 for a short sheet buffer", of `room` bytes
unfoldable pub read_sheet : List ℕ → ℕ → Reading
read_sheet bytes room = long_enough room R.OutputShort (measure_structure bytes)

-- "bytes after the sheet stay"; where refused, all do
abbrev pub sheet_after : Reading → List ℕ → List ℕ
sheet_after (stopped r k) before = before
sheet_after (made sheet) before = over sheet before

-- ---- "the canonical structure. It draws the same as what was read, and it reads to the same sheet."

-- the policy byte of "nearest"
abbrev pub nearest : ℕ
nearest = 0

pub record Canonical (bytes sheet : List ℕ) : Type 0 where
  -- what was read, by the grammar alone, and the cell that the sheet holds
  pub read : Structure
  pub reads : structure_of bytes ≡ some read
  pub cell : cell_of sheet ≡ some (cell_read read)
  -- "Writing that sheet with d = 1 and nearest": accepted, with nothing to report
  pub canonical : Structure
  pub writes : cell_structure nearest one64 sheet ≡ written canonical []
  pub draws : drawn_of canonical ≡ drawn_of read
  pub again : measure_structure (structure_bytes canonical) ≡ made sheet

-- for every structure that is read
abbrev pub RoundTrip : Type 0
RoundTrip = (bytes sheet : List ℕ) → Bytes bytes → measure_structure bytes ≡ made sheet → Canonical bytes sheet
