-- Writing a library (document 02, request 1; `write_library_with_options` of write/mod.rs). Assumes nothing.
-- The library from its 23 on is `write_library_sheet`; `library_file` puts 1 to 3 before it, and writing 21 and 22 after that.
use Rattle.std.specs.Prelude.{Bool, true, false, cond, List, [], ◌∷◌, ◌++◌, ℕ, suc, ◌+◌, ◌*◌, leb, length, Float}
use Rattle.std.proofs.Math.Option.{Option, none, some}
use Rattle.std.specs.Float.Ieee.{lt}
use Rattle.std.specs.Float.Ieee.Positive.{positive}
use Rattle.big_endian.specs.Big.{bytes_of}
use Rattle.big_endian.specs.Buffer.{over}
use Rattle.binary64.specs.Value.{zero64}
use Rattle.refusal.specs.declared.Refusal.{Refusal}
use Rattle.refusal.specs.declared.Refusal.TheVariants as R
use Rattle.gds_format.specs.Real8.{real8}
use Rattle.conversion.specs.declared.GdsRoundingPolicy.{GdsRoundingPolicy}
use Rattle.conversion.specs.declared.Entry.{Entry}
use Rattle.conversion.specs.Entry.{report_with, entry_length, greatest_from}
use Rattle.conversion.specs.Made.{Made, refused, made}
use Rattle.sheet.specs.Blocks.{pairs_fit, block_of}
use Rattle.sheet.specs.Library.{LibraryHead, library_head_of, cell_sheets}
use Rattle.stream.specs.Strings.{padded}
use Rattle.stream.specs.Structure.{Structure}
use Rattle.stream.specs.Library.{FileHead, file_head_bytes, file_end_bytes}
use Rattle.cell.specs.Call.{checked_call}
use Rattle.cell.specs.Stamps.{stamps_fit}
use Rattle.cell.specs.Cell as C
use Rattle.cell.specs.Cell.{write_sheet, structure_bytes}

-- "A refusal inside a cell gives the cell's number beside its block (elsewhere the cell's number is 4,294,967,295 and the block 0)"
abbrev pub no_cell : ℕ
no_cell = 4294967295

-- the first refusal with its cell and its block, or what is written
pub data Result (A : Type 0) : Type 0 where
  stopped : Refusal → ℕ → ℕ → Result A
  written : A → Result A

-- a check outside the cells
abbrev pub check : {A : Type 0} → Bool → Refusal → Result A → Result A
check true r x = x
check false r x = stopped r no_cell 0

-- ---- the cells

-- what is written for a cell: its structure, and its report entries
pub record WrittenCell : Type 0 where
  pub structure : Structure
  pub entries : List Entry

abbrev pub in_front : WrittenCell → Result (List WrittenCell) → Result (List WrittenCell)
in_front w (stopped r c k) = stopped r c k
in_front w (written ws) = written (w ∷ ws)

-- cell c from its 4 on, and what the others after it gave
unfoldable pub write_one : ℕ → C.Result Structure → Result (List WrittenCell) → Result (List WrittenCell)
write_one c (C.stopped r k) others = stopped r c k
write_one c (C.written s es) others = in_front (record { structure = s; entries = es }) others

-- "cells are checked in turn from their 4 on", from cell c on
unfoldable pub write_cells : GdsRoundingPolicy → Float → ℕ → List (List ℕ) → Result (List WrittenCell)
write_cells policy d c [] = written []
write_cells policy d c (s ∷ ss) = write_one c (write_sheet policy d s) (write_cells policy d (suc c) ss)

-- ---- the library from its 23 on

-- the file's own records, and its cells
pub record LibraryFile : Type 0 where
  pub head : FileHead
  pub cells : List WrittenCell

-- "25 library name over 65,530 bytes"
abbrev pub max_library_name_length : ℕ
max_library_name_length = 65530

abbrev pub file_with : FileHead → Result (List WrittenCell) → Result LibraryFile
file_with h (stopped r c k) = stopped r c k
file_with h (written ws) = written (record { head = h; cells = ws })

-- the file's own records, of a head and the two reals of UNITS
abbrev pub file_head_for : LibraryHead → List ℕ → List ℕ → FileHead
file_head_for h u d = record { stamps = h.stamps; name = padded h.name; user_unit = u; database_unit = d }

-- where the user unit's real and d's both have an encoding
abbrev pub head_with : LibraryHead → Option (List ℕ) → Option (List ℕ) → Option FileHead
head_with h none d = none
head_with h (some u) none = none
head_with h (some u) (some d) = some (file_head_for h u d)

-- "24 user unit not finite or not positive, or a real of UNITS not finite or not encodable": then there is none
unfoldable pub file_head_of : Float → LibraryHead → Option FileHead
file_head_of d h = cond (positive h.user_unit) (head_with h (real8 h.user_unit) (real8 d)) none

module _ (policy : GdsRoundingPolicy) (d : Float) (sheet : List ℕ) where
  -- 24, 25 "after 24", and the cells
  unfoldable pub write_named : LibraryHead → Option FileHead → Result LibraryFile
  write_named h none = stopped R.LibraryUnits no_cell 0
  write_named h (some f) =
      check (leb (length h.name) max_library_name_length) R.LibraryName
      (file_with f (write_cells policy d 0 (cell_sheets sheet)))

  -- 23, the library stamp's 6, and 24 "after the library stamp's 6"
  unfoldable pub write_headed : Option LibraryHead → Result LibraryFile
  write_headed none = stopped R.LibraryForm no_cell 0
  write_headed (some h) =
      check (stamps_fit h.stamps) R.Stamp
      (write_named h (file_head_of d h))

  -- "23 library pairs or block 0 ill-formed"
  unfoldable pub write_library_sheet : Result LibraryFile
  write_library_sheet = check (pairs_fit sheet) R.LibraryForm (write_headed (library_head_of (block_of sheet 0)))

-- ---- all that is measured

-- what follows 1 to 3, or what they refuse
unfoldable pub after_caller : Made GdsRoundingPolicy → Float → List ℕ → Result LibraryFile
after_caller (refused r) d sheet = stopped r no_cell 0
after_caller (made policy vs) d sheet = write_library_sheet policy d sheet

unfoldable pub library_file : ℕ → Float → List ℕ → Result LibraryFile
library_file policy d sheet = after_caller (checked_call policy d sheet) d sheet

-- ---- the file and its report

-- "Structures follow in block order"
unfoldable pub cells_bytes : List WrittenCell → List ℕ
cells_bytes [] = []
cells_bytes (w ∷ ws) = structure_bytes w.structure ++ cells_bytes ws

-- "HEADER 0x0258, BGNLIB, LIBNAME, UNITS, the structures, ENDLIB"
unfoldable pub file_bytes : LibraryFile → List ℕ
file_bytes l = file_head_bytes l.head ++ (cells_bytes l.cells ++ file_end_bytes)

-- "A library's report entries gain a leading 4-byte cell number, counted from 0, and stand by it, then by index": from cell c on
unfoldable pub report_from : ℕ → List WrittenCell → List ℕ
report_from c [] = []
report_from c (w ∷ ws) = report_with (bytes_of 4 c) w.entries ++ report_from (suc c) ws

abbrev pub library_entry_length : ℕ
library_entry_length = 4 + entry_length

unfoldable pub entries_in : List WrittenCell → ℕ
entries_in [] = 0
entries_in (w ∷ ws) = length w.entries + entries_in ws

abbrev pub larger : Float → Float → Float
larger x y = cond (lt x y) y x

-- the largest of x and the cells' own greatest errors
unfoldable pub greatest_in : Float → List WrittenCell → Float
greatest_in x [] = x
greatest_in x (w ∷ ws) = greatest_in (larger x (greatest_from zero64 w.entries)) ws

-- ---- writing: "21 and 22 come once, at the end"

-- into an output and a report of these lengths
unfoldable pub fitting : ℕ → ℕ → Result LibraryFile → Result LibraryFile
fitting out report (stopped r c k) = stopped r c k
fitting out report (written l) =
    check (leb (length (file_bytes l)) out) R.OutputShort
    (check (leb (library_entry_length * entries_in l.cells) report) R.ReportShort
    (written l))

unfoldable pub write_library : ℕ → Float → List ℕ → ℕ → ℕ → Result LibraryFile
write_library policy d sheet out report = fitting out report (library_file policy d sheet)

-- ---- the two buffers afterwards

-- as a cell's: bytes after the file and the entries stay; where refused, both buffers stay
abbrev pub out_after : Result LibraryFile → List ℕ → List ℕ
out_after (stopped r c k) before = before
out_after (written l) before = over (file_bytes l) before

abbrev pub report_after : Result LibraryFile → List ℕ → List ℕ
report_after (stopped r c k) before = before
report_after (written l) before = over (report_from 0 l.cells) before
