-- The cells in turn and the file, measured and written, by the definition of writing a library (library/specs/Library). Assumes nothing.
use Rattle.std.specs.Prelude.{◌≡◌, true, List, ℕ, ◌+◌, ◌*◌, ◌≤◌, T, length, Float, Ok, Err}
use Rattle.conversion.specs.declared.GdsRoundingPolicy.{GdsRoundingPolicy}
use Rattle.big_endian.specs.Buffer.{Wrote}
use Rattle.sheet.specs.Blocks.{max_pairs}
use Rattle.sheet.specs.Library.{cell_sheets}
use Rattle.walk.specs.declared.Ends.{Ends}
use Rattle.library.specs.Library.{Result, stopped, written, WrittenCell, write_cells, LibraryFile, write_library_sheet, cells_bytes, file_bytes, report_from, entries_in, greatest_in, fitting, out_after, report_after}
use Rattle.library.specs.Answer.{LibraryAnswer, refused, accepted, answer_of}

-- ---- measuring

-- the file's own records: a name of at most 65,530 bytes, and ENDLIB
abbrev pub max_front_length : ℕ
max_front_length = 65592

-- after n bytes, k entries and a greatest error g
unfoldable pub totals_from : ℕ → ℕ → Float → Result (List WrittenCell) → LibraryAnswer
totals_from n k g (stopped r c b) = refused r c b
totals_from n k g (written ws) = accepted (n + length (cells_bytes ws)) (k + entries_in ws) (greatest_in g ws)

-- at most 16,383 cells with 16,384 entries each: their bytes can be counted
abbrev pub FewEntries : LibraryAnswer → Type 0
FewEntries (Err e) = T true
FewEntries (Ok a) = a.entries ≤ max_pairs * max_pairs

-- ---- the cells

-- no check refuses a cell, and there is room for the structures and for the entries
pub record CellsFit (policy : GdsRoundingPolicy) (d : Float) (sheet : List ℕ) (out report : ℕ) : Type 0 where
  pub cells : List WrittenCell
  pub writes : write_cells policy d 0 (cell_sheets sheet) ≡ written cells
  pub out-room : length (cells_bytes cells) ≤ out
  pub report-room : length (report_from 0 cells) ≤ report

-- then all of them are written at the start of both parts, and nothing else; r says where they end
pub record PutsCells (policy : GdsRoundingPolicy) (d : Float) (sheet out report out' report' : List ℕ) (r : Ends) : Type 0 where
  pub output : (ws : List WrittenCell) → write_cells policy d 0 (cell_sheets sheet) ≡ written ws → Wrote (cells_bytes ws) out out' r.out
  pub entries : (ws : List WrittenCell) → write_cells policy d 0 (cell_sheets sheet) ≡ written ws → Wrote (report_from 0 ws) report report' r.report

-- ---- the file

-- the library is accepted, and there is room for its file and its entries
pub record FileFits (policy : GdsRoundingPolicy) (d : Float) (sheet : List ℕ) (out report : ℕ) : Type 0 where
  pub file : LibraryFile
  pub writes : write_library_sheet policy d sheet ≡ written file
  pub out-room : length (file_bytes file) ≤ out
  pub report-room : length (report_from 0 file.cells) ≤ report

-- then both are written at the start of the buffers, and nothing else; r says where they end
pub record PutsFile (policy : GdsRoundingPolicy) (d : Float) (sheet out report out' report' : List ℕ) (r : Ends) : Type 0 where
  pub output : (l : LibraryFile) → write_library_sheet policy d sheet ≡ written l → Wrote (file_bytes l) out out' r.out
  pub entries : (l : LibraryFile) → write_library_sheet policy d sheet ≡ written l → Wrote (report_from 0 l.cells) report report' r.report

-- ---- what follows 1 to 3: the answer, and both buffers before and after

abbrev pub fitted : GdsRoundingPolicy → Float → List ℕ → List ℕ → List ℕ → Result LibraryFile
fitted policy d sheet out report = fitting (length out) (length report) (write_library_sheet policy d sheet)

pub record WritesFile (policy : GdsRoundingPolicy) (d : Float) (sheet out report out' report' : List ℕ) (r : LibraryAnswer) : Type 0 where
  pub answer : r ≡ answer_of (fitted policy d sheet out report)
  pub output : out' ≡ out_after (fitted policy d sheet out report) out
  pub entries : report' ≡ report_after (fitted policy d sheet out report) report
