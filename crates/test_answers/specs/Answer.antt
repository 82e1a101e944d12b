-- The bytes of what the cell writer and the library writer answer. Assumes nothing.
use Rattle.std.specs.Prelude.{cond, List, ◌++◌, ℕ, eqb, length, Float}
use Rattle.binary64.specs.Value.{zero64}
use Rattle.refusal.specs.Number.{number}
use Rattle.conversion.specs.Entry.{greatest_from, report_bytes}
use Rattle.stream.specs.Structure.{Structure}
use Rattle.cell.specs.Cell as C
use Rattle.cell.specs.Cell.{write_cell, structure_bytes}
use Rattle.library.specs.Library as L
use Rattle.library.specs.Library.{LibraryFile, file_bytes, report_from, entries_in, greatest_in, write_library}
use Rattle.test_bytes.specs.Bytes.{refused_bytes, library_refused_bytes, front_bytes}

unfoldable pub cell_bytes : C.Result Structure → List ℕ
cell_bytes (C.stopped r k) = refused_bytes (number r) k
cell_bytes (C.written s es) = front_bytes (length (structure_bytes s)) (length es) (greatest_from zero64 es) ++ structure_bytes s ++ report_bytes es

unfoldable pub library_bytes : L.Result LibraryFile → List ℕ
library_bytes (L.stopped r c k) = library_refused_bytes (number r) c k
library_bytes (L.written l) = front_bytes (length (file_bytes l)) (entries_in l.cells) (greatest_in zero64 l.cells) ++ file_bytes l ++ report_from 0 l.cells

-- of a job, a policy, a d and a sheet: job 0 is a cell, into an output of 16,384 bytes and a report of 8,192; any other a library, into 65,536 and 16,384
unfoldable pub answer_bytes : ℕ → ℕ → Float → List ℕ → List ℕ
answer_bytes job policy d sheet = cond (eqb job 0) (cell_bytes (write_cell policy d sheet 16384 8192)) (library_bytes (write_library policy d sheet 65536 16384))
