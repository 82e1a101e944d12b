-- The report's bytes, the count of entries, the greatest error and the reals of UNITS are those by hand. Computed. Assumes nothing.
use mathlib.Core.Path.{◌≡◌, refl}
use mathlib.Core.Option.{Option, none, some}
use mathlib.Core.List.{List, [], ◌∷◌, ◌++◌}
use Prim.Native.Nat.{ℕ}
use lib.IntN.{pos}
use lib.Ieee.{binary64, to_bits}
use Rattle.conversion.specs.declared.Entry.{Entry}
use Rattle.stream.specs.Library.{FileHead}
use Rattle.library.specs.Library.{WrittenCell, no_cell, library_entry_length, file_head_of, report_from, entries_in, greatest_in}
use Rattle.cases.specs.Case.{halved}
use Rattle.cases.proofs.Open.{opened}
use Rattle.guards.specs.Question.{bits}
use Rattle.library_guards.specs.Numbers.{Report, reports, cell, Errors, greatests, Reals, units}

-- "elsewhere the cell's number is 4,294,967,295"
pub outside : no_cell ≡ 4294967295
outside = refl

-- 33 bytes of an entry, and 4 before them
pub entry_length : library_entry_length ≡ 37
entry_length = refl

-- ---- the report

pub made : List Report → List (List ℕ)
made [] = []
made (r ∷ rs) = report_from r.from r.cells ∷ made rs

pub known_reports : List Report → List (List ℕ)
known_reports [] = []
known_reports (r ∷ rs) = r.bytes ∷ known_reports rs

pub reports-made : made reports ≡ known_reports reports
unfolding opened halved reports made known_reports
reports-made = refl

-- ---- the greatest error

entries_of : List ℕ → List Entry
entries_of [] = []
entries_of (e ∷ es) = record { index = 0; kind = 1; field = 0; axis = 0; place = 0; count = 1; physical = bits 0; database = pos 0; error = bits e } ∷ entries_of es

cells_of : List (List ℕ) → List WrittenCell
cells_of [] = []
cells_of (c ∷ cs) = cell (entries_of c) ∷ cells_of cs

pub found : List Errors → List (ℕ × ℕ)
found [] = []
found (e ∷ es) = (entries_in (cells_of e.cells), to_bits binary64 (greatest_in (bits e.from) (cells_of e.cells))) ∷ found es

pub known_errors : List Errors → List (ℕ × ℕ)
known_errors [] = []
known_errors (e ∷ es) = (e.count, e.greatest) ∷ known_errors es

pub greatests-found : found greatests ≡ known_errors greatests
unfolding opened halved greatests found known_errors entries_of cells_of
greatests-found = refl

-- ---- the reals of UNITS

both_of : Option FileHead → Option (List ℕ)
both_of none = none
both_of (some f) = some (f.user_unit ++ f.database_unit)

pub encoded : List Reals → List (Option (List ℕ))
encoded [] = []
encoded (r ∷ rs) = both_of (file_head_of (bits r.unit) (record { name = []; user_unit = bits r.user; stamps = [] })) ∷ encoded rs

pub known_reals : List Reals → List (Option (List ℕ))
known_reals [] = []
known_reals (r ∷ rs) = r.bytes ∷ known_reals rs

pub units-encoded : encoded units ≡ known_reals units
unfolding opened halved units encoded known_reals both_of
units-encoded = refl
