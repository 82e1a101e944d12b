-- What is read from a stream with every kind is the cell by hand; which record of a BOX is at fault first; and what a sheet buffer holds afterwards. Computed. Assumes nothing.
use mathlib.Core.Path.{◌≡◌, refl, ap}
use mathlib.Core.Bool.{Bool}
use mathlib.Core.Option.{some}
use mathlib.Core.List.{List, [], ◌∷◌, ◌++◌}
use Prim.Native.Nat.{ℕ, ◌<◌}
use borrow.Author.Tests.{lt-leb}
use lib.ListN.{length}
use Rattle.refusal.specs.declared.Refusal.TheVariants as R
use Rattle.parsing.specs.Parse.{accepted}
use Rattle.stream.specs.Read.{map_option, read_structure}
use Rattle.cell.specs.Limits.{max_sheet_length}
use Rattle.reading.specs.Limits.{sheet_limits}
use Rattle.reading.specs.Cell.{cell_read}
use Rattle.reading.specs.Read.{stopped, made, check, long_enough, measure_structure, read_sheet, sheet_after}
use Rattle.cases.specs.Case.{halved}
use Rattle.cases.specs.Limits.{repeated}
use Rattle.cases.specs.Read.{stream, cell, bare, bare_sheet, turned_box}
use Rattle.cases.proofs.Open.{opened}

pub cell-read : map_option cell_read (accepted (read_structure sheet_limits stream)) ≡ some cell
unfolding opened halved repeated stream cell
cell-read = refl

-- ---- a BOX that no two corners give is refused by its first record at fault

pub box-layer : measure_structure (turned_box 256 255) ≡ stopped R.LayerOrType 1
unfolding opened halved turned_box
box-layer = refl

pub box-type : measure_structure (turned_box 255 256) ≡ stopped R.LayerOrType 1
unfolding opened halved turned_box
box-type = refl

pub box-points : measure_structure (turned_box 255 255) ≡ stopped R.NotStructure 1
unfolding opened halved turned_box
box-points = refl

-- ---- the sheet buffer: long enough, a byte short, and what it holds

pub room-enough : read_sheet bare 40 ≡ made bare_sheet
unfolding opened halved bare bare_sheet
room-enough = refl

pub room-short : read_sheet bare 39 ≡ stopped R.OutputShort 0
unfolding opened halved bare
room-short = refl

pub fault-before-room : read_sheet [] 0 ≡ stopped R.NotStructure 0
unfolding opened
fault-before-room = refl

pub bytes_after : sheet_after (read_sheet bare 42) (bare_sheet ++ 7 ∷ 8 ∷ []) ≡ bare_sheet ++ 7 ∷ 8 ∷ []
unfolding opened halved bare bare_sheet
bytes_after = refl

pub bytes-before : sheet_after (read_sheet bare 3) (7 ∷ 8 ∷ 9 ∷ []) ≡ 7 ∷ 8 ∷ 9 ∷ []
unfolding opened halved bare
bytes-before = refl

-- 3 before 21: of a sheet that is too long, whatever the buffer
pub size-before-room : (sheet : List ℕ) (room : ℕ) → max_sheet_length < length sheet → long_enough room R.OutputShort (long_enough max_sheet_length R.SheetSize (made sheet)) ≡ stopped R.SheetSize 0
size-before-room sheet room h = ap (λ (t : Bool). long_enough room R.OutputShort (check t R.SheetSize (made sheet))) (lt-leb (length sheet) max_sheet_length h)
