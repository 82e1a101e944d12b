-- Every cell in turn: what is left to measure, on top of what was gathered, stays what the whole was. Assumes nothing.
use mathlib.Core.Path.{◌≡◌}
use mathlib.Core.List.{List}
use Prim.Native.Nat.{ℕ, ◌+◌, ◌*◌, ◌≤◌}
use lib.Ieee.{Float}
use Rattle.binary64.specs.Value.{zero64}
use Rattle.conversion.specs.declared.GdsRoundingPolicy.{GdsRoundingPolicy}
use Rattle.sheet.specs.Blocks.{max_pairs}
use Rattle.sheet.specs.Library.{cell_sheets}
use Rattle.cell.specs.Limits.{max_sheet_length}
use Rattle.library.specs.Library.{write_cells}
use Rattle.write_library.specs.code.File.{max_front_length, totals_from}
use Rattle.write_library.proofs.CellsLaws.{left}
use Rattle.write_library.proofs.measure_cells.Given as goal

-- the most that one cell adds
abbrev pub most : ℕ
most = 68 + max_pairs * (84 + 4 * max_sheet_length)

pub record Inv (policy : GdsRoundingPolicy) (d : Float) (sheet : List ℕ) (front cells cell size entries : ℕ) (greatest : Float) : Type 0 where
  pub small : size ≤ max_front_length + most * cell
  pub few : entries ≤ max_pairs * cell
  pub rest : totals_from front 0 zero64 (write_cells policy d 0 (cell_sheets sheet)) ≡ left policy d sheet cells cell size entries greatest

abbrev pub invariant-loop-cell : goal.invariant-loop-cell
invariant-loop-cell l = Inv l.converter.policy l.converter.d l.sheet l.front l.cells l.cell-counter l.length l.entries l.greatest
