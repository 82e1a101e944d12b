-- `walk::measure_elements` meets its contract. What is left to measure, on top of what was gathered, stays what the whole was. Assumes nothing.
use mathlib.Core.Path.{◌≡◌}
use mathlib.Core.List.{List}
use Prim.Native.Nat.{ℕ, ◌+◌, ◌*◌, ◌≤◌, ◌<◌}
use lib.Ieee.{Float}
use Rattle.binary64.specs.Value.{zero64}
use Rattle.conversion.specs.declared.GdsRoundingPolicy.{GdsRoundingPolicy}
use Rattle.sheet.specs.Cell.{element_blocks}
use Rattle.cell.specs.Limits.{max_sheet_length}
use Rattle.cell.specs.Cell.{write_blocks}
use Rattle.walk.specs.code.Walk.{totals_from}
use Rattle.walk.proofs.BlocksLaws.{left}
use Rattle.walk.proofs.measure_elements.Given as goal

-- the most that one block adds
abbrev pub most : ℕ
most = 84 + 4 * max_sheet_length

pub record Inv (policy : GdsRoundingPolicy) (d : Float) (sheet : List ℕ) (n k size entries : ℕ) (greatest : Float) : Type 0 where
  pub from : 1 ≤ k
  pub small : size + most ≤ most * k
  pub few : entries < k
  pub rest : totals_from 0 0 zero64 (write_blocks policy d 0 (element_blocks sheet)) ≡ left policy d sheet n k size entries greatest

abbrev pub invariant-loop-k : goal.invariant-loop-k
invariant-loop-k l = Inv l.converter.policy l.converter.d l.sheet l.k-end l.k-counter l.length l.entries l.greatest
