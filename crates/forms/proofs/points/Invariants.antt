-- `forms::points` meets its contract. The loop's invariant: the place of the next point, and that what is left decides.
-- Assumes nothing.
use mathlib.Core.Path.{◌≡◌}
use mathlib.Core.List.{List}
use Prim.Native.Nat.{ℕ, ◌+◌, ◌*◌}
use Rattle.sheet.specs.Form.{point}
use Rattle.block_places.specs.code.Place.{point_at, point_end}
use Rattle.forms.proofs.Walk.{Left}
use Rattle.forms.proofs.points.Given as goal

pub record Inv (b : List ℕ) (from n i at : ℕ) : Type 0 where
  pub place : at ≡ from + 34 * i
  pub left : Left point point_at point_end b n from i at

abbrev pub invariant-loop : goal.invariant-loop
invariant-loop l = Inv l.b l.from l.n l.counter l.at
