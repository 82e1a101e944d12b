-- `forms::properties` meets its contract. The loop's invariant: the next property begins in the block, and what is left decides.
-- Assumes nothing.
use mathlib.Core.List.{List}
use Prim.Native.Nat.{ℕ, ◌≤◌}
use lib.ListN.{length}
use Rattle.sheet.specs.Element.{property}
use Rattle.block_places.specs.code.Place.{property_at, property_end}
use Rattle.forms.proofs.Walk.{Left}
use Rattle.forms.proofs.properties.Given as goal

pub record Inv (b : List ℕ) (from n i end : ℕ) : Type 0 where
  pub place : end ≤ length b
  pub left : Left property property_at property_end b n from i end

abbrev pub invariant-loop : goal.invariant-loop
invariant-loop l = Inv l.b l.place l.count l.counter l.end
