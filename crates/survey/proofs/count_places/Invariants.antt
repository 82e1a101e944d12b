-- The loop's invariant of `survey::count_places`: the counts are those of the places passed.
use mathlib.Core.Path.{◌≡◌}
use Prim.Native.Nat.{ℕ, ◌+◌}
use lib.Ieee.{Float}
use Rattle.conversion.specs.declared.GdsRoundingPolicy.{GdsRoundingPolicy}
use Rattle.survey.specs.Places.{counted}
use Rattle.survey.proofs.count_places.Given as goal

pub record Inv (policy : GdsRoundingPolicy) (d pitch : Float) (a b c i : ℕ) : Type 0 where
  pub clean : a ≡ (counted policy d pitch i).clean
  pub due : b ≡ (counted policy d pitch i).due
  pub refused : c ≡ (counted policy d pitch i).refused
  pub sum : a + b + c ≡ i

abbrev pub invariant-loop-i : goal.invariant-loop-i
invariant-loop-i l = Inv l.converter.policy l.converter.d l.pitch l.clean l.due l.refused l.i
