-- `points::measure_rest` meets its contract. What is left to convert, run from the entry reached, stays what the whole was. Assumes nothing.
use mathlib.Core.Path.{◌≡◌}
use mathlib.Core.List.{List}
use Prim.Native.Nat.{ℕ, ◌+◌, ◌*◌, ◌-◌}
use lib.Ieee.{Float}
use Rattle.std.specs.Prelude.{Result, Err}
use Rattle.refusal.specs.declared.Refusal.{Refusal}
use Rattle.conversion.specs.declared.DatabasePoint.{DatabasePoint}
use Rattle.conversion.specs.declared.Entry.{Entry}
use Rattle.conversion.specs.declared.GdsRoundingPolicy.{GdsRoundingPolicy}
use Rattle.conversion.specs.code.Answer.{grid_point_of}
use Rattle.conversion.specs.code.Fold.{run, Spare}
use Rattle.conversion.specs.Points.{write_points}
use Rattle.block_places.specs.code.Place.{points_from}
use Rattle.coordinate.specs.declared.Pointed.{Pointed}
use Rattle.points.specs.declared.Walked.{Walked}
use Rattle.points.specs.code.Walk.{through}
use Rattle.points.proofs.measure_rest.Given as goal

-- what is left
abbrev pub left : GdsRoundingPolicy → Float → List ℕ → ℕ → ℕ → ℕ → Entry → DatabasePoint → DatabasePoint → Result Walked Refusal
left policy d b n i at e f l = run Err e (write_points policy d i (points_from (n - i) b at)) (through (grid_point_of f) (grid_point_of l))

pub record Inv (policy : GdsRoundingPolicy) (d : Float) (b : List ℕ) (from n k : ℕ) (first : Pointed) (i at : ℕ) (last : DatabasePoint) (e : Entry) : Type 0 where
  pub place : at + 34 * k ≡ from + 34 * i
  pub spare : Spare (2 * (n - i)) e
  pub rest : left policy d b n k from first.entry first.point first.point ≡ left policy d b n i at e first.point last

abbrev pub invariant-loop-i : goal.invariant-loop-i
invariant-loop-i l = Inv l.converter.policy l.converter.d l.rest l.initial.at l.i-end l.from l.first l.i l.at l.last l.entry
