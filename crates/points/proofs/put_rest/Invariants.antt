-- `points::put_rest` meets its contract. What is left to convert and write, run from the entry and the place reached, stays what the whole was, and succeeds. Assumes nothing.
use mathlib.Core.Path.{◌≡◌}
use mathlib.Core.List.{List}
use Prim.Native.Nat.{ℕ, ◌+◌, ◌*◌, ◌-◌}
use lib.ListN.{length}
use lib.Ieee.{Float}
use Rattle.conversion.specs.declared.Entry.{Entry}
use Rattle.conversion.specs.declared.GdsRoundingPolicy.{GdsRoundingPolicy}
use Rattle.conversion.specs.code.Fold.{run, Spare}
use Rattle.conversion.specs.Points.{write_points}
use Rattle.stream.specs.Records.{points_bytes}
use Rattle.block_places.specs.code.Place.{points_from}
use Rattle.steps.specs.code.Steps.{Succeeds}
use Rattle.steps.proofs.StepLaws.{Outcome, stopped, putting}
use Rattle.points.proofs.put_rest.Given as goal

-- what is left
abbrev pub left : GdsRoundingPolicy → Float → List ℕ → ℕ → ℕ → ℕ → Entry → ℕ → List ℕ → Outcome
left policy d b n i at e to out = run stopped e (write_points policy d i (points_from (n - i) b at)) (putting points_bytes to out)

pub record Inv (policy : GdsRoundingPolicy) (d : Float) (b : List ℕ) (from n k : ℕ) (out₀ : List ℕ) (start : ℕ) (e₀ : Entry) (out : List ℕ) (i at to : ℕ) (e : Entry) : Type 0 where
  pub place : at + 34 * k ≡ from + 34 * i
  pub count : to + 8 * k ≡ start + 8 * i
  pub accepted : Succeeds (write_points policy d i (points_from (n - i) b at))
  pub long : length out ≡ length out₀
  pub spare : Spare (2 * (n - i)) e
  pub rest : left policy d b n k from e₀ start out₀ ≡ left policy d b n i at e to out

abbrev pub invariant-loop-i : goal.invariant-loop-i
invariant-loop-i l = Inv l.converter.policy l.converter.d l.rest l.initial.at l.i-end l.from l.initial.out l.initial.to l.initial.entry l.out l.i l.at l.to l.entry
