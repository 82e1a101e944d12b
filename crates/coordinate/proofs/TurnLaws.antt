-- Points in turn: a list is its first point, then the others, whatever is to follow. Assumes nothing.
use mathlib.Core.Path.{◌≡◌, refl, sym, ap, ◌∙◌}
use mathlib.Core.List.{List, ◌∷◌}
use Prim.Native.Nat.{ℕ, suc}
use lib.IntN.{ℤ}
use lib.Ieee.{Float}
use Rattle.std.specs.Prelude.{Result, Ok, Err}
use Rattle.refusal.specs.declared.Refusal.{Refusal}
use Rattle.units.specs.declared.Unit.{Unit}
use Rattle.units.specs.Point.{Point}
use Rattle.conversion.specs.declared.Entry.{Entry}
use Rattle.conversion.specs.declared.GdsRoundingPolicy.{GdsRoundingPolicy}
use Rattle.conversion.specs.code.Fold.{run}
use Rattle.conversion.specs.code.Answer.{grid_point_of}
use Rattle.conversion.specs.Points.{write_point, write_points}
use Rattle.conversion.proofs.FoldLaws.{run_bind, run-map, run-same}
use Rattle.steps.proofs.StepLaws.{run-through}
use Rattle.coordinate.specs.declared.Pointed.{Pointed}
use Rattle.coordinate.specs.code.Coordinate.{pointed, GivesPoint}

module _ {R : Type 0} (stop : Refusal → R) where
  -- what is left after a point
  abbrev pub spread : (Point ℤ → Entry → R) → Result Pointed Refusal → R
  spread k (Err x) = stop x
  spread k (Ok v) = k (grid_point_of v.point) v.entry

  module _ (policy : GdsRoundingPolicy) (d : Float) (e : Entry) (i : ℕ) (p : Point Unit) (ps : List (Point Unit)) (k : List (Point ℤ) → Entry → R) where
    -- the other points, after the first is q
    abbrev pub others : Point ℤ → Entry → R
    others q e' = run stop e' (write_points policy d (suc i) ps) (λ qs e''. k (q ∷ qs) e'')

    pub turn : run stop e (write_points policy d i (p ∷ ps)) k ≡ run stop e (write_point policy d 0 i p) others
    unfolding write_points
    turn =
        run_bind stop e (write_point policy d 0 i p) _ k
        ∙ run-same stop e (write_point policy d 0 i p) _ _ (λ q e'. run-map stop e' (write_points policy d (suc i) ps) (λ qs. q ∷ qs) k)

    pub first-met : (r : Result Pointed Refusal) → GivesPoint e (write_point policy d 0 i p) r → run stop e (write_points policy d i (p ∷ ps)) k ≡ spread others r
    first-met r c =
        turn
        ∙ sym (run-through Err pointed (spread others) stop others (λ x. refl) (λ q e'. refl) e (write_point policy d 0 i p))
        ∙ ap (spread others) (sym c.is)
