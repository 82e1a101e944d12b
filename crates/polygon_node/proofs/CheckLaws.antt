-- A shape is its checks, then its points. Assumes nothing.
use mathlib.Core.Path.{◌≡◌, refl, sym, ap, ◌∙◌}
use mathlib.Core.List.{List}
use Prim.Native.Nat.{ℕ, ◌≤◌}
use lib.ListN.{length}
use lib.Ieee.{Float}
use Rattle.std.specs.Prelude.{Err}
use Rattle.refusal.specs.declared.Refusal.{Refusal}
use Rattle.conversion.specs.declared.Entry.{Entry}
use Rattle.conversion.specs.declared.GdsRoundingPolicy.{GdsRoundingPolicy}
use Rattle.conversion.specs.Made.{Made, Done, refused, pure}
use Rattle.conversion.specs.code.Fold.{run}
use Rattle.conversion.specs.Points.{write_points}
use Rattle.conversion.proofs.FoldLaws.{run-map}
use Rattle.sheet.specs.Element as S
use Rattle.stream.specs.Structure as D
use Rattle.cell.specs.Write.{write_shape}
use Rattle.validation.specs.code.Check.{shape_checks}
use Rattle.validation.proofs.CheckLaws.{behind, behind-refused, behind-passed, behind-yields, passed-within}
use Rattle.steps.specs.code.Steps.{Succeeds}
use Rattle.steps.proofs.StepLaws.{yields}
use Rattle.block_places.specs.declared.ShapePlaces.{ShapePlaces}
use Rattle.block_places.specs.code.Places.{points_at, shape_at}
use Rattle.points.specs.code.Walk.{walked}
use Rattle.points.proofs.WalkLaws.{length_from}
use Rattle.polygon_node.specs.code.Shape.{shape_ends, after_checks}

module _ (policy : GdsRoundingPolicy) (d : Float) (least most : ℕ) (e : S.Shape) where
  abbrev checks : Made Done
  checks = shape_checks least (length e.points) most e.layer e.datatype

  shape_is : behind least (length e.points) most e.layer e.datatype (after_checks policy d e) ≡ write_shape policy d least most e
  unfolding write_shape after_checks
  shape_is = refl

  shape-refused : (x : Refusal) → refused x ≡ checks → refused x ≡ write_shape policy d least most e
  shape-refused x h = behind-refused least (length e.points) most e.layer e.datatype (after_checks policy d e) x h ∙ shape_is

  shape-passed : pure tt ≡ checks → after_checks policy d e ≡ write_shape policy d least most e
  shape-passed h = behind-passed least (length e.points) most e.layer e.datatype (after_checks policy d e) h ∙ shape_is

  -- where it succeeds
  module _ (s : Succeeds (write_shape policy d least most e)) where
    passed : pure tt ≡ checks
    unfolding write_shape after_checks
    passed = behind-yields least (length e.points) most e.layer e.datatype (after_checks policy d e) (yields s)

    pub shape-past : write_shape policy d least most e ≡ after_checks policy d e
    shape-past = sym (shape-passed passed)

    pub shape-counted : length e.points ≤ most
    shape-counted = (passed-within least (length e.points) most e.layer e.datatype passed).1

-- ---- measured: the ends of the shape at s, whose points the code counts

module _ (policy : GdsRoundingPolicy) (d : Float) (least most : ℕ) (b : List ℕ) (s : ShapePlaces) (e : Entry) where
  abbrev counted : Made Done
  counted = shape_checks least s.points.count most s.layer s.datatype

  counted_is : counted ≡ checks policy d least most (shape_at b s)
  unfolding shape_at
  counted_is = ap (λ (n : ℕ). shape_checks least n most s.layer s.datatype) (sym (length_from s.points.count b s.points.place))

  pub shape-stops : (x : Refusal) → refused x ≡ counted → Err x ≡ run Err e (write_shape policy d least most (shape_at b s)) shape_ends
  unfolding run
  shape-stops x h = ap (λ (m : Made D.Shape). run Err e m shape_ends) (shape-refused policy d least most (shape_at b s) x (h ∙ counted_is))

  pub shape-goes-on : pure tt ≡ counted → run Err e (write_points policy d 0 (points_at b s.points)) walked ≡ run Err e (write_shape policy d least most (shape_at b s)) shape_ends
  unfolding after_checks shape_at
  shape-goes-on h =
      sym (run-map Err e (write_points policy d 0 (points_at b s.points)) (λ ps. record { layer = s.layer; datatype = s.datatype; points = ps }) shape_ends)
      ∙ ap (λ (m : Made D.Shape). run Err e m shape_ends) (shape-passed policy d least most (shape_at b s) (h ∙ counted_is))
