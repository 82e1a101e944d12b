-- A box's closure check cannot fail (document 02, request 3: "closure check included"). Assumes nothing.
use Rattle.std.specs.Prelude.{◌≡◌, List, T, ℤ, Float}
use Rattle.units.specs.declared.Unit.{Unit}
use Rattle.units.specs.Point.{Point}
use Rattle.conversion.specs.declared.GdsRoundingPolicy.{GdsRoundingPolicy}
use Rattle.conversion.specs.declared.Deviation.{Deviation}
use Rattle.conversion.specs.Made.{made}
use Rattle.conversion.specs.Points.{write_points}
use Rattle.cell.specs.Write.{closed, box_points}

-- for every policy, unit and two corners: where the five points are converted, the first is the last
abbrev pub BoxCloses : Type 0
BoxCloses = (policy : GdsRoundingPolicy) (d : Float) (first second : Point Unit) (ps : List (Point ℤ)) (vs : List Deviation)
    → write_points policy d 0 (box_points first second) ≡ made ps vs → T (closed ps)
