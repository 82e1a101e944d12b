-- Points and path lengths converted in turn (document 01, "Result two"; write/mod.rs), under a policy and a database unit. Assumes nothing.
use Rattle.std.proofs.Math.Option.{Option, none, some}
use Rattle.std.specs.Prelude.{List, [], ◌∷◌, ℕ, suc, ℤ, Float}
use Rattle.units.specs.declared.Unit.{Unit}
use Rattle.units.specs.Point.{Point}
use Rattle.conversion.specs.declared.GdsRoundingPolicy.{GdsRoundingPolicy}
use Rattle.conversion.specs.Made.{Made, pure, ◌>>=◌}
use Rattle.conversion.specs.Field.{point_field, x_axis, y_axis, no_axis}
use Rattle.conversion.specs.Convert.{Spot, convert_unit}

-- a field, its axis, and the point's place
abbrev pub spot : ℕ → ℕ → ℕ → Spot
spot f a k = record { field = f; axis = a; place = k }

module _ (policy : GdsRoundingPolicy) (d : Float) where
  -- x before y
  unfoldable pub write_point : ℕ → ℕ → Point Unit → Made (Point ℤ)
  write_point f k p = do
    x ← convert_unit policy d (spot f x_axis k) p.x
    y ← convert_unit policy d (spot f y_axis k) p.y
    pure (record { x = x; y = y })

  -- all points of a list in turn, from place k on
  unfoldable pub write_points : ℕ → List (Point Unit) → Made (List (Point ℤ))
  write_points k [] = pure []
  write_points k (p ∷ ps) = do
    q ← write_point point_field k p
    qs ← write_points (suc k) ps
    pure (q ∷ qs)

  -- a path length that may be absent
  unfoldable pub write_length : ℕ → Option Unit → Made (Option ℤ)
  write_length f none = pure none
  write_length f (some u) = do
    q ← convert_unit policy d (spot f no_axis 0) u
    pure (some q)
