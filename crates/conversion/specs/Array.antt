-- An array's conversions (document 01, "Result two"; `write_reference_cell` of write/mod.rs): always through doubles, with no bypass. Assumes nothing.
use Rattle.std.proofs.Math.Option.{Option, none, some}
use Rattle.std.specs.Prelude.{ℕ, ℤ, pos, Float}
use Rattle.std.specs.Float.{binary64}
use Rattle.std.specs.Float.Ieee.{mul, neg, of_int}
use Rattle.binary64.specs.Value.{zero64}
use Rattle.binary64.specs.Fma.{fma}
use Rattle.units.specs.declared.Unit.{Unit}
use Rattle.units.specs.Physical.{physical}
use Rattle.units.specs.Point.{Point}
use Rattle.conversion.specs.declared.GdsRoundingPolicy.{GdsRoundingPolicy}
use Rattle.conversion.specs.Made.{Made, Done, pure, ◌>>=◌, ◌>>◌}
use Rattle.conversion.specs.Field.{origin_field, column_spacing_field, row_spacing_field, column_endpoint_field, row_endpoint_field, x_axis, y_axis}
use Rattle.conversion.specs.Convert.{physical_value, convert_physical, array_endpoint}
use Rattle.conversion.specs.Points.{spot}

-- ---- physical values

-- the physical values of a point, x before y; `to_float_unit` keeps them (units, FloatUnit)
unfoldable pub physical_point : Point Unit → Made (Point Float)
physical_point p = do
  x ← physical_value p.x
  y ← physical_value p.y
  pure (record { x = x; y = y })

-- "absent spacing is zero"
unfoldable pub physical_spacing : Option (Point Unit) → Made (Point Float)
physical_spacing none = pure (record { x = zero64; y = zero64 })
physical_spacing (some p) = physical_point p

-- what they are where they are not refused
abbrev pub physical_at : Point Unit → Point Float
physical_at p = record { x = physical p.x; y = physical p.y }

abbrev pub spacing_at : Option (Point Unit) → Point Float
spacing_at none = record { x = zero64; y = zero64 }
spacing_at (some p) = physical_at p

-- "Turned column spacing, from (a, b): x is `mul_add` of a, cosine and −(b × sine); y is `mul_add` of a, sine and b × cosine. Row spacing likewise."
unfoldable pub turned : Float → Float → Point Float → Point Float
turned sine cosine p =
    record {
      x = fma binary64 p.x cosine (neg (mul binary64 p.y sine));
      y = fma binary64 p.x sine (mul binary64 p.y cosine);
    }

-- an endpoint's "physical value is `mul_add` of turned spacing, count, origin"
abbrev pub endpoint_physical : Float → ℕ → Float → Float
endpoint_physical a n o = fma binary64 a (of_int binary64 (pos n)) o

-- ---- database values, under a policy and a database unit

-- an array's database values: its first point, and the steps from column to column and from row to row
pub record ArrayPoints : Type 0 where
  pub origin : Point ℤ
  pub column_step : Point ℤ
  pub row_step : Point ℤ

module _ (policy : GdsRoundingPolicy) (d : Float) where
  -- x before y
  unfoldable pub write_physical : ℕ → Point Float → Made (Point ℤ)
  write_physical f p = do
    x ← convert_physical policy d (spot f x_axis 0) p.x
    y ← convert_physical policy d (spot f y_axis 0) p.y
    pure (record { x = x; y = y })

  -- the endpoint of n steps a from the origin o, and its deviation from n turned spacings pa from po
  unfoldable pub write_endpoint : ℕ → Point ℤ → Point ℤ → ℕ → Point Float → Point Float → Made Done
  write_endpoint f o a n po pa = do
    x ← array_endpoint d (spot f x_axis 0) o.x a.x n (endpoint_physical pa.x n po.x)
    y ← array_endpoint d (spot f y_axis 0) o.y a.y n (endpoint_physical pa.y n po.y)
    pure tt

  -- the origin; then all four physical values of the spacings before the first turned one is converted; then the endpoints
  unfoldable pub convert_array : Float → Float → ℕ → ℕ → Point Unit → Option (Point Unit) → Option (Point Unit) → Made ArrayPoints
  convert_array sine cosine columns rows origin column_spacing row_spacing = do
    po ← physical_point origin
    o ← write_physical origin_field po
    pc ← physical_spacing column_spacing
    pr ← physical_spacing row_spacing
    a ← write_physical column_spacing_field (turned sine cosine pc)
    b ← write_physical row_spacing_field (turned sine cosine pr)
    write_endpoint column_endpoint_field o a columns po (turned sine cosine pc)
    write_endpoint row_endpoint_field o b rows po (turned sine cosine pr)
    pure (record { origin = o; column_step = a; row_step = b })
