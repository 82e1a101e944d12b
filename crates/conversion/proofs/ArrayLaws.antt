-- What an accepted array is: its origin and steps are conversions of their physical values, so every instance is close to its own, and its endpoints are in range. Assumes nothing.
use mathlib.Core.Path.{◌≡◌, sym, ap₂, ◌∙◌, subst}
use mathlib.Core.Option.{Option, none, some}
use Prim.Native.Nat.{ℕ, ◌+◌, ◌*◌}
use lib.Dec.{T}
use lib.IntN.{ℤ, pos, ◌+ℤ◌, ◌*ℤ◌}
use lib.Ieee.{Float, binary64, fits, mul, neg}
use lib.Ieee.Positive.{positive}
use Rattle.binary64.specs.Value.{scaled}
use Rattle.binary64.proofs.FmaFits.{fma-fits}
use Rattle.units.specs.declared.Unit.{Unit}
use Rattle.units.specs.Physical.{physical}
use Rattle.units.specs.Point.{Point, endpoint}
use Rattle.conversion.specs.declared.GdsRoundingPolicy.{GdsRoundingPolicy}
use Rattle.conversion.specs.Field.{origin_field, column_spacing_field, row_spacing_field, column_endpoint_field, row_endpoint_field, x_axis, y_axis}
use Rattle.conversion.specs.Convert.{in_range}
use Rattle.conversion.specs.Points.{spot}
use Rattle.conversion.specs.Array.{physical_point, physical_spacing, physical_at, spacing_at, turned, endpoint_physical, ArrayPoints, write_physical, write_endpoint, convert_array}
use Rattle.conversion.specs.Close.{allowance, Close}
use Rattle.conversion.proofs.MadeLaws.{Yields, made_yields, steps, then-steps}
use Rattle.conversion.proofs.ConvertLaws.{Converted, physical-converted, physical-fits, physical-value-is, endpoint-in-range}
use Rattle.conversion.proofs.Instances.{close-sum}

-- ---- physical values

pub physical-point-is : (p : Point Unit) (q : Point Float) → Yields (physical_point p) q → physical_at p ≡ q
unfolding physical_point
physical-point-is p q y =
    let k1 = steps y in
    let k2 = steps k1.then in
    ap₂ (λ (a b : Float). record { x = a; y = b }) (physical-value-is p.x k1.value k1.first) (physical-value-is p.y k2.value k2.first) ∙ made_yields k2.then

pub spacing-is : (p : Option (Point Unit)) (q : Point Float) → Yields (physical_spacing p) q → spacing_at p ≡ q
unfolding physical_spacing
spacing-is none q y = made_yields y
spacing-is (some p) q y = physical-point-is p q y

-- both values of a point are doubles
pub record FitsPoint (p : Point Float) : Type 0 where
  pub x : T (fits binary64 p.x)
  pub y : T (fits binary64 p.y)

pub turned-fits : (sine cosine : Float) (p : Point Float) → FitsPoint (turned sine cosine p)
unfolding turned
turned-fits sine cosine p = record {
  x = fma-fits binary64 p.x cosine (neg (mul binary64 p.y sine));
  y = fma-fits binary64 p.x sine (mul binary64 p.y cosine);
}

physical-at-fits : (p : Point Unit) → FitsPoint (physical_at p)
physical-at-fits p = record { x = physical-fits p.x; y = physical-fits p.y }

-- ---- database values

-- an endpoint in range on both axes
pub record EndpointInRange (o a : Point ℤ) (n : ℕ) : Type 0 where
  pub x : T (in_range (endpoint o.x a.x n))
  pub y : T (in_range (endpoint o.y a.y n))

pub endpoint-ranged : (policy : GdsRoundingPolicy) (d : Float) (f : ℕ) (o a : Point ℤ) (n : ℕ) (po pa : Point Float) (u : _) → Yields (write_endpoint policy d f o a n po pa) u → EndpointInRange o a n
unfolding write_endpoint
endpoint-ranged policy d f o a n po pa u y =
    let k1 = steps y in
    let k2 = steps k1.then in
    record {
      x = endpoint-in-range d (spot f x_axis 0) o.x a.x n (endpoint_physical pa.x n po.x) k1.value k1.first;
      y = endpoint-in-range d (spot f y_axis 0) o.y a.y n (endpoint_physical pa.y n po.y) k2.value k2.first;
    }

-- on one axis: the conversions of the origin and of the two turned spacings
pub record AxisConverted (policy : GdsRoundingPolicy) (d po pa pb : Float) (o a b : ℤ) : Type 0 where
  pub origin : Converted policy d po o
  pub column : Converted policy d pa a
  pub row : Converted policy d pb b

-- THE BOUND OF AN ARRAY, for every policy and every i and j
pub instances-close : (policy : GdsRoundingPolicy) (d po pa pb : Float) (o a b : ℤ) → AxisConverted policy d po pa pb o a b → (i j : ℕ)
    → Close ((1 + i + j) * allowance policy) d (scaled po +ℤ pos i *ℤ scaled pa +ℤ pos j *ℤ scaled pb) (o +ℤ pos i *ℤ a +ℤ pos j *ℤ b)
instances-close policy d po pa pb o a b c i j = close-sum (allowance policy) i j d o a b (scaled po) (scaled pa) (scaled pb) c.origin.close c.column.close c.row.close

module _ (policy : GdsRoundingPolicy) (d : Float) (D : T (fits binary64 d)) (b : T (positive d)) where
  -- two physical values, converted
  pub record PointConverted (p : Point Float) (q : Point ℤ) : Type 0 where
    pub x : Converted policy d p.x q.x
    pub y : Converted policy d p.y q.y

  pub point-converted : (f : ℕ) (p : Point Float) (q : Point ℤ) → FitsPoint p → Yields (write_physical policy d f p) q → PointConverted p q
  unfolding write_physical
  point-converted f p q F y =
      let k1 = steps y in
      let k2 = steps k1.then in
      subst (λ (z : Point ℤ). PointConverted p z) (made_yields k2.then)
      (record {
        x = physical-converted policy d (spot f x_axis 0) p.x k1.value D b F.x k1.first;
        y = physical-converted policy d (spot f y_axis 0) p.y k2.value D b F.y k2.first;
      })

  module _ (sine cosine : Float) (columns rows : ℕ) (origin : Point Unit) (column_spacing row_spacing : Option (Point Unit)) where
    -- the turned spacings' physical values
    abbrev pub turned_column : Point Float
    turned_column = turned sine cosine (spacing_at column_spacing)

    abbrev pub turned_row : Point Float
    turned_row = turned sine cosine (spacing_at row_spacing)

    pub record ArrayConverted (ps : ArrayPoints) : Type 0 where
      pub x : AxisConverted policy d (physical origin.x) turned_column.x turned_row.x ps.origin.x ps.column_step.x ps.row_step.x
      pub y : AxisConverted policy d (physical origin.y) turned_column.y turned_row.y ps.origin.y ps.column_step.y ps.row_step.y
      pub column_end : EndpointInRange ps.origin ps.column_step columns
      pub row_end : EndpointInRange ps.origin ps.row_step rows

    -- the parts, put together by axis
    joined : (o s t : Point ℤ) → PointConverted (physical_at origin) o → PointConverted turned_column s → PointConverted turned_row t
        → EndpointInRange o s columns → EndpointInRange o t rows → ArrayConverted (record { origin = o; column_step = s; row_step = t })
    joined o s t po pc pr ec er = record {
      x = record { origin = po.x; column = pc.x; row = pr.x };
      y = record { origin = po.y; column = pc.y; row = pr.y };
      column_end = ec;
      row_end = er;
    }

    pub array-converted : (ps : ArrayPoints) → Yields (convert_array policy d sine cosine columns rows origin column_spacing row_spacing) ps → ArrayConverted ps
    unfolding convert_array
    array-converted ps y =
        let k1 = steps y in
        let k2 = steps k1.then in
        let k3 = steps k2.then in
        let k4 = steps k3.then in
        let k5 = steps k4.then in
        let k6 = steps k5.then in
        let k7 = then-steps k6.then in
        let k8 = then-steps k7.then in
        let eo = physical-point-is origin k1.value k1.first in
        let ec = spacing-is column_spacing k3.value k3.first in
        let er = spacing-is row_spacing k4.value k4.first in
        let po = point-converted origin_field (physical_at origin) k2.value (physical-at-fits origin) (subst (λ (p : Point Float). Yields (write_physical policy d origin_field p) k2.value) (sym eo) k2.first) in
        let pc : PointConverted turned_column k5.value
        = subst (λ (p : Point Float). PointConverted (turned sine cosine p) k5.value) (sym ec) (point-converted column_spacing_field _ k5.value (turned-fits sine cosine k3.value) k5.first) in
        let pr : PointConverted turned_row k6.value
        = subst (λ (p : Point Float). PointConverted (turned sine cosine p) k6.value) (sym er) (point-converted row_spacing_field _ k6.value (turned-fits sine cosine k4.value) k6.first) in
        subst ArrayConverted (made_yields k8.then)
        (joined k2.value k5.value k6.value po pc pr
        (endpoint-ranged policy d column_endpoint_field k2.value k5.value columns k1.value (turned sine cosine k3.value) _ k7.first)
        (endpoint-ranged policy d row_endpoint_field k2.value k6.value rows k1.value (turned sine cosine k4.value) _ k8.first))
