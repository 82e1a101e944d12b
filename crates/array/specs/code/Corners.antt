-- What the code of an array's conversions answers (document 01, "Result two", second paragraph; `write_reference_cell` of write/mod.rs): the definition's steps
-- run against the element's entry. Assumes nothing.
use Rattle.std.specs.Prelude.{◌≡◌, true, ℕ, ◌+◌, ◌≤◌, T, ℤ, Float, Result, Ok, Err}
use Rattle.std.proofs.Math.Option.{Option}
use Rattle.refusal.specs.declared.Refusal.{Refusal}
use Rattle.units.specs.declared.Unit as U
use Rattle.units.specs.Point.{Point, endpoint}
use Rattle.conversion.specs.declared.Entry.{Entry}
use Rattle.conversion.specs.declared.PhysicalPoint.{PhysicalPoint}
use Rattle.conversion.specs.declared.GdsRoundingPolicy.{GdsRoundingPolicy}
use Rattle.conversion.specs.Made.{Made, Done, refused, pure, ◌>>=◌, ◌>>◌}
use Rattle.conversion.specs.code.Answer.{point_of, grid_point_of}
use Rattle.conversion.specs.Array.{ArrayPoints, physical_spacing, turned, write_physical, write_endpoint}
use Rattle.conversion.specs.Field.{column_spacing_field, row_spacing_field, column_endpoint_field, row_endpoint_field}
use Rattle.conversion.specs.code.Fold.{run}
use Rattle.coordinate.specs.declared.Pointed.{Pointed}
use Rattle.coordinate.specs.code.Coordinate.{at_point, pointed, PointGrown}
use Rattle.array.specs.declared.ArrayPoint.{ArrayPoint}
use Rattle.array.specs.declared.Converted.{Converted}
use Rattle.array.specs.declared.Corners.{Corners}
use Rattle.array.specs.declared.Array.{Array}

-- the most deviations of an array: its origin, two steps and two endpoints, of two coordinates each
abbrev pub array_deviations : ℕ
array_deviations = 10

-- ---- physical values

abbrev pub physicals_of : Result PhysicalPoint Refusal → Made (Point Float)
physicals_of (Err r) = refused r
physicals_of (Ok p) = pure (point_of p)

abbrev pub at_physical : Point Float → PhysicalPoint
at_physical p = record { x = p.x; y = p.y }

-- ---- a point or a step with its physical values

abbrev pub physical_part : ArrayPoint → Point Float
physical_part p = point_of p.physical

abbrev pub database_part : ArrayPoint → Point ℤ
database_part p = grid_point_of p.database

-- the database values q of the physical values p
abbrev pub converted : Point Float → Point ℤ → Entry → Result Converted Refusal
converted p q e = Ok (record { point = record { physical = at_physical p; database = at_point q }; entry = e })

-- at most two deviations more
abbrev pub Grown : ℕ → Result Converted Refusal → Type 0
Grown n (Err r) = T true
Grown n (Ok v) = v.entry.count ≤ n + 2

-- the answer is the step's
pub record GivesArrayPoint (e : Entry) (p : Point Float) (m : Made (Point ℤ)) (r : Result Converted Refusal) : Type 0 where
  pub is : r ≡ run Err e m (converted p)
  pub grown : Grown e.count r

-- ---- an endpoint

-- so many steps a from the origin o
abbrev pub end_of : Point ℤ → Point ℤ → ℕ → Point ℤ
end_of o a n = record { x = endpoint o.x a.x n; y = endpoint o.y a.y n }

-- the answer is the step's refusal, or the endpoint q
pub record Ends (e : Entry) (q : Point ℤ) (m : Made Done) (r : Result Pointed Refusal) : Type 0 where
  pub is : r ≡ run Err e m (λ t e'. pointed q e')
  pub grown : PointGrown e.count r

-- ---- the array: its origin and its steps, and the endpoints of its columns and its rows

abbrev pub corners_for : ℕ → ℕ → ArrayPoints → Corners
corners_for columns rows ps =
    record {
      origin = at_point ps.origin;
      column_step = at_point ps.column_step;
      row_step = at_point ps.row_step;
      column_end = at_point (end_of ps.origin ps.column_step columns);
      row_end = at_point (end_of ps.origin ps.row_step rows);
    }

-- the origin and the steps of them
abbrev pub steps_of : Corners → ArrayPoints
steps_of c = record { origin = grid_point_of c.origin; column_step = grid_point_of c.column_step; row_step = grid_point_of c.row_step }

abbrev pub cornered : ℕ → ℕ → ArrayPoints → Entry → Result Array Refusal
cornered columns rows ps e = Ok (record { corners = corners_for columns rows ps; entry = e })

-- ---- the definition of the conversions in parts, each all that is left at its place

module _ (policy : GdsRoundingPolicy) (d : Float) (columns rows : ℕ) where
  -- after the steps a and b, of physical values pa and pb, from the origin o, of physical values po: the endpoints
  unfoldable pub after_steps : Point Float → Point ℤ → Point Float → Point Float → Point ℤ → Point ℤ → Made ArrayPoints
  after_steps po o pa pb a b = do
    write_endpoint policy d column_endpoint_field o a columns po pa
    write_endpoint policy d row_endpoint_field o b rows po pb
    pure (record { origin = o; column_step = a; row_step = b })

  -- after the turned spacings
  unfoldable pub after_spacings : Point Float → Point ℤ → Point Float → Point Float → Made ArrayPoints
  after_spacings po o pa pb = do
    a ← write_physical policy d column_spacing_field pa
    b ← write_physical policy d row_spacing_field pb
    after_steps po o pa pb a b

  -- after the origin
  unfoldable pub after_origin : Float → Float → Option (Point U.Unit) → Option (Point U.Unit) → Point Float → Point ℤ → Made ArrayPoints
  after_origin sine cosine column_spacing row_spacing po o = do
    pc ← physical_spacing column_spacing
    pr ← physical_spacing row_spacing
    after_spacings po o (turned sine cosine pc) (turned sine cosine pr)
