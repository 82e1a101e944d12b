-- What the code answers for one value and one point of the grid: the definition's step run against the element's entry (document 01, "Result two" and "Result three";
-- `write_points_to_file` of write/mod.rs). Assumes nothing.
use Rattle.std.specs.Prelude.{◌≡◌, true, ℕ, ◌+◌, ◌≤◌, T, ℤ, Result, Ok, Err, Option, Some, None}
use Rattle.refusal.specs.declared.Refusal.{Refusal}
use Rattle.units.specs.Point.{Point}
use Rattle.conversion.specs.declared.Conversion.{Conversion}
use Rattle.conversion.specs.declared.Conversion.TheVariants as C
use Rattle.conversion.specs.declared.DatabasePoint.{DatabasePoint}
use Rattle.conversion.specs.declared.Entry.{Entry}
use Rattle.conversion.specs.code.Answer.{outcome}
use Rattle.conversion.specs.Field.{x_axis, y_axis}
use Rattle.conversion.specs.Made.{Made, pure, ◌>>=◌}
use Rattle.conversion.specs.code.Fold.{run}
use Rattle.conversion.specs.Points.{spot}
use Rattle.records.specs.code.Bytes.{record_head, xy_point_length}
use Rattle.coordinate.specs.declared.Valued.{Valued}
use Rattle.coordinate.specs.declared.Pointed.{Pointed}

-- ---- one value

abbrev pub valued : ℤ → Entry → Result Valued Refusal
valued q e = Ok (record { value = q; entry = e })

-- at most one deviation more
abbrev pub ValueGrown : ℕ → Result Valued Refusal → Type 0
ValueGrown n (Err r) = T true
ValueGrown n (Ok v) = v.entry.count ≤ n + 1

-- the answer is the step's
pub record GivesValue (e : Entry) (m : Made ℤ) (r : Result Valued Refusal) : Type 0 where
  pub is : r ≡ run Err e m valued
  pub grown : ValueGrown e.count r

-- ---- one point

-- a point of the definitions, as the code has it
abbrev pub at_point : Point ℤ → DatabasePoint
at_point q = record { x = q.x; y = q.y }

abbrev pub pointed : Point ℤ → Entry → Result Pointed Refusal
pointed q e = Ok (record { point = at_point q; entry = e })

-- at most two deviations more
abbrev pub PointGrown : ℕ → Result Pointed Refusal → Type 0
PointGrown n (Err r) = T true
PointGrown n (Ok v) = v.entry.count ≤ n + 2

pub record GivesPoint (e : Entry) (m : Made (Point ℤ)) (r : Result Pointed Refusal) : Type 0 where
  pub is : r ≡ run Err e m pointed
  pub grown : PointGrown e.count r

-- both coordinates of a point by their conversions, x before y
unfoldable pub both : ℕ → ℕ → Result Conversion Refusal → Result Conversion Refusal → Made (Point ℤ)
both f k cx cy = do
  x ← outcome (spot f x_axis k) cx
  y ← outcome (spot f y_axis k) cy
  pure (record { x = x; y = y })

-- their point where neither is refused and no deviation counts
abbrev pub plain_of : Result Conversion Refusal → Result Conversion Refusal → Option DatabasePoint
plain_of (Ok (C.Converted x)) (Ok (C.Converted y)) = Some (record { x = x; y = y })
plain_of (Ok (C.Converted x)) (Ok (C.Quantized q p e)) = None
plain_of (Ok (C.Converted x)) (Err r) = None
plain_of (Ok (C.Quantized q p e)) cy = None
plain_of (Err r) cy = None

-- ---- an XY of one point

abbrev pub xy_length : ℕ
xy_length = record_head + xy_point_length
