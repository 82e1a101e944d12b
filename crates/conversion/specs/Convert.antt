-- One conversion to the database grid (document 01, "Result two" and "Result three"; document 02, request 2; write/conversion.rs). d is the database unit, p a physical value. Assumes nothing.
use Rattle.std.specs.Prelude.{List, [], ◌∷◌, Bool, not, ◌&&◌, cond, ℕ, ◌^◌, ltb, ℤ, pos, negsuc, Float}
use Rattle.std.proofs.Math.Option.{Option, none, some}
use Rattle.std.specs.Float.{binary64}
use Rattle.std.specs.Float.Ieee.{sub, mul, div, lt, of_int}
use Rattle.std.specs.Float.Ieee.Scale.{finite}
use Rattle.std.specs.Float.Ieee.Positive.{positive}
use Rattle.binary64.specs.Value.{round_away, floor_of, ceil_of, abs, zero64}
use Rattle.binary64.specs.Step.{one_step, nearest_double}
use Rattle.refusal.specs.declared.Refusal.TheVariants as R
use Rattle.units.specs.declared.Unit.{Unit}
use Rattle.units.specs.Point.{endpoint}
use Rattle.units.specs.Physical.{units_of, physical, passed}
use Rattle.conversion.specs.declared.Deviation.{Deviation}
use Rattle.conversion.specs.declared.GdsRoundingPolicy.{GdsRoundingPolicy}
use Rattle.conversion.specs.declared.GdsRoundingPolicy.TheVariants.{Nearest, Floor, Ceil, ErrorIfOffGrid}
use Rattle.conversion.specs.Made.{Made, made, pure, need, ◌>>=◌, ◌>>◌}

-- ---- the database value

-- s is within one step of the whole number nearest to it
unfoldable pub on_grid : Float → Bool
on_grid s = one_step s (nearest_double s)

-- "Nearest takes halves away from zero. The others first snap s to nearest where the two differ by at most one step in ordered bits"; strict refuses what is not snapped.
unfoldable pub rounded : GdsRoundingPolicy → Float → Made ℤ
rounded Nearest s = pure (round_away s)
rounded Floor s = pure (cond (on_grid s) (round_away s) (floor_of s))
rounded Ceil s = pure (cond (on_grid s) (round_away s) (ceil_of s))
rounded ErrorIfOffGrid s = do
  need (on_grid s) R.OffGrid
  pure (round_away s)

-- a signed 32-bit number
abbrev pub in_range : ℤ → Bool
in_range (pos n) = ltb n (2 ^ 31)
in_range (negsuc n) = ltb n (2 ^ 31)

unfoldable pub ranged : ℤ → Made ℤ
ranged q = do
  need (in_range q) R.OutOfRange
  pure q

-- the database value of a scaled value
unfoldable pub grid_value : GdsRoundingPolicy → Float → Made ℤ
grid_value policy s = do
  q ← rounded policy s
  ranged q

-- The database value of a physical value, whatever field it stands in: "In every policy the double quotient p / d, rounded once, is the scaled value s."
unfoldable pub database_value : GdsRoundingPolicy → Float → Float → Made ℤ
database_value policy d p = do
  need (finite p) R.NotFinite
  need (finite (div binary64 p d)) R.NotFinite
  grid_value policy (div binary64 p d)

-- ---- the deviation

-- "the deviation q × d − p with its sign, rounded as before" (document 02, request 2): two roundings, q the database value
unfoldable pub difference : Float → Float → ℤ → Float
difference d p q = sub binary64 (mul binary64 (of_int binary64 q) d) p

-- "It counts where it is above 0 and s and q differ by more than one step, q taken as a double with 0 positive." (document 01); "above 0" is asked of its magnitude
unfoldable pub counts : Float → Float → ℤ → Bool
counts d p q = lt zero64 (abs (difference d p q)) && not (one_step (div binary64 p d) (of_int binary64 q))

-- ---- which field is converted

-- the field and the axis (numbers of specs/Field.antt), and the point's place in its list
pub record Spot : Type 0 where
  pub field : ℕ
  pub axis : ℕ
  pub place : ℕ

-- the deviation of a field, if it counts
unfoldable pub deviations : Float → Spot → Float → ℤ → List Deviation
deviations d at p q =
    cond (counts d p q)
    (record { field = at.field; axis = at.axis; place = at.place; physical = p; database = q; error = difference d p q } ∷ [])
    []

-- `convert_physical`: the database value of p, with its deviation
unfoldable pub convert_physical : GdsRoundingPolicy → Float → Spot → Float → Made ℤ
convert_physical policy d at p = do
  q ← database_value policy d p
  made q (deviations d at p q)

-- `physical_value`: "the unit must be finite and positive", and p finite
unfoldable pub physical_value : Unit → Made Float
physical_value u = do
  need (positive (units_of u)) R.SourceUnit
  need (finite (physical u)) R.NotFinite
  pure (physical u)

-- what passed unchanged, and what is converted by its physical value
unfoldable pub convert_by : GdsRoundingPolicy → Float → Spot → Unit → Option ℤ → Made ℤ
convert_by policy d at u none = do
  p ← physical_value u
  convert_physical policy d at p
convert_by policy d at u (some v) = pure v

-- `convert_unit`: a coordinate
unfoldable pub convert_unit : GdsRoundingPolicy → Float → Spot → Unit → Made ℤ
convert_unit policy d at u = convert_by policy d at u (passed d u)

-- `checked_array_endpoint`: origin o, spacing a and count n in whole numbers, the endpoint's physical value p
unfoldable pub array_endpoint : Float → Spot → ℤ → ℤ → ℕ → Float → Made ℤ
array_endpoint d at o a n p = do
  need (finite p) R.NotFinite
  q ← ranged (endpoint o a n)
  made q (deviations d at p q)
