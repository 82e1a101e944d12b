-- Lengths known within bounds (document 02, request 11): the least and the greatest database value over all doubles between two ends. Assumes nothing.
use Rattle.std.specs.Prelude.{◌≡◌, Bool, ◌&&◌, ℕ, T, ℤ, ◌≤ℤ◌, Float}
use Rattle.std.specs.Float.{binary64}
use Rattle.std.specs.Float.Ieee.{fits, eq, le}
use Rattle.std.specs.Float.Ieee.Scale.{finite}
use Rattle.refusal.specs.declared.Refusal.TheVariants as R
use Rattle.conversion.specs.declared.GdsRoundingPolicy.{GdsRoundingPolicy}
use Rattle.conversion.specs.declared.GdsRoundingPolicy.TheVariants.{Nearest, Floor, Ceil, ErrorIfOffGrid}
use Rattle.conversion.specs.Made.{Made, pure, need, ◌>>=◌, ◌>>◌}
use Rattle.conversion.specs.Policy.{caller_policy}
use Rattle.conversion.specs.Convert.{database_value}

pub record Range : Type 0 where
  pub least : ℤ
  pub greatest : ℤ

-- ---- the checks, and the answer

-- "32 lower above upper, or strict with unequal ends". The ends are compared as numbers: -0 and +0 are equal.
abbrev pub admitted : GdsRoundingPolicy → Float → Float → Bool
admitted Nearest lower upper = le lower upper
admitted Floor lower upper = le lower upper
admitted Ceil lower upper = le lower upper
admitted ErrorIfOffGrid lower upper = eq lower upper

-- "32 .. after both ends are known to be finite and before their other checks"; "Checks on an end are those of a single conversion, lower end first."
unfoldable pub range_of : GdsRoundingPolicy → Float → Float → Float → Made Range
range_of policy d lower upper = do
  need (finite lower && finite upper) R.NotFinite
  need (admitted policy lower upper) R.Bounds
  a ← database_value policy d lower
  b ← database_value policy d upper
  pure (record { least = a; greatest = b })

-- with the policy by its number: 1 and 2 come first
unfoldable pub convert_bounds : ℕ → Float → Float → Float → Made Range
convert_bounds n d lower upper = do
  policy ← caller_policy n d
  range_of policy d lower upper

-- ---- what the two values are

-- q is "reached by some double in the range"
pub record Reached (policy : GdsRoundingPolicy) (d lower upper : Float) (q : ℤ) : Type 0 where
  pub at : Float
  pub fit : T (fits binary64 at)
  pub above : T (le lower at)
  pub below : T (le at upper)
  pub is : database_value policy d at ≡ pure q

-- the double x is accepted, with a database value from the least to the greatest
pub record Between (policy : GdsRoundingPolicy) (d x : Float) (r : Range) : Type 0 where
  pub value : ℤ
  pub is : database_value policy d x ≡ pure value
  pub least : r.least ≤ℤ value
  pub greatest : value ≤ℤ r.greatest

-- "the least and the greatest database value over all doubles between them, both ends included": both are reached, and no double of the range is refused or lies beyond them
pub record Spans (policy : GdsRoundingPolicy) (d lower upper : Float) (r : Range) : Type 0 where
  pub least : Reached policy d lower upper r.least
  pub greatest : Reached policy d lower upper r.greatest
  pub all : (x : Float) → T (fits binary64 x) → T (le lower x) → T (le x upper) → Between policy d x r

-- So `Spans` fixes both values: at most one range has them.
abbrev pub SpansOne : Type 0
SpansOne = (policy : GdsRoundingPolicy) (d lower upper : Float) (r s : Range) → Spans policy d lower upper r → Spans policy d lower upper s → r ≡ s
