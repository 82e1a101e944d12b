-- A rounding of any double to a whole number, as far as there is one. Assumes nothing.
use Rattle.std.specs.Prelude.{◌*◌, ◌^◌, cond, ℤ, nat_lt, Float}
use Rattle.std.specs.Float.Ieee.Scale.{finite}
use Rattle.binary64.specs.Value.{unit, size_of}
use Rattle.test_arithmetic.specs.declared.Whole.{Whole}
use Rattle.test_arithmetic.specs.declared.Whole.TheVariants.{NotFinite, Beyond, At}

-- The whole number that f gives for x, where x is finite and below 2 ^ 52 in size.
-- From 2 ^ 52 on every double is a whole number, so that nothing is left to round, and far beyond the 32 bits of a database value.
unfoldable pub whole_of : (Float → ℤ) → Float → Whole
whole_of f x = cond (finite x) (cond (nat_lt (size_of x) (2 ^ 52 * unit)) (At (f x)) Beyond) NotFinite
