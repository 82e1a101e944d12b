-- How near a database value is to a physical value. The bounds are demand 3's own: "within e units of its physical value divided by the exact unit: e is 1/2 + 2^-22 for
-- nearest, 1 + 2^-22 for floor and ceiling, 2^-20 for strict". `scaled x` is the whole number x * 2 ^ 1074 of a double x; "the bounds of demand 3 are stated over them,
-- multiplied out by d and 2^22" (document 01, "Eight-byte reals"). Assumes nothing.
use Rattle.std.specs.Prelude.{ℕ, ◌+◌, ◌*◌, ◌^◌, ◌≤◌, ℤ, nat_abs, ◌-ℤ◌, ◌*ℤ◌, Float}
use Rattle.binary64.specs.Value.{scaled}
use Rattle.conversion.specs.declared.GdsRoundingPolicy.{GdsRoundingPolicy}
use Rattle.conversion.specs.declared.GdsRoundingPolicy.TheVariants.{Nearest, Floor, Ceil, ErrorIfOffGrid}

-- How far a database value may lie from its physical value, in 2 ^ -22 of the database unit: half a unit for nearest, a whole one for floor and ceiling,
-- and 1 more, as the quotient s is itself rounded. Strict gives 4, which is 2 ^ -20 of a unit: s lies within one step of a whole number.
abbrev pub allowance : GdsRoundingPolicy → ℕ
allowance Nearest = 2 ^ 21 + 1
allowance Floor = 2 ^ 22 + 1
allowance Ceil = 2 ^ 22 + 1
allowance ErrorIfOffGrid = 4

-- | q * d - P | * 2 ^ 22 ≤ n * d, with d and P as whole numbers of 2 ^ -1074
abbrev pub Close : ℕ → Float → ℤ → ℤ → Type 0
Close n d P q = nat_abs (q *ℤ scaled d -ℤ P) * 2 ^ 22 ≤ n * nat_abs (scaled d)
