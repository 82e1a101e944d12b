-- A finite double as its bit pattern has it: a sign, and the size as digits times a power of two. Assumes nothing.
use Rattle.std.specs.Prelude.{◌≡◌, Bool, ℕ, ◌*◌, ◌^◌, ◌≤◌, ◌<◌, Float}
use Rattle.binary64.specs.Value.{size_of, negative}

-- x has the sign s, and the size m * 2 ^ j in units of 2 ^ -1074. m has 53 digits at most, and exactly 53 unless j is 0, so that m and j are determined
pub record PartsOf (x : Float) (s : Bool) (m j : ℕ) : Type 0 where
  pub sign : negative x ≡ s
  pub size : size_of x ≡ m * 2 ^ j
  pub digits : m < 2 ^ 53
  pub power : j < 2046
  pub lead : 0 < j → 2 ^ 52 ≤ m
