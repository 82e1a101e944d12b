-- The pattern of a rounded number (IEEE 754, 3.4). Assumes nothing.
use Rattle.std.specs.Prelude.{◌≡◌, Bool, cond, ℕ, ◌+◌, ◌*◌, ◌^◌, ◌≤◌}
use Rattle.std.specs.Float.{binary64}
use Rattle.std.specs.Float.Ieee.{round, of_bits}
use Rattle.mul_add.specs.code.Places.{scale, sign_bit, infinity}

-- r is the pattern, with no sign, of m * 2 ^ p over 2 ^ scale, rounded: of one of the doubles from zero to infinity
pub record Pattern (m p r : ℕ) : Type 0 where
  pub value : (s : Bool) → round binary64 s (m * 2 ^ p) (2 ^ scale) ≡ of_bits binary64 (cond s sign_bit 0 + r)
  pub small : r ≤ infinity
