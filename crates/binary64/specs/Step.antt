-- One step in ordered bits (document 01, "Result two"; `ordered_bits` and `within_one_ulp` of write/conversion.rs), and the double that `f64::round` gives. Assumes nothing.
use Rattle.std.specs.Prelude.{Bool, ◌&&◌, cond, ℕ, ◌+◌, ◌-◌, ◌^◌, leb, Float}
use Rattle.std.specs.Float.{binary64}
use Rattle.std.specs.Float.Ieee.{to_bits, round}
use Rattle.binary64.specs.Value.{size_of, half_up, negative}

-- A bit pattern turned so that the patterns stand in the order of the doubles: of a negative one, from 2 ^ 63 on, every bit is flipped, and of another the sign's bit is set.
unfoldable pub ordered_bits : ℕ → ℕ
ordered_bits b = cond (leb (2 ^ 63) b) (2 ^ 64 - 1 - b) (b + 2 ^ 63)

-- a double's place in that order
unfoldable pub ordered : Float → ℕ
ordered x = ordered_bits (to_bits binary64 x)

-- the two differ by at most one place in that order; the two zeros are neighbours
unfoldable pub one_step : Float → Float → Bool
one_step x y = leb (ordered x) (ordered y + 1) && leb (ordered y) (ordered x + 1)

-- The whole number nearest to a finite x, halves away from zero, as a double. x's sign is kept: -0 for a small negative x, as `f64::round` has it.
unfoldable pub nearest_double : Float → Float
nearest_double x = round binary64 (negative x) (half_up (size_of x)) 1
