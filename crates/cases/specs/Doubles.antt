-- Doubles by their bits, and the policies by their numbers, for the rows of Bounds, of Survey and of Sides. Assumes nothing.
use Rattle.std.specs.Prelude.{ℕ, ◌+◌, ◌-◌, ◌^◌}
use Rattle.binary64.specs.Step.{ordered_bits}
use Rattle.cases.specs.Neighbours.{bits_at}

-- the double k steps further up, further down; the same with a minus sign
abbrev pub up : ℕ → ℕ → ℕ
up k b = bits_at (ordered_bits b + k)

abbrev pub down : ℕ → ℕ → ℕ
down k b = bits_at (ordered_bits b - k)

abbrev pub minus : ℕ → ℕ
minus b = b + 2 ^ 63

abbrev pub zero : ℕ
zero = 0

abbrev pub least : ℕ
least = 1

abbrev pub half : ℕ
half = 0x3fe0000000000000

abbrev pub one : ℕ
one = 0x3ff0000000000000

abbrev pub two : ℕ
two = 0x4000000000000000

abbrev pub two_and_half : ℕ
two_and_half = 0x4004000000000000

abbrev pub three : ℕ
three = 0x4008000000000000

-- 2147483647, 2147483647.5, 2147483648, 2147483648.5, 2147483649, 3000000000.5
abbrev pub i32_max : ℕ
i32_max = 0x41dfffffffc00000

abbrev pub i32_max_and_half : ℕ
i32_max_and_half = 0x41dfffffffe00000

abbrev pub i32_over : ℕ
i32_over = 0x41e0000000000000

abbrev pub i32_over_and_half : ℕ
i32_over_and_half = 0x41e0000000100000

abbrev pub i32_over_and_one : ℕ
i32_over_and_one = 0x41e0000000200000

abbrev pub three_milliard_and_half : ℕ
three_milliard_and_half = 0x41e65a0bc0100000

-- half of the greatest double, the greatest double, infinity, a NaN
abbrev pub half_greatest : ℕ
half_greatest = 0x7fdfffffffffffff

abbrev pub greatest : ℕ
greatest = 0x7fefffffffffffff

abbrev pub infinity : ℕ
infinity = 0x7ff0000000000000

abbrev pub nan : ℕ
nan = 0x7ff8000000000000

-- ---- the policies

abbrev pub nearest : ℕ
nearest = 0

abbrev pub floor : ℕ
floor = 1

abbrev pub ceiling : ℕ
ceiling = 2

abbrev pub strict : ℕ
strict = 3
