-- The power of two of a significand's last digit, counted in units of 2 ^ -1074. Assumes nothing.
use Rattle.std.specs.Prelude.{ℕ, ◌+◌, ◌-◌}

-- where the binary exponent is 0: 52 digits stand after the first
abbrev pub zero_power : ℕ
zero_power = 1022

-- "below 2^-260, or from 2^252" is refused: the least power of what is not, and the first beyond
abbrev pub least_power : ℕ
least_power = zero_power - 260

abbrev pub end_power : ℕ
end_power = zero_power + 252
