-- The three directions of rounding to a whole number. Assumes nothing.
use Rattle.std.specs.Prelude.{Bool, not, cond, ℕ, ℤ, Float}
use Rattle.binary64.specs.declared.Direction.{Direction}
use Rattle.binary64.specs.declared.Direction.TheVariants.{Nearest, Down, Up}
use Rattle.binary64.specs.Value.{half_up, cut_down, cut_up, round_away, floor_of, ceil_of}

-- the rounding that each direction names
abbrev pub rounded : Direction → Float → ℤ
rounded Nearest = round_away
rounded Down = floor_of
rounded Up = ceil_of

-- the size of what a number of n units with the sign s is rounded to: down is up in size for a negative one
abbrev pub size_toward : Direction → Bool → ℕ → ℕ
size_toward Nearest s n = half_up n
size_toward Down s n = cond s (cut_up n) (cut_down n)
size_toward Up s n = cond (not s) (cut_up n) (cut_down n)
