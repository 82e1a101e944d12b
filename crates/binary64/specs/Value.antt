-- A double without its sign; a finite double as a whole number of the format's smallest values, and the whole numbers near it. Assumes nothing.
-- `scaled x` is x * 2 ^ 1074. `floor_of`, `ceil_of` and `round_away` are x rounded down, up, and to the nearest with halves away from zero, as
-- `f64::floor`, `f64::ceil` and `f64::round` have it (IEEE 754, 5.9). Of a NaN or an infinity each of these four is 0: who cares for those asks `finite` first.
use Rattle.std.specs.Prelude.{Bool, false, cond, ℕ, ◌+◌, ◌-◌, ◌*◌, ◌/◌, ◌^◌, eqb, ℤ, pos, negsuc, neg_ℤ, Float}
use Rattle.std.specs.Float.{nan, inf, fin}
use Rattle.std.specs.Float.Ieee.Positive.{num, den}

-- how many smallest values there are in 1: the smallest is 2 ^ -1074
abbrev pub unit : ℕ
unit = 2 ^ 1074

-- the size of x in smallest values. With x = num x / den x it is a whole number for every x that binary64 holds, so that the division is exact
unfoldable pub size_of : Float → ℕ
size_of x = num x * unit / den x

-- n smallest values to a whole number: the nearest with a half up, the one below, the one above
abbrev pub half_up : ℕ → ℕ
half_up n = (2 * n + unit) / (2 * unit)

abbrev pub cut_down : ℕ → ℕ
cut_down n = n / unit

abbrev pub cut_up : ℕ → ℕ
cut_up n = (n + unit - 1) / unit

-- whether x has a minus sign, as -0 does
unfoldable pub negative : Float → Bool
negative nan = false
negative (inf s) = s
negative (fin s m e) = s

-- x without its sign, as `f64::abs` has it (IEEE 754, 5.5.1)
unfoldable pub abs : Float → Float
abs nan = nan
abs (inf s) = inf false
abs (fin s m e) = fin false m e

-- n with a sign: -n where s is true
abbrev pub signed : Bool → ℕ → ℤ
signed s n = cond s (neg_ℤ (pos n)) (pos n)

-- x * 2 ^ 1074
unfoldable pub scaled : Float → ℤ
unfolding size_of negative
scaled x = signed (negative x) (size_of x)

-- z / d rounded down, for a d above 0. `negsuc n` is -(n + 1), and ⌊-(n + 1) / d⌋ = -(⌊n / d⌋ + 1)
unfoldable pub floor_div : ℤ → ℕ → ℤ
floor_div (pos n) d = pos (n / d)
floor_div (negsuc n) d = negsuc (n / d)

-- the largest whole number that is at most x
unfoldable pub floor_of : Float → ℤ
unfolding scaled floor_div
floor_of x = floor_div (scaled x) unit

-- the smallest whole number that is at least x: -⌊-x⌋
unfoldable pub ceil_of : Float → ℤ
unfolding scaled floor_div
ceil_of x = neg_ℤ (floor_div (neg_ℤ (scaled x)) unit)

-- the whole number nearest to x, a half away from zero: the nearest to |x|, a half up, with x's sign
unfoldable pub round_away : Float → ℤ
unfolding size_of negative
round_away x = signed (negative x) (half_up (size_of x))

-- the same whole number
abbrev pub same_int : ℤ → ℤ → Bool
same_int (pos a) (pos b) = eqb a b
same_int (pos a) (negsuc b) = false
same_int (negsuc a) (pos b) = false
same_int (negsuc a) (negsuc b) = eqb a b

-- ---- the doubles 0, with no minus sign, and 1

abbrev pub zero64 : Float
zero64 = fin false 0 (pos 0)

abbrev pub one64 : Float
one64 = fin false 1 (pos 0)
