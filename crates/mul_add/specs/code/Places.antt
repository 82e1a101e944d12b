-- The places that `mul_add` counts with, each with its reason. The code's constants have the same names. binary64's `prec`, `emax` and `low` are 53, 1023 and 1074 (IEEE 754, table 3.5). Assumes nothing.
use Rattle.std.specs.Prelude.{ℕ, ◌+◌, ◌-◌, ◌*◌, ◌^◌}
use Rattle.std.specs.Float.{binary64}
use Rattle.std.specs.Float.Ieee.{prec, emax, low}

-- the binary digits of a word
abbrev pub word : ℕ
word = 64

-- Every number that is added or rounded is a fraction over 2 ^ scale.
-- A double is a whole number of 2 ^ -1074, so a product of two is one of 2 ^ -(2 * 1074). Each factor's power is counted with a word's digits more, so that it is never negative.
abbrev pub scale : ℕ
scale = 2 * low binary64 + 2 * word

-- The addend's 63 digits are moved up by so many places, to be as long as a product of two such numbers.
abbrev pub raise : ℕ
raise = 62

-- It is a whole number of 2 ^ -1074, counted with a word's digits more, and then moved up. So over 2 ^ scale its power is larger by the rest.
abbrev pub addend : ℕ
addend = scale - low binary64 - word - raise

-- An n of a whole word, as n * 2 ^ e over 2 ^ (scale + word), is n * 2 ^ e / 2 ^ unit_place smallest doubles, of 2 ^ -1074 each.
abbrev pub unit_place : ℕ
unit_place = scale + word - low binary64

-- the digits of a whole word that a double has no room for
abbrev pub excess : ℕ
excess = word - prec binary64

-- from this e on, n * 2 ^ e has 53 digits above the smallest double's place, or more: it is normal
abbrev pub normal_from : ℕ
normal_from = unit_place - excess

-- from this e on, n * 2 ^ e is past the largest double: the exponent's field has no number for it
abbrev pub infinite_from : ℕ
infinite_from = normal_from + 2 * emax binary64

-- A pattern (IEEE 754, 3.4) has 52 digits below the exponent's field, so that one more in the field counts as much as the leading digit, which is not written. The sign stands above both.
abbrev pub hidden : ℕ
hidden = 2 ^ (prec binary64 - 1)

abbrev pub sign_bit : ℕ
sign_bit = 2 ^ (word - 1)

-- an infinity's exponent is all ones: one more than the largest double's
abbrev pub infinity : ℕ
infinity = (2 * emax binary64 + 1) * hidden
