-- The definitions at single doubles, worked out: each list of rows is one proof. Assumes nothing.
use mathlib.Core.Path.{◌≡◌, refl}
use mathlib.Core.Bool.{Bool, true, false}
use mathlib.Core.List.{List, [], ◌∷◌, map}
use Prim.Native.Nat.{ℕ}
use lib.IntN.{ℤ, pos, negsuc}
use lib.Ieee.{Float, fin, inf, nan, binary64, of_bits, to_bits, round}
use Rattle.binary64.specs.Value.{size_of, negative, round_away, floor_of, ceil_of}
use Rattle.binary64.specs.Step.{ordered_bits, ordered, one_step, nearest_double}
use Rattle.binary64.specs.Fma.{fma}

abbrev double : ℕ → Float
double b = of_bits binary64 b

-- a double by its pattern: to the nearest whole number, down, up (`negsuc n` is -(n + 1)), and the pattern of the nearest as a double, which keeps the sign
pub data Row : Type 0 where
  row : ℕ → ℤ → ℤ → ℤ → ℕ → Row

abbrev worked : Row → Row
worked (row b n d u k) = row b (round_away (double b)) (floor_of (double b)) (ceil_of (double b)) (to_bits binary64 (nearest_double (double b)))

pub roundings : List Row
roundings =
    row 0x4004_0000_0000_0000 (pos 3) (pos 2) (pos 3) 0x4008_0000_0000_0000  -- 2.5
    ∷ row 0xc004_0000_0000_0000 (negsuc 2) (negsuc 2) (negsuc 1) 0xc008_0000_0000_0000  -- -2.5
    ∷ row 0x3fe0_0000_0000_0000 (pos 1) (pos 0) (pos 1) 0x3ff0_0000_0000_0000  -- 0.5
    ∷ row 0xbfe0_0000_0000_0000 (negsuc 0) (negsuc 0) (pos 0) 0xbff0_0000_0000_0000  -- -0.5
    ∷ row 0x3fdf_ffff_ffff_ffff (pos 0) (pos 0) (pos 1) 0  -- 0.49999999999999994
    ∷ row 0xbfdf_ffff_ffff_ffff (pos 0) (negsuc 0) (pos 0) 0x8000_0000_0000_0000  -- -0.49999999999999994, to -0
    ∷ row 0xc008_0000_0000_0000 (negsuc 2) (negsuc 2) (negsuc 2) 0xc008_0000_0000_0000  -- -3
    ∷ row 0x8000_0000_0000_0000 (pos 0) (pos 0) (pos 0) 0x8000_0000_0000_0000  -- -0
    ∷ row 0x0000_0000_0000_0001 (pos 0) (pos 0) (pos 1) 0  -- the smallest double
    ∷ row 0x432f_ffff_ffff_ffff (pos 4503599627370496) (pos 4503599627370495) (pos 4503599627370496) 0x4330_0000_0000_0000  -- 2 ^ 52 - 0.5
    ∷ []

pub roundings-hold : map worked roundings ≡ roundings
unfolding roundings of_bits to_bits round size_of negative round_away floor_of ceil_of nearest_double
roundings-hold = refl

-- two doubles by their patterns, and whether they are at most one step apart
pub data Pair : Type 0 where
  pair : ℕ → ℕ → Bool → Pair

abbrev stepped : Pair → Pair
stepped (pair a b s) = pair a b (one_step (double a) (double b))

pub steps : List Pair
steps =
    pair 0 0x8000_0000_0000_0000 true  -- 0 and -0
    ∷ pair 1 0x8000_0000_0000_0000 false  -- the smallest double and -0: 0 is between
    ∷ pair 1 0x8000_0000_0000_0001 false
    ∷ pair 0x3ff0_0000_0000_0000 0x3fef_ffff_ffff_ffff true  -- 1 and the next below
    ∷ pair 0xbff0_0000_0000_0000 0xbff0_0000_0000_0002 false  -- -1 and the next but one
    ∷ []

pub steps-hold : map stepped steps ≡ steps
unfolding steps one_step ordered ordered_bits to_bits of_bits
steps-hold = refl

-- ---- x * y + z: 1 * -0 + -0 is -0, 1 * 1 - 1 is 0, an infinity times 0 is no number, and a large product does not hide an infinite addend
abbrev one : Float
one = fin false 1 (pos 0)

pub fma-zeros : fma binary64 one (fin true 0 (pos 0)) (fin true 0 (pos 0)) ≡ fin true 0 (pos 0)
unfolding fma
fma-zeros = refl

pub fma-cancels : fma binary64 one one (fin true 1 (pos 0)) ≡ fin false 0 (pos 0)
unfolding fma
fma-cancels = refl

pub fma-none : fma binary64 (inf false) (fin false 0 (pos 0)) one ≡ nan
unfolding fma
fma-none = refl

pub fma-addend : fma binary64 (fin false 1 (pos 1023)) (fin false 1 (pos 1023)) (inf true) ≡ inf true
unfolding fma
fma-addend = refl
