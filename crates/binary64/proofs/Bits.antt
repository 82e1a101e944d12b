-- Bit patterns and NaN: for code that reads and makes patterns. Assumes nothing.
use mathlib.Core.Path.{◌≡◌, refl, sym, ◌∙◌, subst}
use mathlib.Core.Bool.{Bool, true, false, not, true≢false}
use Prim.Native.Nat.{ℕ, ◌*◌, ◌%◌, ◌<◌, ◌≤◌}
use lib.Dec.{T, lt→ltb}
use lib.Arith.{le→nltb}
use lib.Ieee.{Float, nan, inf, fin, binary64, is_nan, nan_bits, of_bits, to_bits, div, ne, ones, hid, top}
use lib.Ieee.Bits.{nan_bits_is, nan_bits_above}
use lib.Ieee.Compare.{nan_differs}

-- a NaN is `nan`
pub is-nan : (x : Float) → T (is_nan x) → x ≡ nan
unfolding is_nan
is-nan nan t = refl
is-nan (inf s) t = absurd t
is-nan (fin s m e) t = absurd t

-- 0.0 / 0.0, with 0.0 by its bit pattern
pub zero_by_zero : div binary64 (of_bits binary64 0) (of_bits binary64 0) ≡ nan
unfolding div of_bits
zero_by_zero = refl

-- a pattern above the infinity's, its sign taken off, is a NaN's, and no other is
pub nan-above : (n : ℕ) → ones binary64 * hid binary64 < n % top binary64 → nan ≡ of_bits binary64 n
nan-above n h =
    sym (is-nan (of_bits binary64 n) (subst T (sym (nan_bits_above binary64 n) ∙ nan_bits_is binary64 n) (lt→ltb (ones binary64 * hid binary64) (n % top binary64) h)))

pub nan-not-below : (n : ℕ) → n % top binary64 ≤ ones binary64 * hid binary64 → T (not (nan_bits binary64 n))
nan-not-below n h = subst (λ (b : Bool). T (not b)) (sym (nan_bits_above binary64 n)) (le→nltb (ones binary64 * hid binary64) (n % top binary64) h)

-- the quiet NaN's pattern is a NaN's, and every NaN has it
pub nan_is : of_bits binary64 0x7ff8_0000_0000_0000 ≡ nan
unfolding of_bits
nan_is = refl

pub nan-bits : (x : Float) → is_nan x ≡ true → 0x7ff8_0000_0000_0000 ≡ to_bits binary64 x
unfolding to_bits
nan-bits x h = rw (is-nan x (subst T (sym h) tt))

-- `x != x` tells a NaN
pub same-no-nan : (x : Float) → ne x x ≡ false → T (not (is_nan x))
unfolding is_nan
same-no-nan nan h = absurd (true≢false (sym nan_differs ∙ h))
same-no-nan (inf s) h = tt
same-no-nan (fin s m e) h = tt
