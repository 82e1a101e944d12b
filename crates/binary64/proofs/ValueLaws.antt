-- The value of a double: that it is whole in units of 2 ^ -1074, and rounding by sign and size. Assumes nothing.
use mathlib.Core.Path.{◌≡◌, refl, sym, ap, ◌∙◌}
use mathlib.Core.Bool.{Bool, true, false, not, ◌&&◌, cond}
use Prim.Native.Nat.{ℕ, zero, suc, ◌+◌, ◌-◌, ◌*◌, ◌/◌, ◌%◌, ◌^◌, ◌≤◌, ◌<◌}
use native.Mathlib.Nat.{mul-one, zero-mul, mul-div_cancel, div-one, div-eq_of_lt}
use lib.Dec.{T, leb, ltb, eqb, leb→le}
use lib.Pow.{pow_pos}
use lib.IntN.{ℤ, pos, negsuc, neg_ℤ, neg_ℤ-neg_ℤ}
use lib.Ieee.{Float, nan, inf, fin, binary64, up, down, fits}
use lib.Ieee.Fits.{and_l, and_r, down_pos}
use lib.Ieee.Exact.{HasValue}
use lib.Ieee.Positive.{num, den}
use Rattle.binary64.proofs.WholeLaws.{up-zero, up_suc}
use Rattle.binary64.proofs.Powers.{pow_le_back, sum_to, times₂}
use Rattle.binary64.specs.Value.{unit, size_of, half_up, cut_down, cut_up, negative, signed, floor_div, floor_of, ceil_of, round_away}

-- what has the value ±a / 2 ^ 1074 has the size a and that sign
pub size-of-value : (x : Float) (s : Bool) (a : ℕ) → HasValue x s a unit → size_of x ≡ a
unfolding size_of
size-of-value nan s a h = absurd h
size-of-value (inf t) s a h = absurd h
size-of-value (fin t m e) s a h = ap (λ (z : ℕ). z / down e) h.1 ∙ mul-div_cancel a (down_pos e)

pub sign-of-value : (x : Float) (s : Bool) (a c : ℕ) → HasValue x s a c → negative x ≡ s
unfolding negative
sign-of-value nan s a c h = absurd h
sign-of-value (inf t) s a c h = absurd h
sign-of-value (fin t m e) s a c h = h.0

-- ---- what the format holds is whole in units

exact-down : (n k : ℕ) → 2 ^ suc k ≤ 2 ^ 1074 → n * 2 ^ 1074 / 2 ^ suc k * 2 ^ suc k ≡ n * 2 ^ 1074
exact-down n k h =
    let j = 1074 - suc k in
    let e : n * 2 ^ 1074 ≡ n * 2 ^ j * 2 ^ suc k = ap (λ (z : ℕ). n * 2 ^ z) (sym (sum_to (suc k) 1074 (pow_le_back (suc k) 1074 h))) ∙ sym (times₂ n j (suc k)) in
    ap (λ (z : ℕ). z / 2 ^ suc k * 2 ^ suc k) e ∙ ap (λ (z : ℕ). z * 2 ^ suc k) (mul-div_cancel (n * 2 ^ j) (pow_pos (suc k))) ∙ sym e

exact-e : (n : ℕ) (e : ℤ) → down e ≤ 2 ^ 1074 → n * 2 ^ 1074 / down e * down e ≡ n * 2 ^ 1074
exact-e n (pos k) h = ap (λ (z : ℕ). z * 1) (div-one (n * 2 ^ 1074)) ∙ mul-one (n * 2 ^ 1074)
exact-e n (negsuc k) h = exact-down n k h

fits-down : (s : Bool) (m : ℕ) (e : ℤ) → T (fits binary64 (fin s (suc m) e)) → down e ≤ 2 ^ 1074
unfolding fits
fits-down s m e t =
    let ab : Bool = eqb (suc m % 2) 1 && ltb (suc m) (2 ^ 53) in
    let c : Bool = leb (down e) (2 ^ 1074) in
    leb→le (down e) (2 ^ 1074) (and_r ab c (and_l (ab && c) (ltb (suc m * up e) (2 ^ 1024 * down e)) t))

-- the division in `size_of` is exact
pub exact : (x : Float) → T (fits binary64 x) → size_of x * den x ≡ num x * unit
unfolding size_of
exact nan t = refl
exact (inf s) t = refl
exact (fin s zero e) t = ap (λ (z : ℕ). z * unit / down e * down e) (zero-mul (up e)) ∙ ap (λ (z : ℕ). z * down e) (div-eq_of_lt (down_pos e)) ∙ zero-mul (down e) ∙ sym (ap (λ (z : ℕ). z * unit) (zero-mul (up e)))
exact (fin s (suc m) e) t = exact-e (suc m * up e) e (fits-down s m e t)

-- ---- the roundings by sign and size

floor-signed : (s : Bool) (n u : ℕ) → 0 < u → floor_div (signed s n) u ≡ signed s (cond s ((n + u - 1) / u) (n / u))
unfolding floor_div
floor-signed false n u U = refl
floor-signed true zero u U = ap pos (div-eq_of_lt U) ∙ sym (ap (λ (z : ℕ). neg_ℤ (pos z)) (up-zero u U))
floor-signed true (suc n) u U = sym (ap (λ (z : ℕ). neg_ℤ (pos z)) (up_suc n u U))

-- down: the size cut, or for a negative x the size cut up
pub floor-is : (x : Float) → floor_of x ≡ signed (negative x) (cond (negative x) (cut_up (size_of x)) (cut_down (size_of x)))
unfolding floor_of
floor-is x = floor-signed (negative x) (size_of x) unit (pow_pos 1074)

neg-signed : (s : Bool) (n : ℕ) → neg_ℤ (signed s n) ≡ signed (not s) n
neg-signed true n = neg_ℤ-neg_ℤ (pos n)
neg-signed false n = refl

-- up: the other way round
pub ceil-is : (x : Float) → ceil_of x ≡ signed (negative x) (cond (negative x) (cut_down (size_of x)) (cut_up (size_of x)))
unfolding ceil_of
ceil-is x =
    let s = negative x in
    let n = size_of x in
    ap (λ (z : ℤ). neg_ℤ (floor_div z unit)) (neg-signed s n) ∙ ap neg_ℤ (floor-signed (not s) n unit (pow_pos 1074)) ∙ neg-signed (not s) (cond (not s) (cut_up n) (cut_down n)) ∙ flip s n
  where
    flip : (s : Bool) (n : ℕ) → signed (not (not s)) (cond (not s) (cut_up n) (cut_down n)) ≡ signed s (cond s (cut_down n) (cut_up n))
    flip true n = refl
    flip false n = refl

-- to the nearest, by size
pub round_is : (x : Float) → round_away x ≡ signed (negative x) (half_up (size_of x))
unfolding round_away
round_is x = refl
