-- Division rounded down and its remainder: the library's, and their law. Assumes nothing.
use mathlib.Core.Path.{◌≡◌, refl, ap}
use mathlib.Core.Bool.{Bool, true, false, not, cond}
use Prim.Native.Nat.{ℕ, zero, suc, ◌+◌, ◌-◌, ◌*◌, ◌/◌, ◌%◌, ◌≤◌, ◌<◌}
use native.Mathlib.Nat.{div-add-mod', mod-lt, suc-mul}
use native.Mathlib.Omega.{arith}
use lib.Dec.{T, ltb, ltb→lt, nltb→le}
use lib.IntN.{ℤ, pos, negsuc, neg_ℤ, sub_ℕ, ◌+ℤ◌, ◌*ℤ◌}
use Rattle.std.specs.Int.{int_div_euclid, int_rem_euclid}
use Rattle.binary64.specs.Value.{floor_div}
use Rattle.gds_format.specs.Real8.{floor_mod}

-- a - b by cases
pub sub_cases : (a b : ℕ) (P : ℤ → Type 0) → (a < b → P (negsuc (b - suc a))) → (b ≤ a → P (pos (a - b))) → P (sub_ℕ a b)
sub_cases a b P f g = go (ltb a b) (λ t. f (ltb→lt a b t)) (λ t. g (nltb→le a b t))
  where
    go : (c : Bool) → (T c → P (negsuc (b - suc a))) → (T (not c) → P (pos (a - b))) → P (cond c (negsuc (b - suc a)) (pos (a - b)))
    go true f g = f tt
    go false f g = g tt

-- ---- the library's `div_euclid` and `rem_euclid`, at a divisor that is not negative

pub div_euclid-is : (e : ℤ) (d : ℕ) → int_div_euclid e (pos d) ≡ floor_div e d
unfolding floor_div
div_euclid-is (pos n) d = refl
div_euclid-is (negsuc n) d = refl

pub rem_euclid-is : (e : ℤ) (d : ℕ) → int_rem_euclid e (pos d) ≡ pos (floor_mod e d)
unfolding floor_mod
rem_euclid-is (pos n) d = refl
rem_euclid-is (negsuc n) d = refl

-- ---- the law of division: the quotient times d and the remainder, which is below d, make e

pub mod_below : (e : ℤ) (d : ℕ) → 0 < d → floor_mod e d < d
unfolding floor_mod
mod_below (pos n) d D = mod-lt n D
mod_below (negsuc n) d D = go (n % d)
  where
    go : (r : ℕ) → d - 1 - r < d
    go r = omega arith

pub floor-split : (e : ℤ) (d : ℕ) → 0 < d → floor_div e d *ℤ pos d +ℤ pos (floor_mod e d) ≡ e
unfolding floor_div floor_mod
floor-split (pos n) d D = ap pos (div-add-mod' n d)
floor-split (negsuc n) d D = go (suc (n / d) * d) (n / d * d) (n % d) (suc-mul (n / d) d) (div-add-mod' n d) (mod-lt n D)
  where
    go : (q a r : ℕ) → q ≡ a + d → a + r ≡ n → r < d → neg_ℤ (pos q) +ℤ pos (d - 1 - r) ≡ negsuc n
    go zero a r e f l = absurd (no e)
      where
        no : 0 ≡ a + d → ⊥
        no e = omega arith
    go (suc q) a r e f l = sub_cases (d - 1 - r) (suc q) (λ z. z ≡ negsuc n) (λ m. ap negsuc (omega arith)) (λ m. absurd (no m))
      where
        no : suc q ≤ d - 1 - r → ⊥
        no m = omega arith
