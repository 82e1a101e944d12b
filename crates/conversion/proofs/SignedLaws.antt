-- Signed numbers of 32 bits worked with in 64: origin + count * spacing fits. Assumes nothing.
use mathlib.Core.Path.{◌≡◌, sym, ap, ap₂, ◌∙◌, subst}
use mathlib.Core.Bool.{Bool, true, false, not, cond}
use Prim.Native.Nat.{ℕ, zero, suc, ◌+◌, ◌-◌, ◌*◌, ◌^◌, ◌≤◌, ◌<◌}
use native.Mathlib.Nat.{le_trans, mul-le-mul_left, mul-le-mul_right}
use native.Mathlib.Omega.{arith}
use lib.Dec.{T, ltb, ltb→lt, nltb→le}
use lib.IntN.{ℤ, pos, negsuc, neg_ℤ, sub_ℕ, ◌+ℤ◌, ◌*ℤ◌}
use lib.Signed.{mag}
use Rattle.units.specs.Point.{endpoint}
use mir.Val.{Fits, SFits, to_z, of_z}
use mir.Syntax.{w32, w64}
use mir.ValLaws.{to_z-of_z, to_z_pos}

pub wider : (z : ℤ) → SFits w32 z → SFits w64 z
wider z f = record { sfits = go (mag z) f.sfits }
  where
    go : (n : ℕ) → n < 2 ^ 31 → n < 2 ^ 63
    go n h = omega arith

-- a number of 32 bits read back in 64
pub again : (z : ℤ) → SFits w32 z → to_z w64 (of_z w64 (to_z w32 (of_z w32 z))) ≡ z
again z f = ap (λ (y : ℤ). to_z w64 (of_z w64 y)) (to_z-of_z w32 z f) ∙ to_z-of_z w64 z (wider z f)

-- ---- origin + count * spacing

-- a product: not above (2 ^ 31 - 1) (2 ^ 32 - 1), and not below - 2 ^ 31 (2 ^ 32 - 1)
pub record Product (z : ℤ) : Type 0 where
  pub size : mag z + 2 ^ 31 < 2 ^ 63

times-le : (a b n : ℕ) → a ≤ b → n ≤ 4294967295 → a * n ≤ b * 4294967295
times-le a b n h k = le_trans (mul-le-mul_left a k) (mul-le-mul_right 4294967295 h)

pub product : (a : ℤ) (n : ℕ) → SFits w32 a → n ≤ 4294967295 → Product (a *ℤ pos n)
product (pos k) n f h = record { size = go (k * n) (times-le k 2147483647 n (less k f.sfits) h) }
  where
    less : (k : ℕ) → k < 2 ^ 31 → k ≤ 2147483647
    less k h = omega arith

    go : (x : ℕ) → x ≤ 2147483647 * 4294967295 → x + 2 ^ 31 < 2 ^ 63
    go x h = omega arith
product (negsuc k) n f h = record { size = go (suc k * n) (times-le (suc k) 2147483648 n f.sfits h) }
  where
    go : (x : ℕ) → x ≤ 2147483648 * 4294967295 → mag (neg_ℤ (pos x)) + 2 ^ 31 < 2 ^ 63
    go zero h = omega arith
    go (suc x) h = omega arith

pub product-fits : (z : ℤ) → Product z → SFits w64 z
product-fits z p = record { sfits = go (mag z) p.size }
  where
    go : (x : ℕ) → x + 2 ^ 31 < 2 ^ 63 → x < 2 ^ 63
    go x h = omega arith

sub_small : (a b m : ℕ) → a < m → b ≤ m → mag (sub_ℕ a b) < m
sub_small a b m h k = go (ltb a b) (ltb→lt a b) (nltb→le a b)
  where
    go : (c : Bool) → (T c → a < b) → (T (not c) → b ≤ a) → mag (cond c (negsuc (b - suc a)) (pos (a - b))) < m
    go true l g = let i = l tt in omega arith
    go false l g = let i = g tt in omega arith

pub sum_fits : (o z : ℤ) → SFits w32 o → Product z → SFits w64 (o +ℤ z)
sum_fits (pos a) (pos b) f p = record { sfits = go a b f.sfits p.size }
  where
    go : (a b : ℕ) → a < 2 ^ 31 → b + 2 ^ 31 < 2 ^ 63 → a + b < 2 ^ 63
    go a b h k = omega arith
sum_fits (pos a) (negsuc b) f p = record { sfits = sub_small a (suc b) (2 ^ 63) (go a f.sfits) (less b p.size) }
  where
    go : (a : ℕ) → a < 2 ^ 31 → a < 2 ^ 63
    go a h = omega arith

    less : (b : ℕ) → b + 2 ^ 31 < 2 ^ 63 → suc b ≤ 2 ^ 63
    less b h = omega arith
sum_fits (negsuc a) (pos b) f p = record { sfits = sub_small b (suc a) (2 ^ 63) (less b p.size) (go a f.sfits) }
  where
    go : (a : ℕ) → a < 2 ^ 31 → suc a ≤ 2 ^ 63
    go a h = omega arith

    less : (b : ℕ) → b + 2 ^ 31 < 2 ^ 63 → b < 2 ^ 63
    less b h = omega arith
sum_fits (negsuc a) (negsuc b) f p = record { sfits = go a b f.sfits p.size }
  where
    go : (a b : ℕ) → a < 2 ^ 31 → b + 2 ^ 31 < 2 ^ 63 → suc (a + b) < 2 ^ 63
    go a b h k = omega arith

-- as the machine reads it
module _ (o a : ℤ) (n : ℕ) (f : SFits w32 o) (g : SFits w32 a) (h : Fits w32 n) where
  product_small : Product (a *ℤ pos n)
  product_small = product a n g (go n h.fits)
    where
      go : (n : ℕ) → n < 2 ^ 32 → n ≤ 4294967295
      go n h = omega arith

  product-is : to_z w64 (of_z w64 (to_z w32 (of_z w32 a))) *ℤ to_z w64 n ≡ a *ℤ pos n
  product-is = ap₂ ◌*ℤ◌ (again a g) (to_z_pos w64 n (go n h.fits))
    where
      go : (n : ℕ) → n < 2 ^ 32 → n < 2 ^ 63
      go n h = omega arith

  pub product-read : SFits w64 (to_z w64 (of_z w64 (to_z w32 (of_z w32 a))) *ℤ to_z w64 n)
  product-read = subst (SFits w64) (sym product-is) (product-fits _ product_small)

  total-is : to_z w64 (of_z w64 (to_z w32 (of_z w32 o))) +ℤ to_z w64 (of_z w64 (to_z w64 (of_z w64 (to_z w32 (of_z w32 a))) *ℤ to_z w64 n)) ≡ endpoint o a n
  total-is = ap₂ ◌+ℤ◌ (again o f) (ap (λ (y : ℤ). to_z w64 (of_z w64 y)) product-is ∙ to_z-of_z w64 _ (product-fits _ product_small))

  pub sum_read : SFits w64 (to_z w64 (of_z w64 (to_z w32 (of_z w32 o))) +ℤ to_z w64 (of_z w64 (to_z w64 (of_z w64 (to_z w32 (of_z w32 a))) *ℤ to_z w64 n)))
  sum_read = subst (SFits w64) (sym total-is) (sum_fits _ _ f product_small)

  pub sum_is : to_z w64 (of_z w64 (to_z w64 (of_z w64 (to_z w32 (of_z w32 o))) +ℤ to_z w64 (of_z w64 (to_z w64 (of_z w64 (to_z w32 (of_z w32 a))) *ℤ to_z w64 n)))) ≡ endpoint o a n
  sum_is = ap (λ (y : ℤ). to_z w64 (of_z w64 y)) total-is ∙ to_z-of_z w64 _ (sum_fits _ _ f product_small)
