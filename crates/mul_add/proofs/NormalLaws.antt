-- Normalization: a double's digits shifted left to 63, the product of two such numbers and the addend moved up to its length. Assumes nothing.
use mathlib.Core.Path.{◌≡◌, refl, sym, ap, ap₂, ◌∙◌, subst}
use Prim.Native.Nat.{ℕ, ◌+◌, ◌-◌, ◌*◌, ◌/◌, ◌%◌, ◌^◌, ◌≤◌, ◌<◌}
use native.Mathlib.Nat.{le_trans, le_of_eq, lt_of_lt_of_le, lt_of_le_of_lt, mul_comm, mul_assoc, mul-le-mul, mul-mul-mul_comm, le_of_lt, mul-le-mul_right, mul-lt-mul_of_pos_left, mod-eq_of_lt, mul-mod_left}
use native.Mathlib.Omega.{arith}
use lib.Pow.{pow-add, pow_pos, shl_lt}
use lib.Count.{count_leading_zeros}
use Rattle.binary64.proofs.Powers.{pow_lt_back, times₂, same-pow}
use Rattle.binary64.specs.Value.{unit}
use Rattle.mul_add.specs.code.Places.{word, scale, raise, addend, excess}
use Rattle.mul_add.specs.code.Normal.{Normal, Ready}
use Rattle.mul_add.proofs.DigitLaws.{not-zero}
use Rattle.mul_add.proofs.LeadLaws.{Lead, lead}

-- ---- m, a double's digits, shifted left by one less than its leading zeros
module _ (m : ℕ) (M : 0 < m) (small : m < 2 ^ 53) where
  abbrev z : ℕ
  z = count_leading_zeros 64 m

  pub led : Lead m z
  led = lead m (not-zero M) (wider m small)
    where
      wider : (m : ℕ) → m < 2 ^ 53 → m < 2 ^ 64
      wider m h = omega arith

  -- at least as many zeros lead as a double has no room for
  pub zeros-many : excess ≤ z
  zeros-many = go z (pow_lt_back 63 (53 + z) (lt_of_le_of_lt led.lo (shl_lt 53 z small)))
    where
      go : (z : ℕ) → 63 < 53 + z → excess ≤ z
      go z h = omega arith

  twice : m * 2 ^ z ≡ m * 2 ^ (z - 1) * 2
  twice = ap (λ (i : ℕ). m * i) (same-pow (go z zeros-many) ∙ pow-add 2 (z - 1) 1) ∙ sym (mul_assoc m (2 ^ (z - 1)) 2)
    where
      go : (z : ℕ) → excess ≤ z → z ≡ z - 1 + 1
      go z h = omega arith

  four : m * 2 ^ (z - 1) % 4 ≡ 0
  four = ap (λ (i : ℕ). i % 4) (ap (λ (i : ℕ). m * 2 ^ i) (go z zeros-many) ∙ sym (times₂ m (z - 3) 2)) ∙ mul-mod_left (m * 2 ^ (z - 3)) 4
    where
      go : (z : ℕ) → excess ≤ z → z - 1 ≡ z - 3 + 2
      go z h = omega arith

  shifted : m * 2 ^ (z - 1) % 2 ^ 64 ≡ m * 2 ^ (z - 1)
  shifted = mod-eq_of_lt (go (m * 2 ^ (z - 1)) (m * 2 ^ z) twice led.hi)
    where
      go : (a b : ℕ) → b ≡ a * 2 → b < 2 ^ 64 → a < 2 ^ 64
      go a b e h = omega arith

  pub normal : (p : ℕ) → Normal m p (m * 2 ^ (z - 1) % 2 ^ 64) (p + 64 - (z - 1))
  normal p = subst (λ (n : ℕ). Normal m p n (p + 64 - (z - 1))) (sym shifted) (record {
    lo = a (m * 2 ^ (z - 1)) (m * 2 ^ z) twice led.lo;
    hi = b (m * 2 ^ (z - 1)) (m * 2 ^ z) twice led.hi;
    even = four;
    same = times₂ m (z - 1) (p + 64 - (z - 1)) ∙ ap (λ (i : ℕ). m * i) (same-pow (c p z led.under));
    power = d p z;
  })
    where
      a : (x y : ℕ) → y ≡ x * 2 → 2 ^ 63 ≤ y → 2 ^ 62 ≤ x
      a x y e h = omega arith

      b : (x y : ℕ) → y ≡ x * 2 → y < 2 ^ 64 → x < 2 ^ 63
      b x y e h = omega arith

      c : (p z : ℕ) → z < 64 → z - 1 + (p + 64 - (z - 1)) ≡ p + 64
      c p z h = omega arith

      d : (p z : ℕ) → p + 64 - (z - 1) ≤ p + 64
      d p z = omega arith

-- ---- the product of two, and an addend moved up
pub ready-product : (u v i : ℕ) → 2 ^ 62 ≤ u → u < 2 ^ 63 → u % 4 ≡ 0 → 2 ^ 62 ≤ v → v < 2 ^ 63 → i < 2 ^ 30 → Ready (u * v) i
ready-product u v i a b c d e f = record {
  lo = le_trans (le_of_eq (pow-add 2 62 62)) (mul-le-mul a d);
  hi = lt_of_lt_of_le (lt_of_le_of_lt (mul-le-mul_right v (le_of_lt b)) (mul-lt-mul_of_pos_left e (pow_pos 63))) (le_of_eq (sym (pow-add 2 63 63)));
  even = ap (λ (z : ℕ). z % 4) (ap (λ (z : ℕ). z * v) (quarters u c) ∙ regroup (u / 4) v) ∙ mul-mod_left (u / 4 * v) 4;
  small = f;
}
  where
    quarters : (u : ℕ) → u % 4 ≡ 0 → u ≡ u / 4 * 4
    quarters u h = omega arith

    regroup : (q v : ℕ) → q * 4 * v ≡ q * v * 4
    regroup q v = mul_assoc q 4 v ∙ ap (λ (z : ℕ). q * z) (mul_comm 4 v) ∙ sym (mul_assoc q v 4)

pub product-same : (u v i j X Y : ℕ) → u * 2 ^ i ≡ X * 2 ^ word → v * 2 ^ j ≡ Y * 2 ^ word → u * v * 2 ^ (i + j) * (unit * unit) ≡ X * Y * 2 ^ scale
product-same u v i j X Y a b =
    ap (λ (z : ℕ). z * (unit * unit))
    (ap (λ (z : ℕ). u * v * z) (pow-add 2 i j)
    ∙ mul-mul-mul_comm u v (2 ^ i) (2 ^ j)
    ∙ ap₂ (λ (x y : ℕ). x * y) a b
    ∙ mul-mul-mul_comm X (2 ^ word) Y (2 ^ word))
    ∙ mul_assoc (X * Y) (2 ^ word * 2 ^ word) (unit * unit)
    ∙ ap (λ (z : ℕ). X * Y * z) powers
  where
    powers : 2 ^ word * 2 ^ word * (unit * unit) ≡ 2 ^ scale
    powers = refl

pub addend-same : (w j Z : ℕ) → w * 2 ^ j ≡ Z * 2 ^ word → w * 2 ^ raise * 2 ^ (j + addend) * (unit * unit) ≡ Z * unit * 2 ^ scale
addend-same w j Z a =
    ap (λ (z : ℕ). w * 2 ^ raise * z * (unit * unit)) (pow-add 2 j addend)
    ∙ ap (λ (z : ℕ). z * (unit * unit))
    (mul-mul-mul_comm w (2 ^ raise) (2 ^ j) (2 ^ addend)
    ∙ ap (λ (z : ℕ). z * (2 ^ raise * 2 ^ addend)) a
    ∙ mul_assoc Z (2 ^ word) (2 ^ raise * 2 ^ addend))
    ∙ mul_assoc Z (2 ^ word * (2 ^ raise * 2 ^ addend)) (unit * unit)
    ∙ ap (λ (z : ℕ). Z * z) powers
    ∙ sym (mul_assoc Z unit (2 ^ scale))
  where
    powers : 2 ^ word * (2 ^ raise * 2 ^ addend) * (unit * unit) ≡ unit * 2 ^ scale
    powers = refl
