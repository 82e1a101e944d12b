-- Powers of two: what several files use of them. Assumes nothing.
use mathlib.Core.Path.{◌≡◌, sym, ap, ◌∙◌}
use Prim.Native.Nat.{ℕ, suc, ◌+◌, ◌-◌, ◌*◌, ◌%◌, ◌^◌, ◌≤◌, ◌<◌}
use native.Mathlib.Nat.{le_refl, lt_irrefl, lt_of_lt_of_le, lt_of_le_of_lt, lt_of_not-le, mul_assoc, one-mul}
use native.Mathlib.Omega.{arith}
use lib.Dec.{lit<}
use lib.Pow.{pow-add, pow_mono, pow-lt, shl_exact}

-- 2 ^ i grows with i, so that an order of powers is one of exponents
pub pow_lt_back : (i p : ℕ) → 2 ^ i < 2 ^ p → i < p
pow_lt_back i p h = lt_of_not-le (λ (g : p ≤ i). lt_irrefl (2 ^ i) (lt_of_lt_of_le h (pow_mono g)))

pub pow_le_back : (i p : ℕ) → 2 ^ i ≤ 2 ^ p → i ≤ p
pow_le_back i p h = omega (arith, pow_lt_back i (suc p) (lt_of_le_of_lt h (pow-lt (le_refl (suc p)))))

-- equal exponents, equal powers: the exponents are left to `omega`
pub same-pow : {i j : ℕ} → i ≡ j → 2 ^ i ≡ 2 ^ j
same-pow e = ap (λ (z : ℕ). 2 ^ z) e

-- a product with two powers, or with three
pub times₂ : (n a b : ℕ) → n * 2 ^ a * 2 ^ b ≡ n * 2 ^ (a + b)
times₂ n a b = mul_assoc n (2 ^ a) (2 ^ b) ∙ ap (λ (z : ℕ). n * z) (sym (pow-add 2 a b))

pub times₃ : (n a b c : ℕ) → n * 2 ^ a * 2 ^ b * 2 ^ c ≡ n * 2 ^ (a + b + c)
times₃ n a b c = ap (λ (z : ℕ). z * 2 ^ c) (times₂ n a b) ∙ times₂ n (a + b) c

-- 2 ^ l in two parts
pub sum_to : (j l : ℕ) → j ≤ l → l - j + j ≡ l
sum_to j l h = omega arith

pub pow-split : (j l : ℕ) → j ≤ l → 2 ^ l ≡ 2 ^ (l - j) * 2 ^ j
pow-split j l h = same-pow (sym (sum_to j l h)) ∙ pow-add 2 (l - j) j

-- `1 << k` in 64 bits
pub one_shifted : (k : ℕ) → k < 64 → 1 * 2 ^ k % 2 ^ 64 ≡ 2 ^ k
one_shifted k h = shl_exact 1 k 64 (lit< tt) (go k h) ∙ one-mul (2 ^ k)
  where
    go : (k : ℕ) → k < 64 → 1 + k ≤ 64
    go k h = omega arith
