-- How many binary digits a number has, and powers of two in a product. Assumes nothing.
use mathlib.Core.Path.{◌≡◌, refl, sym, ap, ◌∙◌, subst}
use Prim.Native.Nat.{ℕ, zero, suc, ◌+◌, ◌*◌, ◌/◌, ◌^◌, ◌≤◌, ◌<◌}
use native.Mathlib.Nat.{le_trans, le_of_eq, le_antisymm, lt_of_lt_of_le, lt_of_not-le, not-le_of_lt, mul-mul-mul_comm, le-div_iff_mul-le, div-lt_iff_lt-mul}
use native.Mathlib.Omega.{arith}
use lib.Pow.{pow-add, pow_pos, pow_mono}
use lib.Ieee.{size}
use lib.Ieee.Digits.{size-lt, size-le, size_reaches}
use Rattle.binary64.proofs.Powers.{same-pow}

-- a number above 0 is not 0
pub not-zero : {n : ℕ} → 0 < n → n ≡ 0 → ⊥
not-zero h e = omega arith

-- two numbers, each at a power: only the sum of the powers counts
pub cross : (x y a b c d : ℕ) → a + b ≡ c + d → x * 2 ^ a * (y * 2 ^ b) ≡ x * 2 ^ c * (y * 2 ^ d)
cross x y a b c d e = joined a b ∙ ap (λ (z : ℕ). x * y * 2 ^ z) e ∙ sym (joined c d)
  where
    joined : (a b : ℕ) → x * 2 ^ a * (y * 2 ^ b) ≡ x * y * 2 ^ (a + b)
    joined a b = mul-mul-mul_comm x (2 ^ a) y (2 ^ b) ∙ ap (λ (z : ℕ). x * y * z) (sym (pow-add 2 a b))

-- ---- how many digits
pub size_is : (n z : ℕ) → 2 ^ z ≤ n → n < 2 ^ suc z → size n ≡ suc z
size_is n z a b = le_antisymm (size-le n (suc z) b) (lt_of_not-le (λ (g : size n ≤ z). not-le_of_lt (lt_of_lt_of_le (size-lt n) (pow_mono g)) a))

size-pos : (a : ℕ) → 0 < a → (z : ℕ) × (size a ≡ suc z) × (2 ^ z ≤ a) × (a < 2 ^ suc z)
size-pos a h = go (size a) refl
  where
    go : (k : ℕ) → size a ≡ k → (z : ℕ) × (size a ≡ suc z) × (2 ^ z ≤ a) × (a < 2 ^ suc z)
    go zero e = absurd (none a h (subst (λ (k : ℕ). a < 2 ^ k) e (size-lt a)))
      where
        none : (a : ℕ) → 0 < a → a < 1 → ⊥
        none a x y = omega arith
    go (suc z) e = (z, e, size_reaches a z (le_of_eq (sym e)), subst (λ (k : ℕ). a < 2 ^ k) e (size-lt a))

-- x has t digits more than what is left of it after a shift by t
pub size-shift : (x t a : ℕ) → x / 2 ^ t ≡ a → 0 < a → size x ≡ size a + t
size-shift x t a q p =
    let z = size-pos a p in
    let lo : 2 ^ (z.0 + t) ≤ x = le_trans (le_of_eq (pow-add 2 z.0 t)) ((le-div_iff_mul-le (pow_pos t)).0 (subst (λ (k : ℕ). 2 ^ z.0 ≤ k) (sym q) z.2)) in
    let hi : x < 2 ^ suc (z.0 + t) = lt_of_lt_of_le ((div-lt_iff_lt-mul (pow_pos t)).0 (subst (λ (k : ℕ). k < 2 ^ suc z.0) (sym q) z.3)) (le_of_eq (sym (pow-add 2 (suc z.0) t) ∙ same-pow (move z.0 t))) in
    size_is x (z.0 + t) lo hi ∙ last (size a) z.0 t z.1
  where
    move : (z j : ℕ) → suc z + j ≡ suc (z + j)
    move z j = omega arith

    last : (s z j : ℕ) → s ≡ suc z → suc (z + j) ≡ s + j
    last s z j h = omega arith
