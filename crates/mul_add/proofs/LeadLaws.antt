-- A word that is not 0, shifted left by its leading zeros: its leading digit is in place (`Lead`). Assumes nothing.
use mathlib.Core.Path.{◌≡◌, subst}
use Prim.Native.Nat.{ℕ, suc, ◌+◌, ◌*◌, ◌^◌, ◌≤◌, ◌<◌, ◌%◌}
use native.Mathlib.Nat.{le_trans, le_of_eq, mul-le-mul_right, mod-eq_of_lt}
use native.Mathlib.Omega.{arith}
use lib.Pow.{pow-add, shl_lt}
use lib.Count.{count_leading_zeros, leading_top}

pub record Lead (m z : ℕ) : Type 0 where
  pub lo : 2 ^ 63 ≤ m * 2 ^ z
  pub hi : m * 2 ^ z < 2 ^ 64
  pub under : z < 64

pub lead : (m : ℕ) → (m ≡ 0 → ⊥) → m < 2 ^ 64 → Lead m (count_leading_zeros 64 m)
lead m n h =
    let t = leading_top 64 m (some m n) h in
    go (count_leading_zeros 64 m) t.0 t.1 t.2 t.3
  where
    some : (m : ℕ) → (m ≡ 0 → ⊥) → 0 < m
    some m n = omega arith

    go : (z k : ℕ) → z + suc k ≡ 64 → 2 ^ k ≤ m → m < 2 ^ suc k → Lead m z
    go z k e a b = record {
      lo = subst (λ (x : ℕ). 2 ^ x ≤ m * 2 ^ z) (p z k e) (le_trans (le_of_eq (pow-add 2 k z)) (mul-le-mul_right (2 ^ z) a));
      hi = subst (λ (x : ℕ). m * 2 ^ z < 2 ^ x) (q z k e) (shl_lt {a = m} (suc k) z b);
      under = r z k e;
    }
      where
        p : (z k : ℕ) → z + suc k ≡ 64 → k + z ≡ 63
        p z k e = omega arith

        q : (z k : ℕ) → z + suc k ≡ 64 → suc k + z ≡ 64
        q z k e = omega arith

        r : (z k : ℕ) → z + suc k ≡ 64 → z < 64
        r z k e = omega arith

-- the shift loses nothing
pub lead-exact : {m z : ℕ} → Lead m z → m * 2 ^ z % 2 ^ 64 ≡ m * 2 ^ z
lead-exact l = mod-eq_of_lt l.hi
