-- Finite doubles that are the same whole number of 2 ^ -1074 are the same double, but for the two zeros. Assumes nothing.
use mathlib.Core.Path.{◌≡◌, refl, subst}
use mathlib.Core.Logic.{◌⊎◌, inl, inr}
use Prim.Native.Nat.{ℕ, zero, suc, ◌*◌, ◌^◌, ◌≤◌, ◌<◌}
use native.Mathlib.Nat.{le_antisymm, mul-pos, zero-lt-suc, pow-succ'}
use native.Mathlib.Omega.{arith}
use lib.Dec.{T, eqb→eq}
use lib.Pow.{pow_pos}
use lib.IntN.{ℤ, pos, negsuc}
use lib.Signed.{◌≤ℤ◌, ≤ℤ_refl}
use lib.Ieee.{Float, nan, inf, fin, binary64, up, down, fits}
use lib.Ieee.Fits.{up_pos}
use lib.Ieee.Scale.{finite}
use Rattle.binary64.specs.Value.{unit, size_of, negative, scaled}
use Rattle.binary64.proofs.ValueLaws.{exact}
use Rattle.binary64.proofs.Snapping.{scaled→ordered, ordered_same}

module _ (x y : Float) (X : T (fits binary64 x)) (Y : T (fits binary64 y)) (f : T (finite x)) (g : T (finite y)) where
  pub same-or-zeros : scaled x ≡ scaled y → (x ≡ y) ⊎ ((size_of x ≤ 0) × (size_of y ≤ 0))
  same-or-zeros e =
      elim (scaled→ordered x y X Y f g (subst (λ (z : ℤ). scaled x ≤ℤ z) e (≤ℤ_refl (scaled x)))) [
        | inr z ↦ inr z
        | inl a ↦ elim (scaled→ordered y x Y X g f (subst (λ (z : ℤ). z ≤ℤ scaled x) e (≤ℤ_refl (scaled x)))) [
          | inr z ↦ inr (z.1, z.0)
          | inl b ↦ inl (ordered_same x y X Y f g (le_antisymm a b))
        ]
      ]

-- a zero is written in one way
pub zero_is : (x : Float) → T (fits binary64 x) → T (finite x) → size_of x ≤ 0 → x ≡ fin (negative x) 0 (pos 0)
unfolding fits negative
zero_is nan F f h = absurd f
zero_is (inf s) F f h = absurd f
zero_is (fin s zero (pos zero)) F f h = refl
zero_is (fin s zero (pos (suc k))) F f h = absurd (big (2 ^ suc k) (2 ^ k) (pow-succ' 2 k) (pow_pos k) (eqb→eq (2 ^ suc k * 1) 1 F))
  where
    big : (q p : ℕ) → q ≡ 2 * p → 0 < p → q * 1 ≡ 1 → ⊥
    big q p d h e = omega arith
zero_is (fin s zero (negsuc k)) F f h = absurd (big (2 ^ suc k) (2 ^ k) (pow-succ' 2 k) (pow_pos k) (eqb→eq (1 * 2 ^ suc k) 1 F))
  where
    big : (q p : ℕ) → q ≡ 2 * p → 0 < p → 1 * q ≡ 1 → ⊥
    big q p d h e = omega arith
zero_is (fin s (suc m) e) F f h = absurd (none (size_of (fin s (suc m) e)) (down e) (suc m * up e * unit) h (mul-pos (mul-pos (zero-lt-suc m) (up_pos e)) (pow_pos 1074)) (exact (fin s (suc m) e) F))
  where
    none : (z d n : ℕ) → z ≤ 0 → 0 < n → z * d ≡ n → ⊥
    none zero d n h k e = omega (arith, e)
    none (suc z) d n h k e = omega arith
