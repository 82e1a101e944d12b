-- Alignment. Of two numbers that are added, the one with the smaller power is shifted right to the other's, and jammed. The rounded sum is the same (`sum-aligned`), also where the signs differ:
-- where something is lost, the jammed number is so much the smaller that the difference has digits enough for the sticky law. Assumes nothing.
use mathlib.Core.Path.{◌≡◌, sym, ap, ◌∙◌, subst}
use mathlib.Core.Logic.{inl, inr}
use mathlib.Core.Bool.{Bool, beq}
use Prim.Native.Nat.{ℕ, zero, suc, ◌+◌, ◌-◌, ◌*◌, ◌%◌, ◌^◌, ◌≤◌, ◌<◌}
use native.Mathlib.Nat.{eq-zero-or-pos, le_of_suc-le-suc, lt_of_not-le, lt_of_mul-lt-mul_right, le_trans, le_of_eq, le_of_lt, lt_of_lt_of_le, mul_comm, add-mul, suc-mul, mul-sub, mul-le-mul_left, mul-le-mul_right, mul-lt-mul_of_pos_right}
use native.Mathlib.Omega.{arith}
use lib.Pow.{pow_pos, pow-add, pow_mono}
use lib.Ieee.{binary64, round, sum}
use Rattle.mul_add.specs.code.Jam.{jam}
use Rattle.mul_add.specs.code.Normal.{Ready}
use Rattle.binary64.proofs.Powers.{times₂, same-pow, sum_to}
use Rattle.mul_add.proofs.DigitLaws.{not-zero}
use Rattle.mul_add.proofs.JamLaws.{Loose, loose-scale, round-loose, jam-exact, jam-loose}
use Rattle.mul_add.proofs.SumLaws.{sum_like, sum_more, either}

pub sub-mul : (x y u : ℕ) → x * u - y * u ≡ (x - y) * u
sub-mul x y u = go (x * u) (u * x) (y * u) (u * y) (u * (x - y)) (mul_comm x u) (mul_comm y u) (mul-sub u x y) ∙ mul_comm u (x - y)
  where
    go : (a b c d e : ℕ) → a ≡ b → c ≡ d → e ≡ b - d → a - c ≡ e
    go a b c d e i j k = omega arith

-- ---- the sum or difference of x, which is even and large, and a loose y, which is small, is as loose
module _ (s t : Bool) (E x y p n : ℕ) (big : 2 ^ 124 ≤ x) (even : x % 2 ≡ 0) (l : Loose n p y) (few : y ≤ 2 ^ 123) where
  loose-sum : Loose (x * 2 ^ p + n) p (x + y)
  loose-sum = record {
    odd = odds x y even l.odd;
    above = up ((x + y) * 2 ^ p) (x * 2 ^ p) (y * 2 ^ p) n (2 ^ p) (add-mul x y (2 ^ p)) l.above;
    below = down ((x + y) * 2 ^ p) (x * 2 ^ p) (y * 2 ^ p) n (2 ^ p) (add-mul x y (2 ^ p)) l.below;
  }
    where
      odds : (x y : ℕ) → x % 2 ≡ 0 → y % 2 ≡ 1 → (x + y) % 2 ≡ 1
      odds x y a b = omega arith

      up : (w x y n u : ℕ) → w ≡ x + y → y < n + u → w < x + n + u
      up w x y n u a b = omega arith

      down : (w x y n u : ℕ) → w ≡ x + y → n < y + u → x + n < w + u
      down w x y n u a b = omega arith

  smaller : y < x
  smaller = go x y big few
    where
      go : (x y : ℕ) → 2 ^ 124 ≤ x → y ≤ 2 ^ 123 → y < x
      go x y a b = omega arith

  under : n < x * 2 ^ p
  under = lt_of_lt_of_le l.below (le_trans (le_of_eq (sym (suc-mul y (2 ^ p)))) (mul-le-mul_right (2 ^ p) smaller))

  loose-difference : Loose (x * 2 ^ p - n) p (x - y)
  loose-difference = record {
    odd = odds x y even l.odd smaller;
    above = up ((x - y) * 2 ^ p) (x * 2 ^ p) (y * 2 ^ p) n (2 ^ p) (sym (sub-mul x y (2 ^ p))) under l.below;
    below = down ((x - y) * 2 ^ p) (x * 2 ^ p) (y * 2 ^ p) n (2 ^ p) (sym (sub-mul x y (2 ^ p))) (mul-le-mul_right (2 ^ p) (le_of_lt smaller)) under l.above;
  }
    where
      odds : (x y : ℕ) → x % 2 ≡ 0 → y % 2 ≡ 1 → y < x → (x - y) % 2 ≡ 1
      odds x y a b c = omega arith

      up : (w x y n u : ℕ) → w ≡ x - y → n < x → n < y + u → w < x - n + u
      up w x y n u a b c = omega arith

      down : (w x y n u : ℕ) → w ≡ x - y → y ≤ x → n < x → y < n + u → x - n < w + u
      down w x y n u a b c d = omega arith

  pub sum-loose : sum binary64 s (x * 2 ^ p) t n (2 ^ E) ≡ sum binary64 s (x * 2 ^ p) t (y * 2 ^ p) (2 ^ E)
  sum-loose = elim (either (beq s t)) [
    | inl e ↦
        sum_like binary64 s t (x * 2 ^ p) n (2 ^ E) e
        ∙ round-loose binary64 s E (x * 2 ^ p + n) p (x + y) loose-sum (more x y big)
        ∙ ap (λ (z : ℕ). round binary64 s z (2 ^ E)) (add-mul x y (2 ^ p))
        ∙ sym (sum_like binary64 s t (x * 2 ^ p) (y * 2 ^ p) (2 ^ E) e)
    | inr e ↦
        sum_more binary64 s t (x * 2 ^ p) n (2 ^ E) e under
        ∙ round-loose binary64 s E (x * 2 ^ p - n) p (x - y) loose-difference (enough x y big few)
        ∙ ap (λ (z : ℕ). round binary64 s z (2 ^ E)) (sym (sub-mul x y (2 ^ p)))
        ∙ sym (sum_more binary64 s t (x * 2 ^ p) (y * 2 ^ p) (2 ^ E) e (mul-lt-mul_of_pos_right smaller (pow_pos p)))
  ]
    where
      more : (x y : ℕ) → 2 ^ 124 ≤ x → 2 ^ 54 ≤ x + y
      more x y h = omega arith

      enough : (x y : ℕ) → 2 ^ 124 ≤ x → y ≤ 2 ^ 123 → 2 ^ 54 ≤ x - y
      enough x y h k = omega arith

-- ---- b * 2 ^ j, from b jammed to 2 ^ i
module _ (s t : Bool) (E x i b j : ℕ) (A : Ready x i) (B : Ready b j) (l : j ≤ i) where
  abbrev d : ℕ
  d = i - j

  back : d + j ≡ i
  back = sum_to j i l

  -- b ends in two zeros, so where something is lost three digits or more are dropped, and the rest is small
  three : 0 < b % 2 ^ d → 3 ≤ d
  three r = le_of_suc-le-suc (lt_of_not-le (λ (g : suc d ≤ 3). not-zero r (exact d g)))
    where
      exact : (d : ℕ) → d < 3 → b % 2 ^ d ≡ 0
      exact zero k = omega arith
      exact (suc zero) k = omega (arith, B.even)
      exact (suc (suc zero)) k = B.even
      exact (suc (suc (suc d))) k = absurd (past d k)
        where
          past : (d : ℕ) → suc (suc (suc d)) < 3 → ⊥
          past d k = omega arith

  few : 3 ≤ d → Loose b d (jam b d) → jam b d ≤ 2 ^ 123
  few k t =
      let u = 2 ^ d in
      le_of_suc-le-suc (lt_of_mul-lt-mul_right u (lt_of_lt_of_le t.above (le_trans
      (sums b u (2 ^ 123 * u) B.hi (le_trans (le_of_eq (pow-add 2 123 3)) (mul-le-mul_left (2 ^ 123) (pow_mono k))))
      (le_of_eq (sym (suc-mul (2 ^ 123) u))))))
    where
      sums : (b u x : ℕ) → b < 2 ^ 126 → 2 ^ 126 ≤ x → b + u ≤ x + u
      sums b u x p q = omega arith

  pub sum-aligned : sum binary64 s (x * 2 ^ i) t (b * 2 ^ j) (2 ^ E) ≡ sum binary64 s (x * 2 ^ i) t (jam b d * 2 ^ i) (2 ^ E)
  sum-aligned = elim (eq-zero-or-pos (b % 2 ^ d)) [
    | inl z ↦ ap (λ (n : ℕ). sum binary64 s (x * 2 ^ i) t n (2 ^ E)) (ap (λ (n : ℕ). n * 2 ^ j) (jam-exact b d z) ∙ times₂ (jam b d) d j ∙ ap (λ (n : ℕ). jam b d * n) (same-pow back))
    | inr r ↦
        let k = jam-loose b d r in
        sum-loose s t E x (jam b d) i (b * 2 ^ j) A.lo (even x A.even) (subst (λ (z : ℕ). Loose (b * 2 ^ j) z (jam b d)) back (loose-scale b d (jam b d) j k)) (few (three r) k)
  ]
    where
      even : (x : ℕ) → x % 4 ≡ 0 → x % 2 ≡ 0
      even x h = omega arith
