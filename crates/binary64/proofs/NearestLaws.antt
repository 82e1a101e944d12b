-- Whole numbers as doubles, and the double that `f64::round` gives: by the digits below 2 ^ 52, and x itself from there on. Assumes nothing.
use mathlib.Core.Path.{◌≡◌, refl, sym, ap, ◌∙◌, subst}
use mathlib.Core.Bool.{Bool, true, false, not, cond}
use Prim.Native.Nat.{ℕ, zero, suc, ◌+◌, ◌-◌, ◌*◌, ◌/◌, ◌%◌, ◌^◌, ◌≤◌, ◌<◌, compare}
use native.Mathlib.Nat.{lt_of_lt_of_le, mul_assoc, mul-one, mul_right_comm, eq_of_mul-eq-mul_right}
use native.Mathlib.Omega.{arith}
use lib.Dec.{T, ltb, lit<}
use lib.Pow.{pow_pos, pow_mono, shl_lt}
use lib.IntN.{ℤ, pos, negsuc}
use lib.Ieee.{Float, nan, inf, fin, binary64, fits, is_nan, round, neg, units, odd, of_int, nearest, size}
use lib.Ieee.Fits.{round-fits}
use lib.Ieee.Exact.{HasValue, round_exact}
use lib.Ieee.Back.{whole_unique}
use lib.Ieee.Scale.{finite}
use lib.Ieee.Positive.{num, den}
use Rattle.binary64.specs.Value.{unit, size_of, half_up, negative}
use Rattle.binary64.specs.code.Parts.{PartsOf}
use Rattle.binary64.specs.Step.{nearest_double}
use Rattle.binary64.proofs.Powers.{pow-split}
use Rattle.binary64.proofs.WholeLaws.{nearest-up}
use Rattle.binary64.proofs.ValueLaws.{exact}

-- ---- a whole number n, rounded to the format: `kept n` digits of it, with `dropped n` zeros
abbrev dropped : ℕ → ℕ
dropped n = size (n * 2 ^ 1074 / 1) - 53

abbrev kept : ℕ → ℕ
kept n = nearest (n * 2 ^ 1074 / (1 * 2 ^ dropped n)) (compare (n * 2 ^ 1074 % (1 * 2 ^ dropped n) * 2) (1 * 2 ^ dropped n))

shape : (s : Bool) (n : ℕ) → round binary64 s n 1 ≡ units binary64 s (kept n) (dropped n)
unfolding round
shape s n = refl

neg-units : (s : Bool) (q k : ℕ) → neg (units binary64 s q k) ≡ units binary64 (not s) q k
unfolding units odd neg
neg-units s q k = go (ltb (q * 2 ^ k) (2 ^ 2098)) (odd 54 s q k 1074) (odd 54 (not s) q k 1074) (turned q)
  where
    turned : (q : ℕ) → neg (odd 54 s q k 1074) ≡ odd 54 (not s) q k 1074
    turned zero = refl
    turned (suc q) = refl

    go : (b : Bool) (x y : Float) → neg x ≡ y → neg (cond b x (inf s)) ≡ cond b y (inf (not s))
    go true x y e = e
    go false x y e = refl

-- `n as f64`, and with a minus before it
pub double-minus : (s : Bool) (n : ℕ) → s ≡ true → neg (of_int binary64 (pos n)) ≡ round binary64 s n 1
unfolding of_int
double-minus s n e = ap neg (shape false n) ∙ neg-units false (kept n) (dropped n) ∙ sym (shape true n) ∙ ap (λ (t : Bool). round binary64 t n 1) (sym e)

pub double-plus : (s : Bool) (n : ℕ) → s ≡ false → of_int binary64 (pos n) ≡ round binary64 s n 1
unfolding of_int
double-plus s n e = ap (λ (t : Bool). round binary64 t n 1) (sym e)

-- neither is a NaN
pub round-no-nan : (s : Bool) (n : ℕ) → T (not (is_nan (round binary64 s n 1)))
unfolding units odd is_nan
round-no-nan s n = subst (λ (x : Float). T (not (is_nan x))) (sym (shape s n)) (go (kept n) (dropped n))
  where
    inner : (q k : ℕ) → T (not (is_nan (odd 54 s q k 1074)))
    inner zero k = tt
    inner (suc q) k = tt

    at : (b : Bool) (q k : ℕ) → T (not (is_nan (cond b (odd 54 s q k 1074) (inf s))))
    at true q k = inner q k
    at false q k = tt

    go : (q k : ℕ) → T (not (is_nan (units binary64 s q k)))
    go q k = at (ltb (q * 2 ^ k) (2 ^ 2098)) q k

pub int-no-nan : (z : ℤ) → T (not (is_nan (of_int binary64 z)))
unfolding of_int
int-no-nan (pos n) = round-no-nan false n
int-no-nan (negsuc n) = round-no-nan true (suc n)

-- ---- by the parts

-- below 2 ^ 52 and above: n is what the digits give
pub nearest-parts : (x : Float) (s : Bool) (m j : ℕ) → PartsOf x s m j → (n : ℕ) → n ≡ half_up (m * 2 ^ j) → round binary64 s n 1 ≡ nearest_double x
unfolding nearest_double
nearest-parts x s m j p n e =
    ap (λ (z : ℕ). round binary64 s z 1) (e ∙ ap half_up (sym p.size))
    ∙ ap (λ (t : Bool). round binary64 t (half_up (size_of x)) 1) (sym p.sign)

-- a finite double's value is its own
own_value : (x : Float) → T (fits binary64 x) → T (finite x) → HasValue x (negative x) (size_of x) unit
unfolding negative
own_value nan F f = absurd f
own_value (inf s) F f = absurd f
own_value (fin s m e) F f = (refl, sym (exact (fin s m e) F))

-- n * 2 ^ 1074 units are n
whole-value : (x : Float) (s : Bool) (a n : ℕ) → a ≡ n * unit → HasValue x s a unit → HasValue x s n 1
whole-value nan s a n e h = h
whole-value (inf t) s a n e h = h
whole-value (fin t m e) s a n q h = (
  h.0,
  eq_of_mul-eq-mul_right unit (pow_pos 1074) (num (fin t m e) * 1) (n * den (fin t m e))
      (ap (λ (z : ℕ). z * unit) (mul-one (num (fin t m e))) ∙ h.1 ∙ ap (λ (z : ℕ). z * den (fin t m e)) q ∙ mul_right_comm n unit (den (fin t m e))),
)

-- from 2 ^ 52 on a double is the whole number m * 2 ^ (j - 1074), and so the nearest one
module _ (x : Float) (s : Bool) (m j : ℕ) (p : PartsOf x s m j) (F : T (fits binary64 x)) (f : T (finite x)) (h : 1074 ≤ j) where
  abbrev N : ℕ
  N = m * 2 ^ (j - 1074)

  whole : size_of x ≡ N * unit
  whole = p.size ∙ ap (λ (z : ℕ). m * z) (pow-split 1074 j h) ∙ sym (mul_assoc m (2 ^ (j - 1074)) unit)

  itself : round binary64 s N 1 ≡ x
  itself =
      whole_unique binary64 (round binary64 s N 1) x s N (round-fits binary64 s N 1) F
      (round_exact binary64 s N 1 m j (lit< tt) p.digits (lt_of_lt_of_le (shl_lt 53 j p.digits) (pow_mono {i = 53 + j} {j = 2098} (go j p.power))) (sym whole ∙ p.size ∙ sym (mul-one (m * 2 ^ j))))
      (subst (λ (t : Bool). HasValue x t N 1) p.sign (whole-value x (negative x) (size_of x) N whole (own_value x F f)))
    where
      go : (j : ℕ) → j < 2046 → 53 + j ≤ 2098
      go j h = omega arith

  pub nearest-itself : nearest_double x ≡ x
  nearest-itself = sym (nearest-parts x s m j p N (nearest-up m j 1074 h)) ∙ itself
