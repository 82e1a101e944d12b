-- The quotient s = p / d of two doubles, for a d above zero and a finite s, beside the true quotient. With S, P, D the three in units of 2 ^ -1074, |S * D - P * 2 ^ 1074| * 2 ≤ D * 2 ^ j
-- wherever S is below 2 ^ (53 + j). So s is within 2 ^ -22 of the true quotient while it is below 2 ^ 32 in size, and it has p's sign. Assumes nothing.
use mathlib.Core.Path.{◌≡◌, refl, sym, ap, ◌∙◌, subst}
use mathlib.Core.Bool.{Bool, true, false, not, cond}
use Prim.Native.Nat.{ℕ, ◌+◌, ◌*◌, ◌^◌, ◌<◌}
use native.Mathlib.Nat.{lt_irrefl, mul_comm, mul_assoc, mul_left_comm, mul-pos}
use lib.Dec.{T, eqb, ltb→lt, not_T, eqb→eq}
use lib.Ieee.{Float, nan, inf, fin, Format, binary64, up, down, unlike, round, div, fits}
use lib.Ieee.Fits.{up_pos}
use lib.Ieee.Bits.{cond_no}
use lib.Ieee.Exact.{HasValue}
use lib.Ieee.Positive.{num, den, den_pos, positive}
use lib.Ieee.Scale.{grid, finite}
use Rattle.binary64.proofs.Half.{Near, near_times, near-cancel, near-eq, half-below, round_val}
use Rattle.binary64.specs.Value.{unit, size_of, negative}
use Rattle.binary64.proofs.ValueLaws.{size-of-value, sign-of-value, exact}

-- ---- `div` rounds the fraction once

not-zero : (n : ℕ) → 0 < n → T (not (eqb n 0))
not-zero n h = not_T (eqb n 0) (λ t. lt_irrefl 0 (subst (λ (k : ℕ). 0 < k) (eqb→eq n 0 t) h))

same_sign : (s : Bool) → unlike s false ≡ s
same_sign true = refl
same_sign false = refl

pub div_is : (f : Format) (p d : Float) → T (finite p) → T (positive d) → div f p d ≡ round f (negative p) (num p * den d) (num d * den p)
unfolding div negative
div_is f nan d a b = absurd a
div_is f (inf s) d a b = absurd a
div_is f (fin s m e) nan a b = absurd b
div_is f (fin s m e) (inf t) a b = absurd b
div_is f (fin s m e) (fin true n g) a b = absurd b
div_is f (fin s m e) (fin false n g) a b =
    cond_no (eqb n 0) (cond (eqb m 0) nan (inf (unlike s false))) (round f (unlike s false) (m * up e * down g) (n * up g * down e)) (not-zero n (ltb→lt 0 n b))
    ∙ ap (λ (t : Bool). round f t (m * up e * down g) (n * up g * down e)) (same_sign s)

pub num_pos : (x : Float) → T (positive x) → 0 < num x
num_pos nan p = absurd p
num_pos (inf s) p = absurd p
num_pos (fin true m e) p = absurd p
num_pos (fin false m e) p = mul-pos (ltb→lt 0 m p) (up_pos e)

pub positive-sign : (x : Float) → T (positive x) → negative x ≡ false
unfolding negative
positive-sign nan p = absurd p
positive-sign (inf s) p = absurd p
positive-sign (fin true m e) p = absurd p
positive-sign (fin false m e) p = refl

module _ (p d : Float) (P : T (fits binary64 p)) (D : T (fits binary64 d)) (a : T (finite p)) (b : T (positive d)) (c : T (finite (div binary64 p d))) where
  abbrev N : ℕ
  N = num p * den d

  abbrev M : ℕ
  M = num d * den p

  value : HasValue (div binary64 p d) (negative p) (grid binary64 N M) unit
  value = subst (λ (x : Float). HasValue x (negative p) (grid binary64 N M) unit) (sym (div_is binary64 p d a b))
      (round_val binary64 (negative p) N M (subst (λ (x : Float). T (finite x)) (div_is binary64 p d a b) c))

  -- s has p's sign
  pub quotient-sign : negative (div binary64 p d) ≡ negative p
  quotient-sign = sign-of-value (div binary64 p d) (negative p) (grid binary64 N M) unit value

  -- and the fraction's rounded size
  pub quotient-size : size_of (div binary64 p d) ≡ grid binary64 N M
  quotient-size = size-of-value (div binary64 p d) (negative p) (grid binary64 N M) value

  -- the law, by the size of s
  pub quotient-near : (j : ℕ) → size_of (div binary64 p d) < 2 ^ (53 + j) → Near (size_of (div binary64 p d) * size_of d) (size_of p * unit) (size_of d * 2 ^ j)
  quotient-near j h =
      let S = size_of (div binary64 p d) in
      let g = grid binary64 N M in
      let n1 : Near (g * M) (N * unit) (M * 2 ^ j) = half-below binary64 N M j (mul-pos (num_pos d b) (den_pos p)) (subst (λ (x : ℕ). x < 2 ^ (53 + j)) quotient-size h) in
      let n2 : Near (S * M) (N * unit) (M * 2 ^ j) = near-eq (ap (λ (x : ℕ). x * M) (sym quotient-size)) refl refl n1 in
      near-cancel (S * size_of d) (size_of p * unit) (size_of d * 2 ^ j) (den d * den p) (mul-pos (den_pos d) (den_pos p))
      (near-eq (same S (size_of d) (num d) (den d) (den p) unit (exact d D)) (other (size_of p) (num p) (den d) (den p) unit (exact p P)) (third (size_of d) (num d) (den d) (den p) (2 ^ j) unit (exact d D))
      (near_times unit n2))
    where
      same : (S D n e g u : ℕ) → D * e ≡ n * u → S * (n * g) * u ≡ S * D * (e * g)
      same S D n e g u h = simp mul_assoc (simp (mul_assoc, mul_comm, mul_left_comm) at (ap (λ (z : ℕ). S * g * z) (sym h)))

      other : (P n e g u : ℕ) → P * g ≡ n * u → n * e * u * u ≡ P * u * (e * g)
      other P n e g u h = simp (mul_assoc, mul_comm, mul_left_comm) (simp (mul_assoc, mul_comm, mul_left_comm) at (ap (λ (z : ℕ). e * u * z) (sym h)))

      third : (D n e g k u : ℕ) → D * e ≡ n * u → n * g * k * u ≡ D * k * (e * g)
      third D n e g k u h = simp (mul_assoc, mul_comm, mul_left_comm) (simp (mul_assoc, mul_comm, mul_left_comm) at (ap (λ (z : ℕ). g * k * z) (sym h)))

  -- |s| < 2 ^ 32: |s - p / d| ≤ 2 ^ -22, which is 2 ^ 1052 of the 2 ^ 1074 units of 1
  pub quotient-within : size_of (div binary64 p d) < 2 ^ 32 * unit → Near (size_of (div binary64 p d) * size_of d) (size_of p * unit) (size_of d * 2 ^ 1053)
  quotient-within h = quotient-near 1053 h
