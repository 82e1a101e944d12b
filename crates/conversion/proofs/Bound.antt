-- The bound of one conversion: an accepted database value is close to its physical value, by the policy's allowance. Assumes nothing.
use mathlib.Core.Path.{◌≡◌, refl, sym, ap, ◌∙◌, subst}
use mathlib.Core.Bool.{Bool, true, false, cond}
use Prim.Native.Nat.{ℕ, zero, suc, ◌+◌, ◌-◌, ◌*◌, ◌/◌, ◌^◌, ◌≤◌, ◌<◌}
use native.Mathlib.Nat.{le_of_lt, lt_of_le_of_lt, mul-le-mul_right, mul-lt-mul_of_pos_right}
use lib.Dec.{T, ltb→lt, lit<, lit≤}
use lib.Pow.{pow_pos}
use lib.IntN.{ℤ, pos, nat_abs, ◌-ℤ◌, ◌*ℤ◌}
use lib.Ieee.{Float, binary64, fits, div, round}
use lib.Ieee.Fits.{round-fits}
use lib.Ieee.Exact.{HasValue}
use lib.Ieee.Scale.{finite}
use lib.Ieee.Positive.{positive}
use Rattle.binary64.proofs.Half.{Near, near-wider}
use Rattle.binary64.specs.Value.{unit, size_of, negative, signed, scaled, round_away, floor_of, ceil_of}
use Rattle.binary64.proofs.ValueLaws.{size-of-value, sign-of-value, floor-is, ceil-is, round_is}
use Rattle.binary64.proofs.Quotient.{positive-sign, quotient-sign, quotient-within}
use Rattle.binary64.specs.Step.{nearest_double}
use Rattle.binary64.proofs.StepLaws.{near_step}
use Rattle.binary64.proofs.Exact.{widen}
use Rattle.conversion.specs.Convert.{on_grid, in_range}
use Rattle.conversion.specs.Close.{Close}
use Rattle.conversion.proofs.SnapLaws.{whole-value, value-finite}
use Rattle.conversion.proofs.Distance.{near-grid, near-abs, nearest-near, down-near, up-near, below-32}

-- a step of s below 2 ^ 32, in units of 2 ^ -1074
abbrev pub w : ℕ
w = 2 ^ 1053

-- q is a size k with s's sign, and k grid steps are within c w / 2 of s
pub record Rounds (s : Float) (c : ℕ) (q : ℤ) : Type 0 where
  pub size : ℕ
  pub is : q ≡ signed (negative s) size
  pub near : Near (size * unit) (size_of s) (c * w)

range_size : (s : Bool) (k : ℕ) → T (in_range (signed s k)) → k ≤ 2 ^ 31
range_size false k t = le_of_lt (ltb→lt k (2 ^ 31) t)
range_size true zero t = lit≤ tt
range_size true (suc k) t = ltb→lt k (2 ^ 31) t

-- ---- from s to p

module _ (p d : Float) (P : T (fits binary64 p)) (D : T (fits binary64 d)) (a : T (finite p)) (b : T (positive d)) (c : T (finite (div binary64 p d))) where
  unit-is : scaled d ≡ pos (size_of d)
  unfolding scaled
  unit-is = ap (λ (s : Bool). signed s (size_of d)) (positive-sign d b)

  pub rounds-close : (n : ℕ) (q : ℤ) → n ≤ 2 ^ 22 → T (in_range q) → Rounds (div binary64 p d) n q → Close (n + 1) d (scaled p) q
  unfolding scaled
  rounds-close n q h r z =
      let s = div binary64 p d in
      let k = z.size in
      let e : q ≡ signed (negative p) k = z.is ∙ ap (λ (t : Bool). signed t k) (quotient-sign p d P D a b c) in
      let l : size_of s < 2 ^ 32 * unit = below-32 k (size_of s) unit (pow_pos 1074) (range_size (negative s) k (subst (λ (x : ℤ). T (in_range x)) z.is r)) (near-wider (mul-le-mul_right w h) z.near) in
      let g = near-grid k (size_of s) (size_of p) (size_of d) unit w n (pow_pos 1053) refl z.near (quotient-within p d P D a b c l) in
      let f : nat_abs (signed (negative p) k *ℤ pos (size_of d) -ℤ scaled p) * 2 ^ 22 ≤ (n + 1) * size_of d = near-abs (negative p) k (size_of p) (size_of d) (n + 1) g in
      subst (λ (x : ℤ). nat_abs (q *ℤ x -ℤ scaled p) * 2 ^ 22 ≤ (n + 1) * nat_abs x) (sym unit-is)
      (subst (λ (x : ℤ). nat_abs (x *ℤ pos (size_of d) -ℤ scaled p) * 2 ^ 22 ≤ (n + 1) * size_of d) (sym e) f)

-- ---- from q to s

pub nearest-rounds : (s : Float) → Rounds s (2 ^ 21) (round_away s)
nearest-rounds s = record { size = (2 * size_of s + unit) / (2 * unit); is = round_is s; near = nearest-near (size_of s) unit (pow_pos 1074) }

cut-near : (t : Bool) (S : ℕ) → Near (cond t ((S + unit - 1) / unit) (S / unit) * unit) S (2 ^ 22 * w)
cut-near true S = up-near S unit (pow_pos 1074)
cut-near false S = down-near S unit (pow_pos 1074)

cut-near' : (t : Bool) (S : ℕ) → Near (cond t (S / unit) ((S + unit - 1) / unit) * unit) S (2 ^ 22 * w)
cut-near' true S = down-near S unit (pow_pos 1074)
cut-near' false S = up-near S unit (pow_pos 1074)

pub floor-rounds : (s : Float) → Rounds s (2 ^ 22) (floor_of s)
floor-rounds s = record { size = cond (negative s) ((size_of s + unit - 1) / unit) (size_of s / unit); is = floor-is s; near = cut-near (negative s) (size_of s) }

pub ceil-rounds : (s : Float) → Rounds s (2 ^ 22) (ceil_of s)
ceil-rounds s = record { size = cond (negative s) (size_of s / unit) ((size_of s + unit - 1) / unit); is = ceil-is s; near = cut-near' (negative s) (size_of s) }

-- ---- snapped: s is one step from the double that is nearest to it

module _ (s : Float) (S : T (fits binary64 s)) (f : T (finite s)) (g : T (on_grid s)) (r : T (in_range (round_away s))) where
  abbrev k : ℕ
  k = (2 * size_of s + unit) / (2 * unit)

  k-le : k ≤ 2 ^ 31
  k-le = range_size (negative s) k (subst (λ (x : ℤ). T (in_range x)) (round_is s) r)

  k-value : HasValue (round binary64 (negative s) k 1) (negative s) k 1
  k-value = whole-value (negative s) k (lt_of_le_of_lt k-le (lit< tt))

  abbrev y : Float
  y = round binary64 (negative s) k 1

  y-size : size_of y ≡ k * unit
  y-size = size-of-value y (negative s) (k * unit) (widen y (negative s) k k-value)

  y-sign : negative y ≡ negative s
  y-sign = sign-of-value y (negative s) k 1 k-value

  pub snap-rounds : Rounds s 2 (round_away s)
  unfolding on_grid nearest_double
  snap-rounds =
      let n = nearest-near (size_of s) unit (pow_pos 1074) in
      let l : size_of s < 2 ^ 32 * unit = below-32 k (size_of s) unit (pow_pos 1074) k-le (near-wider (lit≤ tt) n) in
      let v : k < 2 ^ 32 = lt_of_le_of_lt k-le (lit< tt) in
      let m : k * unit < 2 ^ 32 * unit = mul-lt-mul_of_pos_right {n = 2 ^ 32} v (pow_pos 1074) in
      let z : Near (size_of s) (size_of y) (2 ^ 1053 * 2) = near_step s y 1053 S f (round-fits binary64 (negative s) k 1) (value-finite y (negative s) k k-value) (sym y-sign) g l (subst (λ (x : ℕ). x < 2 ^ 32 * unit) (sym y-size) m) in
      record { size = k; is = round_is s; near = subst (λ (x : ℕ). Near x (size_of s) (2 * w)) y-size (record { above = z.below; below = z.above }) }
