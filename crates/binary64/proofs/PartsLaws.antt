-- A finite double by its parts, the sign, digits and power that its bit pattern has: how the pattern gives them, what they say of its size, and what they are rounded to. Assumes nothing.
use mathlib.Core.Path.{◌≡◌, refl, sym, ap, ◌∙◌, subst}
use mathlib.Core.Bool.{Bool, true, false, not, cond}
use Prim.Native.Nat.{ℕ, zero, suc, ◌+◌, ◌-◌, ◌*◌, ◌/◌, ◌%◌, ◌^◌, ◌≤◌, ◌<◌}
use mathlib.Core.Logic.{inl, inr}
use native.Mathlib.Nat.{le_trans, le_of_eq, lt_of_lt_of_le, lt_of_le_of_lt, eq-zero-or-pos, mul-le-mul_right, add_comm, mod-lt}
use native.Mathlib.Numerals.{sub-one}
use native.Mathlib.Omega.{arith}
use lib.Dec.{T, leb, eqb}
use lib.Pow.{pow_pos, pow_mono, pow-add, shl_lt}
use lib.Ieee.{Float, nan, inf, fin, binary64, is_nan, odd, of_fields, of_bits, to_bits, fits}
use lib.Ieee.Bits.{of_bits-to_bits}
use lib.Ieee.Exact.{HasValue, odd_sign}
use lib.Ieee.Scale.{finite}
use Rattle.binary64.proofs.Powers.{pow_lt_back}
use Rattle.binary64.specs.declared.Direction.{Direction}
use Rattle.binary64.specs.declared.Direction.TheVariants.{Nearest, Down, Up}
use Rattle.binary64.specs.Value.{unit, size_of, negative, half_up, cut_down, cut_up, signed, round_away, floor_of, ceil_of}
use Rattle.binary64.specs.code.Parts.{PartsOf}
use Rattle.binary64.specs.code.Whole.{rounded, size_toward}
use Rattle.binary64.proofs.WholeLaws.{nearest-small, cut_small, up_small}
use Rattle.binary64.proofs.ValueLaws.{size-of-value, sign-of-value, round_is, floor-is, ceil-is}

-- a finite double may be asked for its bits
pub finite-no-nan : (x : Float) → T (finite x) → T (not (is_nan x))
unfolding is_nan
finite-no-nan nan t = absurd t
finite-no-nan (inf s) t = tt
finite-no-nan (fin s m e) t = tt

-- ---- from the fields of a pattern: the sign s, the exponent's field x, and the digits t

of-value : (x : Float) (s : Bool) (m j : ℕ) → m < 2 ^ 53 → j < 2046 → (0 < j → 2 ^ 52 ≤ m) → HasValue x s (m * 2 ^ j) unit → PartsOf x s m j
of-value x s m j h k l v = record { sign = sign-of-value x s (m * 2 ^ j) unit v; size = size-of-value x s (m * 2 ^ j) v; digits = h; power = k; lead = l }

of_bits_is : (b : ℕ) → of_bits binary64 b ≡ of_fields binary64 (leb (2 ^ 63) b) (b % 2 ^ 63 / 2 ^ 52) (b % 2 ^ 52)
unfolding of_bits
of_bits_is b = refl

-- a field of all ones, 2047, gives nothing finite
below_top : (x t : ℕ) (s : Bool) (v : Float) → T (finite (cond (eqb x 2047) (cond (eqb t 0) (inf s) nan) v)) → cond (eqb x 2047) (cond (eqb t 0) (inf s) nan) v ≡ v
below_top x t s v h = go (eqb x 2047) (eqb t 0) h
  where
    go : (a b : Bool) → T (finite (cond a (cond b (inf s) nan) v)) → cond a (cond b (inf s) nan) v ≡ v
    go true true h = absurd h
    go true false h = absurd h
    go false b h = refl

not_top : (x t : ℕ) (s : Bool) (v : Float) → T (finite (cond (eqb x 2047) (cond (eqb t 0) (inf s) nan) v)) → x ≡ 2047 → ⊥
not_top x t s v h e = go (eqb t 0) (subst (λ (k : ℕ). T (finite (cond (eqb k 2047) (cond (eqb t 0) (inf s) nan) v))) e h)
  where
    go : (b : Bool) → T (finite (cond b (inf s) nan)) → ⊥
    go true h = h
    go false h = h

-- a field of 0: no leading digit
fields-zero : (s : Bool) (x t : ℕ) → x ≡ 0 → t < 2 ^ 52 → PartsOf (of_fields binary64 s x t) s t 0
unfolding of_fields
fields-zero s x t e h = subst (λ (k : ℕ). PartsOf (of_fields binary64 s k t) s t 0) (sym e) (of-value (odd 53 s t 0 1074) s t 0 (omega arith) (omega arith) (λ l. omega arith) (odd_sign 53 s t 0 1074))

-- any other: a leading digit, and one power less than the field
fields-suc : (s : Bool) (x t : ℕ) → (x ≡ 0 → ⊥) → t < 2 ^ 52 → x < 2048 → T (finite (of_fields binary64 s x t)) → PartsOf (of_fields binary64 s x t) s (t + 2 ^ 52) (x - 1)
unfolding of_fields
fields-suc s zero t n h l f = absurd (n refl)
fields-suc s (suc x) t n h l f =
    let v = odd 53 s (2 ^ 52 + t) x 1074 in
    let k : suc x ≡ 2047 → ⊥ = not_top (suc x) t s v f in
    subst (λ (z : Float). PartsOf z s (t + 2 ^ 52) (suc x - 1)) (sym (below_top (suc x) t s v f))
    (subst (λ (z : ℕ). PartsOf v s (t + 2 ^ 52) z) (sym (sub-one (suc x)))
    (subst (λ (z : ℕ). PartsOf v s z x) (add_comm (2 ^ 52) t) (of-value v s (2 ^ 52 + t) x (omega arith) (omega arith) (λ l. omega arith) (odd_sign 53 s (2 ^ 52 + t) x 1074))))

-- the two cases for the pattern b of a finite x
module _ (x : Float) (F : T (fits binary64 x)) (f : T (finite x)) where
  abbrev b : ℕ
  b = to_bits binary64 x

  abbrev y : Float
  y = of_fields binary64 (leb (2 ^ 63) b) (b % 2 ^ 63 / 2 ^ 52) (b % 2 ^ 52)

  is : y ≡ x
  is = sym (of_bits_is b) ∙ of_bits-to_bits binary64 x F

  pub parts-zero : b % 2 ^ 63 / 2 ^ 52 ≡ 0 → PartsOf x (leb (2 ^ 63) b) (b % 2 ^ 52) 0
  parts-zero e = subst (λ (z : Float). PartsOf z (leb (2 ^ 63) b) (b % 2 ^ 52) 0) is (fields-zero (leb (2 ^ 63) b) (b % 2 ^ 63 / 2 ^ 52) (b % 2 ^ 52) e (mod-lt b (pow_pos 52)))

  pub parts-suc : (b % 2 ^ 63 / 2 ^ 52 ≡ 0 → ⊥) → PartsOf x (leb (2 ^ 63) b) (b % 2 ^ 52 + 2 ^ 52) (b % 2 ^ 63 / 2 ^ 52 - 1)
  parts-suc n =
      subst (λ (z : Float). PartsOf z (leb (2 ^ 63) b) (b % 2 ^ 52 + 2 ^ 52) (b % 2 ^ 63 / 2 ^ 52 - 1)) is
      (fields-suc (leb (2 ^ 63) b) (b % 2 ^ 63 / 2 ^ 52) (b % 2 ^ 52) n (mod-lt b (pow_pos 52)) (field b) (subst (λ (z : Float). T (finite z)) (sym is) f))
    where
      field : (b : ℕ) → b % 2 ^ 63 / 2 ^ 52 < 2048
      field b = omega arith

-- ---- bounds on the size as bounds on the power: a test `power < k` decides whether the size is below 2 ^ (52 + k)
pub power-under : (x : Float) (s : Bool) (m j k : ℕ) → PartsOf x s m j → 0 < k → size_of x < 2 ^ (52 + k) → j < k
power-under x s m j k p K h = elim (eq-zero-or-pos j) [
  | inl z ↦ none j z
  | inr l ↦ fewer (pow_lt_back (52 + j) (52 + k) (lt_of_le_of_lt (le_trans (le_of_eq (pow-add 2 52 j)) (mul-le-mul_right (2 ^ j) (p.lead l))) (subst (λ (z : ℕ). z < 2 ^ (52 + k)) p.size h)))
]
  where
    none : (i : ℕ) → i ≡ 0 → i < k
    none i e = omega arith

    fewer : 52 + j < 52 + k → j < k
    fewer l = omega arith

pub power-over : (x : Float) (s : Bool) (m j k : ℕ) → PartsOf x s m j → 2 ^ (52 + k) ≤ size_of x → k ≤ j
power-over x s m j k p h = go (pow_lt_back (52 + k) (53 + j) (lt_of_le_of_lt (subst (λ (z : ℕ). 2 ^ (52 + k) ≤ z) p.size h) (shl_lt 53 j p.digits)))
  where
    go : 52 + k < 53 + j → k ≤ j
    go l = omega arith

pub size-under : (x : Float) (s : Bool) (m j k : ℕ) → PartsOf x s m j → j < k → size_of x < 2 ^ (52 + k)
size-under x s m j k p h = subst (λ (z : ℕ). z < 2 ^ (52 + k)) (sym p.size) (lt_of_lt_of_le (shl_lt 53 j p.digits) (pow_mono (go h)))
  where
    go : j < k → 53 + j ≤ 52 + k
    go l = omega arith

pub size-over : (x : Float) (s : Bool) (m j k : ℕ) → PartsOf x s m j → 0 < k → k ≤ j → 2 ^ (52 + k) ≤ size_of x
size-over x s m j k p K h =
    le_trans (pow_mono {i = 52 + k} {j = 52 + j} (go h)) (le_trans (le_of_eq (pow-add 2 52 j)) (le_trans (mul-le-mul_right (2 ^ j) (p.lead (lt_of_lt_of_le K h))) (le_of_eq (sym p.size))))
  where
    go : k ≤ j → 52 + k ≤ 52 + j
    go l = omega arith

-- ---- rounded to a whole number, in any direction

-- the size rounded, with the sign
toward-is : (d : Direction) (x : Float) → signed (negative x) (size_toward d (negative x) (size_of x)) ≡ rounded d x
toward-is Nearest x = sym (round_is x)
toward-is Down x = sym (floor-is x)
toward-is Up x = ap (signed (negative x)) (flip (negative x) (cut_up (size_of x)) (cut_down (size_of x))) ∙ sym (ceil-is x)
  where
    flip : (s : Bool) (a b : ℕ) → cond (not s) a b ≡ cond s b a
    flip true a b = refl
    flip false a b = refl

-- the same by the parts: n is what the digits give
pub toward-parts : (d : Direction) (x : Float) (s : Bool) (m j : ℕ) → PartsOf x s m j → (n : ℕ) → n ≡ size_toward d s (m * 2 ^ j) → signed s n ≡ rounded d x
toward-parts d x s m j p n e =
    ap (signed s) (e ∙ ap (size_toward d s) (sym p.size)) ∙ ap (λ (t : Bool). signed t (size_toward d t (size_of x))) (sym p.sign) ∙ toward-is d x

-- and at each direction
module _ (x : Float) (s : Bool) (m j : ℕ) (p : PartsOf x s m j) where
  pub round-parts : (n : ℕ) → n ≡ half_up (m * 2 ^ j) → signed s n ≡ round_away x
  round-parts = toward-parts Nearest x s m j p

  pub floor-parts : (n : ℕ) → n ≡ cond s (cut_up (m * 2 ^ j)) (cut_down (m * 2 ^ j)) → signed s n ≡ floor_of x
  floor-parts = toward-parts Down x s m j p

  pub ceil-parts : (n : ℕ) → n ≡ cond (not s) (cut_up (m * 2 ^ j)) (cut_down (m * 2 ^ j)) → signed s n ≡ ceil_of x
  ceil-parts = toward-parts Up x s m j p

-- below 2 ^ 53 wholes each gives at most that
below-53 : (m j : ℕ) → m < 2 ^ 53 → j < 1074 → m * 2 ^ j < 2 ^ 53 * unit
below-53 m j h k = lt_of_lt_of_le (shl_lt 53 j h) (le_trans (pow_mono {i = 53 + j} {j = 53 + 1074} (go j k)) (le_of_eq (pow-add 2 53 1074)))
  where
    go : (j : ℕ) → j < 1074 → 53 + j ≤ 53 + 1074
    go j h = omega arith

pub nearest-fits : (m j n : ℕ) → m < 2 ^ 53 → j < 1074 → n ≡ half_up (m * 2 ^ j) → n ≤ 2 ^ 53
nearest-fits m j n h k e = le_trans (le_of_eq e) (nearest-small (m * 2 ^ j) (2 ^ 53) unit (pow_pos 1074) (below-53 m j h k))

pub cut_fits : (up : Bool) (m j n : ℕ) → m < 2 ^ 53 → j < 1074 → n ≡ cond up (cut_up (m * 2 ^ j)) (cut_down (m * 2 ^ j)) → n ≤ 2 ^ 53
cut_fits true m j n h k e = le_trans (le_of_eq e) (up_small (m * 2 ^ j) (2 ^ 53) unit (pow_pos 1074) (below-53 m j h k))
cut_fits false m j n h k e = le_trans (le_of_eq e) (cut_small (m * 2 ^ j) (2 ^ 53) unit (pow_pos 1074) (below-53 m j h k))

pub toward-fits : (d : Direction) (s : Bool) (m j n : ℕ) → m < 2 ^ 53 → j < 1074 → n ≡ size_toward d s (m * 2 ^ j) → n ≤ 2 ^ 53
toward-fits Nearest s m j n h k e = nearest-fits m j n h k e
toward-fits Down s m j n h k e = cut_fits s m j n h k e
toward-fits Up s m j n h k e = cut_fits (not s) m j n h k e
