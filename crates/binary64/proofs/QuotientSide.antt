-- A quotient p / d, rounded, beside a whole number q: it lies on the side of q on which p lies of q * d (`quotient-under`, `quotient-over`); and what it is rounded down to is at most it, and up to at least
-- (`floor-under`, `ceil-over`). Assumes nothing.
use mathlib.Core.Path.{◌≡◌, sym, ap, ◌∙◌, subst}
use mathlib.Core.Logic.{inl, inr}
use mathlib.Core.Bool.{Bool, true, false, cond}
use Prim.Native.Nat.{ℕ, zero, suc, ◌+◌, ◌-◌, ◌*◌, ◌/◌, ◌%◌, ◌^◌, ◌≤◌, ◌<◌, zero-le}
use native.Mathlib.Nat.{le_trans, le_of_eq, le_antisymm, mul-pos, mul-le-mul_right, mul_right_comm, zero-mul, suc-mul, div-mul-le_self, div-add-mod', mod-lt, eq-zero-or-pos, not-le_of_lt}
use native.Mathlib.Omega.{arith}
use lib.Dec.{T}
use lib.Pow.{pow_pos}
use lib.IntN.{ℤ, pos, nat_abs, ◌*ℤ◌}
use lib.Signed.{◌≤ℤ◌}
use lib.Ieee.{Float, binary64, unlike, round, div, of_int, fits}
use lib.Ieee.Fits.{of_int-fits}
use lib.Ieee.Positive.{positive}
use lib.Ieee.Scale.{finite}
use Rattle.binary64.specs.Value.{unit, size_of, cut_down, cut_up, negative, signed, scaled, floor_of, ceil_of}
use Rattle.binary64.proofs.WholeLaws.{up_suc}
use Rattle.binary64.proofs.ValueLaws.{size-of-value, sign-of-value, floor-is, ceil-is}
use Rattle.binary64.proofs.AbsLaws.{round-sign}
use Rattle.binary64.proofs.Signed.{unlike-plus, signed-scale, signed-times}
use Rattle.binary64.proofs.Quotient.{positive-sign}
use Rattle.binary64.proofs.Order.{Below, below→signed, signed-order}
use Rattle.binary64.proofs.Exact.{Is, is_finite, int_is, widen}
use Rattle.binary64.proofs.Beside.{size_below, size_above}
use Rattle.binary64.proofs.TimesBack.{size-pos, quotient-round}
use Rattle.binary64.proofs.Side.{zero-size}

-- ---- rounded down and up to a whole number

up-cover : (n u : ℕ) → 0 < u → n ≤ (n + u - 1) / u * u
up-cover zero u U = zero-le
up-cover (suc n) u U = le_trans (go (n / u) (n % u) (div-add-mod' n u) (mod-lt n U)) (le_of_eq (ap (λ (k : ℕ). k * u) (sym (up_suc n u U))))
  where
    go : (k r : ℕ) → k * u + r ≡ n → r < u → suc n ≤ suc k * u
    go k r e h = let s = suc-mul k u in omega arith

scaled-cut : (s : Bool) (k n : ℕ) → Below s (k * unit) s n → (signed s k *ℤ pos unit) ≤ℤ signed s n
scaled-cut s k n h = subst (λ (z : ℤ). z ≤ℤ signed s n) (sym (signed-scale s k unit)) (below→signed s s (k * unit) n h)

scaled-cut-over : (s : Bool) (k n : ℕ) → Below s n s (k * unit) → signed s n ≤ℤ (signed s k *ℤ pos unit)
scaled-cut-over s k n h = subst (λ (z : ℤ). signed s n ≤ℤ z) (sym (signed-scale s k unit)) (below→signed s s n (k * unit) h)

pub floor-under : (x : Float) → (floor_of x *ℤ pos unit) ≤ℤ scaled x
unfolding scaled
floor-under x = subst (λ (z : ℤ). (z *ℤ pos unit) ≤ℤ scaled x) (sym (floor-is x)) (scaled-cut (negative x) (cond (negative x) (cut_up n) (cut_down n)) n (cut (negative x)))
  where
    n : ℕ
    n = size_of x

    cut : (s : Bool) → Below s (cond s (cut_up n) (cut_down n) * unit) s n
    cut false = div-mul-le_self n unit
    cut true = up-cover n unit (pow_pos 1074)

pub ceil-over : (x : Float) → scaled x ≤ℤ (ceil_of x *ℤ pos unit)
unfolding scaled
ceil-over x = subst (λ (z : ℤ). scaled x ≤ℤ (z *ℤ pos unit)) (sym (ceil-is x)) (scaled-cut-over (negative x) (cond (negative x) (cut_down n) (cut_up n)) n (cut (negative x)))
  where
    n : ℕ
    n = size_of x

    cut : (s : Bool) → Below s n s (cond s (cut_down n) (cut_up n) * unit)
    cut false = up-cover n unit (pow_pos 1074)
    cut true = div-mul-le_self n unit

-- ---- the quotient beside q

module _ (q : ℤ) (l : nat_abs q ≤ 2 ^ 53) where
  abbrev y : Float
  y = of_int binary64 q

  i : Is y q
  i = int_is q l

  y-sign : negative y ≡ i.sign
  y-sign = sign-of-value y i.sign i.size 1 i.value

  y-size : size_of y ≡ i.size * unit
  y-size = size-of-value y i.sign (i.size * unit) (widen y i.sign i.size i.value)

  -- q as a double
  pub int-scaled : scaled y ≡ (q *ℤ pos unit)
  unfolding scaled
  int-scaled = ap (λ (s : Bool). signed s (size_of y)) y-sign ∙ ap (signed i.sign) y-size ∙ sym (signed-scale i.sign i.size unit) ∙ ap (λ (z : ℤ). z *ℤ pos unit) i.is

  module _ (p d : Float) (P : T (fits binary64 p)) (D : T (fits binary64 d)) (f : T (finite p)) (b : T (positive d)) (g : T (finite (div binary64 p d))) where
    abbrev s : Float
    s = div binary64 p d

    s-is : s ≡ round binary64 (negative p) (size_of p) (size_of d)
    s-is = quotient-round p d P D f b

    N : 0 < size_of d
    N = size-pos d D b

    h : T (finite (round binary64 (negative p) (size_of p) (size_of d)))
    h = subst (λ (x : Float). T (finite x)) s-is g

    -- q * d, and q * unit * d
    abbrev w : ℕ
    w = i.size * size_of d

    turned : size_of y * size_of d ≡ w * unit
    turned = ap (λ (n : ℕ). n * size_of d) y-size ∙ mul_right_comm i.size unit (size_of d)

    at_most : size_of p ≤ w → size_of s ≤ size_of y
    at_most k = le_trans (le_of_eq (ap size_of s-is)) (size_below y (of_int-fits binary64 q) (is_finite i) (negative p) (size_of p) (size_of d) N h (le_trans (mul-le-mul_right unit k) (le_of_eq (sym turned))))

    at_least : w ≤ size_of p → size_of y ≤ size_of s
    at_least k = le_trans (size_above y (of_int-fits binary64 q) (is_finite i) (negative p) (size_of p) (size_of d) N h (le_trans (le_of_eq turned) (mul-le-mul_right unit k))) (le_of_eq (sym (ap size_of s-is)))

    none_left : size_of p ≤ 0 → size_of s ≤ 0
    none_left k = le_of_eq (ap size_of (s-is ∙ ap (λ (n : ℕ). round binary64 (negative p) n (size_of d)) (le_antisymm k zero-le)) ∙ zero-size (negative p) (size_of d) N)

    none_right : w ≤ 0 → size_of y ≤ 0
    none_right k = elim (eq-zero-or-pos i.size) [
      | inl e ↦ le_of_eq (y-size ∙ ap (λ (n : ℕ). n * unit) e ∙ zero-mul unit)
      | inr n ↦ absurd (not-le_of_lt (mul-pos n N) k)
    ]

    s-sign : negative s ≡ negative p
    s-sign = ap negative s-is ∙ round-sign binary64 (negative p) (size_of p) (size_of d)

    product : (q *ℤ scaled d) ≡ signed i.sign w
    unfolding scaled
    product =
        ap (λ (z : ℤ). z *ℤ scaled d) (sym i.is)
        ∙ sym (signed-times i.sign (negative d) i.size (size_of d))
        ∙ ap (λ (t : Bool). signed t w) (ap (unlike i.sign) (positive-sign d b) ∙ unlike-plus i.sign)

    s-scaled : scaled s ≡ signed (negative p) (size_of s)
    unfolding scaled
    s-scaled = ap (λ (t : Bool). signed t (size_of s)) s-sign

    y-scaled : scaled y ≡ signed i.sign (size_of y)
    unfolding scaled
    y-scaled = ap (λ (t : Bool). signed t (size_of y)) y-sign

    pub quotient-under : scaled p ≤ℤ (q *ℤ scaled d) → scaled s ≤ℤ scaled y
    unfolding scaled
    quotient-under k =
        subst (λ (z : ℤ). z ≤ℤ scaled y) (sym s-scaled) (subst (λ (z : ℤ). signed (negative p) (size_of s) ≤ℤ z) (sym y-scaled)
        (signed-order (negative p) i.sign (size_of p) w (size_of s) (size_of y) (record { up = at_most; down = at_least; left = none_left; right = none_right })
        (subst (λ (z : ℤ). scaled p ≤ℤ z) product k)))

    pub quotient-over : (q *ℤ scaled d) ≤ℤ scaled p → scaled y ≤ℤ scaled s
    unfolding scaled
    quotient-over k =
        subst (λ (z : ℤ). scaled y ≤ℤ z) (sym s-scaled) (subst (λ (z : ℤ). z ≤ℤ signed (negative p) (size_of s)) (sym y-scaled)
        (signed-order i.sign (negative p) w (size_of p) (size_of y) (size_of s) (record { up = at_least; down = at_most; left = none_right; right = none_left })
        (subst (λ (z : ℤ). z ≤ℤ scaled p) product k)))
