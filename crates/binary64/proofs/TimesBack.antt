-- A whole number of up to 32 bits times a positive double d, rounded, divided by d and rounded again lies within one step of that whole number, and is nearest to it (`there_and_back`). Assumes nothing.
use mathlib.Core.Path.{◌≡◌, sym, ap, ap₂, ◌∙◌, subst}
use mathlib.Core.Logic.{inl, inr}
use mathlib.Core.Bool.{Bool, true, false, cond}
use Prim.Native.Nat.{ℕ, zero, suc, ◌+◌, ◌-◌, ◌*◌, ◌/◌, ◌^◌, ◌≤◌, ◌<◌}
use native.Mathlib.Nat.{le_trans, le_of_eq, lt_of_lt_of_le, lt_of_le_of_lt, mul_comm, mul_assoc, mul_left_comm, mul_right_comm, mul-one, one-mul, add-mul, mul-pos, mul-le-mul_right, mod-lt, mul-mul-mul_comm, not-le_of_lt, lt_irrefl, eq-zero-or-pos, le-add_right, add-le-add}
use native.Mathlib.Decide.{dec_le}
use native.Mathlib.Omega.{arith}
use borrow.Author.Tests.{leb-false, le-leb, lt-leb, ne_eqb}
use lib.Dec.{T, leb, eqb, le→leb, lit<, lit≤}
use lib.IntN.{pos}
use lib.Signed.{◌≤ℤ◌}
use lib.Pow.{pow_pos}
use lib.Ieee.{Float, nan, inf, fin, binary64, up, down, unlike, round, odd, mul, div, of_int, fits, of_fields, of_bits, to_bits}
use lib.Ieee.Fits.{of_int-fits, round-fits, down_pos}
use lib.Ieee.Back.{round_whole}
use lib.Ieee.Bits.{of_bits-fits, to_bits-of_bits}
use lib.Ieee.Exact.{HasValue, odd_sign}
use lib.Ieee.Positive.{num, den, positive, den_pos, first_pos}
use lib.Ieee.Scale.{grid, finite, round_same}
use Rattle.binary64.specs.Value.{unit, size_of, half_up, negative, signed, scaled, round_away}
use Rattle.binary64.specs.Step.{ordered_bits, ordered, one_step, nearest_double}
use Rattle.binary64.proofs.ValueLaws.{size-of-value, sign-of-value, exact}
use Rattle.binary64.proofs.PartsLaws.{finite-no-nan, parts-suc, power-under}
use Rattle.binary64.proofs.StepLaws.{size_from, gap, gap-le, size-gaps, field_of, digits_of, no_size, by_field, size-bits, field_lt, sign-bits, next-bits, near_step}
use Rattle.binary64.proofs.Half.{Near, near-eq, near-cancel, round_val, rounding}
use Rattle.binary64.proofs.Quotient.{num_pos, div_is}
use Rattle.binary64.proofs.Order.{has-finite}
use Rattle.binary64.proofs.Beside.{finite-below, size_below, size_above}
use Rattle.binary64.proofs.Snapping.{scaled→ordered, div-rest}
use Rattle.binary64.proofs.Exact.{widen}

-- ---- a whole number w of units, rounded to p: the two differ by at most 2 ^ -53 of either

record Relative (p w : ℕ) : Type 0 where
  above : p * 2 ^ 53 ≤ w * 2 ^ 53 + p
  below : w * 2 ^ 53 ≤ p * 2 ^ 53 + w

relative : (p w : ℕ) → ((b : ℕ) → p ≤ b → 2 ^ 52 ≤ b → Near (p * 2 ^ 52) (w * 2 ^ 52) b) → Relative p w
relative p w n = record {
  above = elim (dec_le (2 ^ 52) p) [
    | yes h ↦ let k = (n p (omega arith) h).above in omega arith
    | no h ↦ let k = (n (2 ^ 52) (omega arith) (lit≤ tt)).above in omega arith
  ];
  below = elim (dec_le p w) [
    | yes l ↦ elim (dec_le (2 ^ 52) w) [
      | yes h ↦ let k = (n w l h).below in omega arith
      | no h ↦ let k = (n (2 ^ 52) (omega arith) (lit≤ tt)).below in omega arith
    ]
    | no l ↦ omega arith
  ];
}

units-relative : (w : ℕ) → T (finite (round binary64 false w unit)) → Relative (size_of (round binary64 false w unit)) w
units-relative w g =
    let r = rounding binary64 false w unit (pow_pos 1074) g in
    let e = size-of-value (round binary64 false w unit) false r.count r.value in
    subst (λ (p : ℕ). Relative p w) (sym e)
    (relative r.count w (λ b h k. near-cancel (r.count * 2 ^ 52) (w * 2 ^ 52) b unit (pow_pos 1074) (near-eq (mul_right_comm r.count unit (2 ^ 52)) (mul_right_comm w unit (2 ^ 52)) (mul_comm unit b) (r.relative b h k))))

-- ---- what this is beside the neighbours of the size z = v u, which lie g above it and below it: w is v d

module _ (p w u z g d : ℕ) (r : Relative p w) (e : z * d ≡ w * u) where
  scaled-above : p * u * 2 ^ 53 ≤ w * u * 2 ^ 53 + p * u
  scaled-above = le_trans (le_of_eq (mul_right_comm p u (2 ^ 53))) (le_trans (mul-le-mul_right u r.above) (le_of_eq (add-mul (w * 2 ^ 53) p u ∙ ap (λ (n : ℕ). n + p * u) (mul_right_comm w (2 ^ 53) u))))

  scaled-below : w * u * 2 ^ 53 ≤ p * u * 2 ^ 53 + w * u
  scaled-below = le_trans (le_of_eq (mul_right_comm w u (2 ^ 53))) (le_trans (mul-le-mul_right u r.below) (le_of_eq (add-mul (p * 2 ^ 53) w u ∙ ap (λ (n : ℕ). n + w * u) (mul_right_comm p (2 ^ 53) u))))

  under_next : z + g ≤ 2 ^ 53 * g → p * u ≤ (z + g) * d
  under_next h = le_trans (go (p * u) (w * u) (g * d) scaled-above (le_trans (le_of_eq (ap (λ (n : ℕ). n + g * d) (sym e) ∙ sym (add-mul z g d))) (le_trans (mul-le-mul_right d h) (le_of_eq (mul_assoc (2 ^ 53) g d)))))
      (le_of_eq (ap (λ (n : ℕ). n + g * d) (sym e) ∙ sym (add-mul z g d)))
    where
      go : (a b c : ℕ) → a * 2 ^ 53 ≤ b * 2 ^ 53 + a → b + c ≤ 2 ^ 53 * c → a ≤ b + c
      go a b c h k = omega arith

  over_last : (y : ℕ) → z ≡ y + g → z ≤ 2 ^ 53 * g → y * d ≤ p * u
  over_last y f h = go (p * u) (w * u) (g * d) (y * d) scaled-below (sym e ∙ ap (λ (n : ℕ). n * d) f ∙ add-mul y g d) (le_trans (le_of_eq (sym e)) (le_trans (mul-le-mul_right d h) (le_of_eq (mul_assoc (2 ^ 53) g d))))
    where
      go : (a b c y : ℕ) → b * 2 ^ 53 ≤ a * 2 ^ 53 + b → b ≡ y + c → b ≤ 2 ^ 53 * c → y ≤ a
      go a b c y h e k = omega arith

-- ---- the neighbours of a double, by their patterns

abbrev size_at : ℕ → ℕ
size_at b = size_from (field_of b) (digits_of b)

-- the double of a pattern without a sign, below infinity's
module _ (b : ℕ) (k : b < 2 ^ 63) (l : field_of b < 2047) where
  at-finite : T (finite (of_bits binary64 b))
  unfolding of_bits of_fields
  at-finite = go (field_of b) (leb (2 ^ 63) b) (digits_of b) l
    where
      go : (x : ℕ) (s : Bool) (t : ℕ) → x < 2047 → T (finite (of_fields binary64 s x t))
      go zero s t h = has-finite (odd 53 s t 0 1074) s (t * 2 ^ 0) (2 ^ 1074) (odd_sign 53 s t 0 1074)
      go (suc x) s t h =
          subst (λ (c : Bool). T (finite (cond c (cond (eqb t 0) (inf s) nan) (odd 53 s (2 ^ 52 + t) x 1074)))) (sym (ne_eqb (suc x) 2047 (λ e. omega arith)))
          (has-finite (odd 53 s (2 ^ 52 + t) x 1074) s ((2 ^ 52 + t) * 2 ^ x) (2 ^ 1074) (odd_sign 53 s (2 ^ 52 + t) x 1074))

  at-fits : T (fits binary64 (of_bits binary64 b))
  at-fits = of_bits-fits binary64 b

  at_bits : to_bits binary64 (of_bits binary64 b) ≡ b
  at_bits = to_bits-of_bits binary64 b (omega arith) (finite-no-nan (of_bits binary64 b) at-finite)

  at_size : size_of (of_bits binary64 b) ≡ size_at b
  at_size = size-bits (of_bits binary64 b) at-fits at-finite ∙ ap size_at at_bits

  at_sign : negative (of_bits binary64 b) ≡ false
  at_sign = sign-bits (of_bits binary64 b) at-fits at-finite ∙ ap (leb (2 ^ 63)) at_bits ∙ lt-leb (2 ^ 63) b k

  at-ordered : ordered (of_bits binary64 b) ≡ b + 2 ^ 63
  unfolding ordered ordered_bits
  at-ordered = ap ordered_bits at_bits ∙ ap (λ (c : Bool). cond c (2 ^ 64 - 1 - b) (b + 2 ^ 63)) (lt-leb (2 ^ 63) b k)

-- doubles without a minus sign stand in the order of their sizes
size→ordered : (x y : Float) → T (fits binary64 x) → T (fits binary64 y) → T (finite x) → T (finite y) → negative x ≡ false → negative y ≡ false → 0 < size_of y → size_of x ≤ size_of y → ordered x ≤ ordered y
unfolding scaled
size→ordered x y X Y f g s t n h =
    elim (scaled→ordered x y X Y f g (subst (λ (a : Bool). signed a (size_of x) ≤ℤ scaled y) (sym s) (subst (λ (b : Bool). pos (size_of x) ≤ℤ signed b (size_of y)) (sym t) (record { le = le→leb (size_of x) (size_of y) h })))) [
      | inl o ↦ o
      | inr z ↦ absurd (not-le_of_lt n z.1)
    ]

-- ---- there and back: v times d units, rounded, and that divided by d and rounded again

module _ (v : ℕ) (A : 0 < v) (L : v ≤ 2 ^ 31) where
  abbrev z : Float
  z = of_int binary64 (pos v)

  z-value : HasValue z false v 1
  unfolding of_int
  z-value = round_whole binary64 false v (le_trans L (lit≤ tt))

  z-finite : T (finite z)
  z-finite = has-finite z false v 1 z-value

  z-fits : T (fits binary64 z)
  z-fits = of_int-fits binary64 (pos v)

  z-size : size_of z ≡ v * unit
  z-size = size-of-value z false (v * unit) (widen z false v z-value)

  z-under : size_of z < 2 ^ 1106
  z-under = lt_of_le_of_lt (le_of_eq z-size) (lt_of_le_of_lt (mul-le-mul_right unit L) (lit< tt))

  -- its pattern
  abbrev b : ℕ
  b = to_bits binary64 z

  z-at : size_of z ≡ size_at b
  z-at = size-bits z z-fits z-finite

  b-unsigned : b < 2 ^ 63
  b-unsigned = leb-false (2 ^ 63) b (sym (sign-bits z z-fits z-finite) ∙ sign-of-value z false v 1 z-value)

  b-above : 0 < b
  b-above = elim (eq-zero-or-pos b) [
    | inl e ↦ absurd (lt_irrefl 0 (subst (λ (n : ℕ). 0 < n) (sym z-size ∙ z-at ∙ no_size b e) (mul-pos A (pow_pos 1074))))
    | inr h ↦ h
  ]

  b-field : field_of b < 1055
  b-field = by_field (field_of b) (λ e. omega arith) (λ n. go (field_of b) (power-under z _ _ _ 1054 (parts-suc z z-fits z-finite n) (lit< tt) z-under))
    where
      go : (f : ℕ) → f - 1 < 1054 → f < 1055
      go f h = omega arith

  z-ordered : ordered z ≡ b + 2 ^ 63
  unfolding ordered ordered_bits
  z-ordered = ap (λ (c : Bool). cond c (2 ^ 64 - 1 - b) (b + 2 ^ 63)) (lt-leb (2 ^ 63) b b-unsigned)

  -- the double after it, one gap more
  abbrev after : Float
  after = of_bits binary64 (b + 1)

  after-bits : b + 1 < 2 ^ 63
  after-bits = let h = b-field in let k = b-unsigned in omega arith

  after-field : field_of (b + 1) < 2047
  after-field = let h = b-field in let k = b-unsigned in omega arith

  after-size : size_of after ≡ size_of z + gap (field_of b)
  after-size = at_size (b + 1) after-bits after-field ∙ next-bits b (field_lt z z-fits z-finite) ∙ ap (λ (n : ℕ). n + gap (field_of b)) (sym z-at)

  after-gaps : size_of z + gap (field_of b) ≤ 2 ^ 53 * gap (field_of b)
  after-gaps = le_trans (le_of_eq (ap (λ (n : ℕ). n + gap (field_of b)) z-at)) (size-gaps (field_of b) (digits_of b) (mod-lt b (pow_pos 52)))

  -- the double before it, one gap less
  abbrev a : ℕ
  a = b - 1

  a-next : a + 1 ≡ b
  a-next = let h = b-above in omega arith

  a-unsigned : a < 2 ^ 63
  a-unsigned = let k = b-unsigned in omega arith

  a-field : field_of a < 2047
  a-field = let h = b-field in let k = b-unsigned in omega arith

  abbrev before : Float
  before = of_bits binary64 a

  a-size : size_of z ≡ size_at a + gap (field_of a)
  a-size = z-at ∙ ap size_at (sym a-next) ∙ next-bits a a-field

  before-size : size_of z ≡ size_of before + gap (field_of a)
  before-size = a-size ∙ ap (λ (n : ℕ). n + gap (field_of a)) (sym (at_size a a-unsigned a-field))

  before-gaps : size_of z ≤ 2 ^ 53 * gap (field_of a)
  before-gaps = le_trans (le_of_eq a-size) (size-gaps (field_of a) (digits_of a) (mod-lt a (pow_pos 52)))

  -- both gaps are small beside 1
  gap-small : (f t : ℕ) → size_from f t ≤ size_of z → gap f ≤ 2 ^ 1053
  gap-small f t h = gap-le f t 1053 (lt_of_le_of_lt h z-under)

  before_above : 0 < size_of before
  before_above =
      go (size_of z) (size_of before) (gap (field_of a)) (2 ^ 1053) unit before-size (gap-small (field_of a) (digits_of a) (subst (λ (n : ℕ). size_at a ≤ n) (sym a-size) (le-add_right (size_at a) (gap (field_of a)))))
      (lit< tt) (le_trans (le_of_eq (sym (one-mul unit))) (le_trans (mul-le-mul_right unit A) (le_of_eq (sym z-size))))
    where
      go : (z x g w u : ℕ) → z ≡ x + g → g ≤ w → w < u → u ≤ z → 0 < x
      go z x g w u e h k l = omega arith

  module _ (d : ℕ) (D : 0 < d) (g : T (finite (round binary64 false (v * d) unit))) where
    abbrev p : ℕ
    p = size_of (round binary64 false (v * d) unit)

    abbrev s : Float
    s = round binary64 false p d

    same : size_of z * d ≡ v * d * unit
    same = ap (λ (n : ℕ). n * d) z-size ∙ mul_right_comm v unit d

    under-after : p * unit ≤ size_of after * d
    under-after = le_trans (under_next p (v * d) unit (size_of z) (gap (field_of b)) d (units-relative (v * d) g) same after-gaps) (le_of_eq (ap (λ (n : ℕ). n * d) (sym after-size)))

    over-before : size_of before * d ≤ p * unit
    over-before = over_last p (v * d) unit (size_of z) (gap (field_of a)) d (units-relative (v * d) g) same (size_of before) before-size before-gaps

    s-finite : T (finite s)
    s-finite = finite-below after (at-fits (b + 1) after-bits after-field) (at-finite (b + 1) after-bits after-field) false p d D under-after

    s-fits : T (fits binary64 s)
    s-fits = round-fits binary64 false p d

    s-sign : negative s ≡ false
    s-sign = sign-of-value s false (grid binary64 p d) unit (round_val binary64 false p d s-finite)

    s-most : size_of s ≤ size_of after
    s-most = size_below after (at-fits (b + 1) after-bits after-field) (at-finite (b + 1) after-bits after-field) false p d D s-finite under-after

    s-least : size_of before ≤ size_of s
    s-least = size_above before (at-fits a a-unsigned a-field) (at-finite a a-unsigned a-field) false p d D s-finite over-before

    step : one_step s z ≡ true
    unfolding one_step
    step = rw (le-leb (ordered s) (ordered z + 1) most, le-leb (ordered z) (ordered s + 1) least)
      where
        most : ordered s ≤ ordered z + 1
        most =
            let o = size→ordered s after s-fits (at-fits (b + 1) after-bits after-field) s-finite (at-finite (b + 1) after-bits after-field) s-sign (at_sign (b + 1) after-bits after-field) (lt_of_lt_of_le before_above (le_trans s-least s-most)) s-most in
            go (ordered s) b (ordered z) (ordered after) o (at-ordered (b + 1) after-bits after-field) z-ordered
          where
            go : (o b z y : ℕ) → o ≤ y → y ≡ b + 1 + 2 ^ 63 → z ≡ b + 2 ^ 63 → o ≤ z + 1
            go o b z y h e f = omega arith

        least : ordered z ≤ ordered s + 1
        least =
            let o = size→ordered before s (at-fits a a-unsigned a-field) s-fits (at-finite a a-unsigned a-field) s-finite (at_sign a a-unsigned a-field) s-sign (lt_of_lt_of_le before_above s-least) s-least in
            go (ordered s) a b (ordered z) (ordered before) o (at-ordered a a-unsigned a-field) z-ordered a-next
          where
            go : (o a b z y : ℕ) → y ≤ o → y ≡ a + 2 ^ 63 → z ≡ b + 2 ^ 63 → a + 1 ≡ b → z ≤ o + 1
            go o a b z y h e f k = omega arith

    -- so s rounds to v
    s-under : size_of s < 2 ^ 1106
    s-under = lt_of_le_of_lt (le_trans s-most (le_trans (le_of_eq (after-size ∙ ap (λ (n : ℕ). n + gap (field_of b)) z-size)) (add-le-add (mul-le-mul_right unit L) (gap-small (field_of b) (digits_of b) (le_of_eq (sym z-at)))))) (lit< tt)

    s-half : half_up (size_of s) ≡ v
    s-half =
        let n = near_step s z 1053 s-fits s-finite z-fits z-finite (s-sign ∙ sym (sign-of-value z false v 1 z-value)) (subst T (sym step) tt) s-under z-under in
        go (size_of s) v unit (2 ^ 1053 * 2) (subst (λ (k : ℕ). Near (size_of s) k (2 ^ 1053 * 2)) z-size n) (lit< tt)
      where
        rest : (s n u w t : ℕ) → s * 2 ≤ n * 2 + t → n * 2 ≤ s * 2 + t → t < u → w ≡ 2 * n → 2 * s + u - w < 2 * u
        rest s n u w t h k l e = omega arith

        sum : (s n u w t : ℕ) → n * 2 ≤ s * 2 + t → t < u → w ≡ 2 * n → 2 * s + u ≡ w + (2 * s + u - w)
        sum s n u w t k l e = omega arith

        go : (s v u t : ℕ) → Near s (v * u) t → t < u → (2 * s + u) / (2 * u) ≡ v
        go s v u t n l =
            let e : v * (2 * u) ≡ 2 * (v * u) = mul_left_comm v 2 u in
            div-rest v (2 * u) (2 * s + u - v * (2 * u)) (2 * s + u) (rest s (v * u) u (v * (2 * u)) t n.above n.below l e) (sum s (v * u) u (v * (2 * u)) t n.below l e)

-- ---- the same of doubles

-- ±i times x, by the sizes: z is the double ±i
pub times-round : (s : Bool) (i : ℕ) (z : Float) → HasValue z s i 1 → (x : Float) → T (fits binary64 x) → T (finite x) → mul binary64 z x ≡ round binary64 (unlike s (negative x)) (i * size_of x) unit
unfolding mul negative
times-round s i z v x X f = go z x v f (exact x X)
  where
    cross : (a c n d k u : ℕ) → a * 1 ≡ i * c → k * d ≡ n * u → a * n * u ≡ i * k * (c * d)
    cross a c n d k u e h = ap (λ (y : ℕ). y * n * u) (sym (mul-one a) ∙ e) ∙ mul_assoc (i * c) n u ∙ ap (λ (y : ℕ). i * c * y) (sym h) ∙ mul-mul-mul_comm i c k d

    go : (z x : Float) → HasValue z s i 1 → T (finite x) → size_of x * den x ≡ num x * unit → mul binary64 z x ≡ round binary64 (unlike s (negative x)) (i * size_of x) unit
    go nan x v f e = absurd v
    go (inf t) x v f e = absurd v
    go (fin t m k) nan v f e = absurd f
    go (fin t m k) (inf r) v f e = absurd f
    go (fin t m k) (fin r n j) v f e =
        ap (λ (q : Bool). round binary64 (unlike q r) (m * up k * (n * up j)) (down k * down j)) v.0
        ∙ round_same binary64 (unlike s r) (m * up k * (n * up j)) (down k * down j) (i * size_of (fin r n j)) unit (mul-pos (down_pos k) (down_pos j)) (pow_pos 1074)
        (cross (m * up k) (down k) (n * up j) (down j) (size_of (fin r n j)) unit v.1 e)

-- a whole number times x, and a quotient
pub times-size : (i : ℕ) → i ≤ 2 ^ 53 → (x : Float) → T (fits binary64 x) → T (finite x) → negative x ≡ false → mul binary64 (of_int binary64 (pos i)) x ≡ round binary64 false (i * size_of x) unit
unfolding of_int
times-size i l x X f s = times-round false i (of_int binary64 (pos i)) (round_whole binary64 false i l) x X f ∙ ap (λ (t : Bool). round binary64 (unlike false t) (i * size_of x) unit) s

pub size-pos : (d : Float) → T (fits binary64 d) → T (positive d) → 0 < size_of d
size-pos d D b = first_pos (size_of d) (den d) (subst (λ (n : ℕ). 0 < n) (sym (exact d D)) (mul-pos (num_pos d b) (pow_pos 1074)))

pub quotient-round : (p d : Float) → T (fits binary64 p) → T (fits binary64 d) → T (finite p) → T (positive d) → div binary64 p d ≡ round binary64 (negative p) (size_of p) (size_of d)
quotient-round p d P D f b =
    div_is binary64 p d f b
    ∙ round_same binary64 (negative p) (num p * den d) (num d * den p) (size_of p) (size_of d) (mul-pos (num_pos d b) (den_pos p)) (size-pos d D b) (cross (num p) (den p) (size_of p) (num d) (den d) (size_of d) unit (exact p P) (exact d D))
  where
    cross : (n c k m e l u : ℕ) → k * c ≡ n * u → l * e ≡ m * u → n * e * l ≡ k * (m * c)
    cross n c k m e l u h g = mul_assoc n e l ∙ ap (λ (y : ℕ). n * y) (mul_comm e l ∙ g) ∙ mul_left_comm n m u ∙ ap (λ (y : ℕ). m * y) (sym h) ∙ mul_left_comm m k c

quotient-sizes : (p d : Float) → T (fits binary64 p) → T (fits binary64 d) → T (finite p) → T (positive d) → negative p ≡ false → div binary64 p d ≡ round binary64 false (size_of p) (size_of d)
quotient-sizes p d P D f b s = quotient-round p d P D f b ∙ ap (λ (t : Bool). round binary64 t (size_of p) (size_of d)) s

-- s is within a step of v, as a double and as the whole number nearest to it
pub record Back (v : ℕ) (s : Float) : Type 0 where
  pub finite-is : T (finite s)
  pub step : one_step s (of_int binary64 (pos v)) ≡ true
  pub snaps : one_step s (nearest_double s) ≡ true
  pub rounds : round_away s ≡ pos v

-- p is v times d, rounded
pub there_and_back : (v : ℕ) → 0 < v → v ≤ 2 ^ 31 → (d p : Float) → T (fits binary64 d) → T (positive d) → T (finite p) → p ≡ round binary64 false (v * size_of d) unit → Back v (div binary64 p d)
unfolding nearest_double round_away of_int
there_and_back v A L d p D b f e =
    let g : T (finite (round binary64 false (v * size_of d) unit)) = subst (λ (x : Float). T (finite x)) e f in
    let s = round binary64 false (size_of (round binary64 false (v * size_of d) unit)) (size_of d) in
    let is : div binary64 p d ≡ s =
    quotient-sizes p d (subst (λ (x : Float). T (fits binary64 x)) (sym e) (round-fits binary64 false (v * size_of d) unit)) D f b
    (ap negative e ∙ sign-of-value (round binary64 false (v * size_of d) unit) false (grid binary64 (v * size_of d) unit) unit (round_val binary64 false (v * size_of d) unit g))
    ∙ ap (λ (x : Float). round binary64 false (size_of x) (size_of d)) e in
    let N = size-pos d D b in
    let h = s-half v A L (size_of d) N g in
    let t = s-sign v A L (size_of d) N g in
    subst (Back v) (sym is)
    (record {
      finite-is = s-finite v A L (size_of d) N g;
      step = step v A L (size_of d) N g;
      snaps = ap₂ (λ (w : Bool) (n : ℕ). one_step s (round binary64 w n 1)) t h ∙ step v A L (size_of d) N g;
      rounds = ap₂ signed t h;
    })
