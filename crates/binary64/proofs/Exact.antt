-- Doubles that are whole numbers: as far as 2 ^ 53 their products, quotients by 1, sums and `mul_add` are exact; zero times and by another number is zero; they round to themselves, and two of one value are at most a step apart. Assumes nothing.
use mathlib.Core.Path.{◌≡◌, refl, sym, ap, ap₂, ◌∙◌, subst}
use mathlib.Core.Logic.{inl, inr}
use mathlib.Core.Bool.{Bool, true, false, not, ◌&&◌, beq, cond}
use Prim.Native.Nat.{ℕ, zero, suc, ◌+◌, ◌-◌, ◌*◌, ◌^◌, ◌≤◌, ◌<◌, zero-le}
use native.Mathlib.Nat.{le_trans, le_of_eq, mul_assoc, mul_comm, mul_left_comm, mul_right_comm, mul-one, one-mul, zero-mul, mul-pos, add-mul, mul-sub, le_of_mul-le-mul_right, lt_of_mul-lt-mul_right}
use native.Mathlib.Omega.{arith}
use lib.Dec.{T, ltb, ltb→lt, nltb→le, lit<}
use lib.IntN.{ℤ, pos, negsuc, neg_ℤ, nat_abs, +ℤ_comm, ◌+ℤ◌, ◌*ℤ◌}
use lib.Ieee.{Float, nan, inf, fin, binary64, up, down, unlike, round, sum, mul, div, neg, of_int, fits}
use lib.Ieee as Ieee
use lib.Ieee.Fits.{round-fits, down_pos}
use lib.Ieee.Exact.{HasValue}
use lib.Ieee.Back.{round_whole}
use lib.Ieee.Positive.{num, den, positive, den_pos}
use lib.Ieee.Scale.{finite, round_same}
use Rattle.binary64.specs.Value.{unit, size_of, half_up, negative, signed, scaled, round_away, zero64, one64}
use Rattle.binary64.specs.Step.{one_step, nearest_double}
use Rattle.binary64.specs.Step as Step
use Rattle.binary64.specs.Fma.{times, plus, fma}
use Rattle.binary64.proofs.Signed.{signed-zero, signed-abs, signed-neg, signed-scale, unlike-plus, signed-times, signed-plus, minus-less, minus-more}
use Rattle.binary64.proofs.ValueLaws.{size-of-value, sign-of-value}
use Rattle.binary64.proofs.Quotient.{num_pos, div_is as div-round}
use Rattle.binary64.proofs.Order.{has-finite}
use Rattle.binary64.proofs.StepLaws.{step-self}
use Rattle.binary64.proofs.Snapping.{half-up-whole}
use Rattle.binary64.proofs.Same.{same-or-zeros, zero_is}

-- ---- x is the whole number z

pub record Is (x : Float) (z : ℤ) : Type 0 where
  pub sign : Bool
  pub size : ℕ
  pub value : HasValue x sign size 1
  pub is : signed sign size ≡ z
  pub fit : T (fits binary64 x)

pub is_finite : {x : Float} {z : ℤ} → Is x z → T (finite x)
is_finite {x} h = has-finite x h.sign h.size 1 h.value

pub is_same : {x : Float} {y z : ℤ} → y ≡ z → Is x y → Is x z
is_same {x} e h = subst (λ (k : ℤ). Is x k) e h

is-abs : {x : Float} {z : ℤ} (h : Is x z) → h.size ≡ nat_abs z
is-abs h = sym (signed-abs h.sign h.size) ∙ ap nat_abs h.is

-- a fraction that is the whole number n, rounded
whole-round : (s : Bool) (a c n : ℕ) → 0 < c → a ≡ n * c → n ≤ 2 ^ 53 → Is (round binary64 s a c) (signed s n)
whole-round s a c n C e h = record {
  sign = s;
  size = n;
  value = subst (λ (x : Float). HasValue x s n 1) (sym (round_same binary64 s a c n 1 C (lit< tt) (mul-one a ∙ e))) (round_whole binary64 s n h);
  is = refl;
  fit = round-fits binary64 s a c;
}

pub one-is : Is one64 (pos 1)
unfolding fits
one-is = record { sign = false; size = 1; value = (refl, refl); is = refl; fit = tt }

pub none_is : Is zero64 (pos 0)
unfolding fits
none_is = record { sign = false; size = 0; value = (refl, refl); is = refl; fit = tt }

pub int_is : (z : ℤ) → nat_abs z ≤ 2 ^ 53 → Is (of_int binary64 z) z
unfolding of_int
int_is (pos n) h = whole-round false n 1 n (lit< tt) (sym (mul-one n)) h
int_is (negsuc n) h = whole-round true (suc n) 1 (suc n) (lit< tt) (sym (mul-one (suc n))) h

-- ---- negation, products, quotients by 1

pub neg_is : {x : Float} {z : ℤ} → Is x z → Is (neg x) (neg_ℤ z)
unfolding neg fits
neg_is {x} {z} h = go x h.value h.fit
  where
    fit : (m : ℕ) (s t : Bool) (e : ℤ) → T (fits binary64 (fin s m e)) → T (fits binary64 (fin t m e))
    fit zero s t e f = f
    fit (suc m) s t e f = f

    go : (x : Float) → HasValue x h.sign h.size 1 → T (fits binary64 x) → Is (neg x) (neg_ℤ z)
    go nan v f = absurd v
    go (inf s) v f = absurd v
    go (fin s m e) v f =
        record { sign = not h.sign; size = h.size; value = (ap not v.0, v.1); is = signed-neg h.sign h.size ∙ ap neg_ℤ h.is; fit = fit m s (not s) e f }

-- a = m c and b = n d
product-num : (a c m b d n : ℕ) → a * 1 ≡ m * c → b * 1 ≡ n * d → a * b ≡ m * n * (c * d)
product-num a c m b d n e f = ap₂ (λ (x y : ℕ). x * y) (sym (mul-one a) ∙ e) (sym (mul-one b) ∙ f) ∙ simp (mul_assoc, mul_comm, mul_left_comm)

-- the value of a product, by its factors'
product_is : {x y : Float} {a b : ℤ} (h : Is x a) (k : Is y b) (s t : Bool) → s ≡ h.sign → t ≡ k.sign → signed (unlike s t) (h.size * k.size) ≡ a *ℤ b
product_is h k s t e f = ap (λ (u : Bool). signed u (h.size * k.size)) (ap₂ unlike e f) ∙ signed-times h.sign k.sign h.size k.size ∙ ap₂ ◌*ℤ◌ h.is k.is

pub mul_is : {x y : Float} {a b : ℤ} → Is x a → Is y b → nat_abs a * nat_abs b ≤ 2 ^ 53 → Is (mul binary64 x y) (a *ℤ b)
unfolding mul
mul_is {x} {y} {a} {b} h k l = go x y h.value k.value
  where
    go : (x y : Float) → HasValue x h.sign h.size 1 → HasValue y k.sign k.size 1 → Is (mul binary64 x y) (a *ℤ b)
    go nan y v w = absurd v
    go (inf s) y v w = absurd v
    go (fin s m e) nan v w = absurd w
    go (fin s m e) (inf t) v w = absurd w
    go (fin s m e) (fin t n d) v w =
        is_same (product_is h k s t v.0 w.0)
        (whole-round (unlike s t) (m * up e * (n * up d)) (down e * down d) (h.size * k.size) (mul-pos (down_pos e) (down_pos d))
        (product-num (m * up e) (down e) h.size (n * up d) (down d) k.size v.1 w.1) (le_trans (le_of_eq (ap₂ ◌*◌ (is-abs h) (is-abs k))) l))

pub div_is : {x : Float} {z : ℤ} → Is x z → nat_abs z ≤ 2 ^ 53 → Is (div binary64 x one64) z
unfolding div
div_is {x} {z} h l = go x h.value
  where
    go : (x : Float) → HasValue x h.sign h.size 1 → Is (div binary64 x one64) z
    go nan v = absurd v
    go (inf s) v = absurd v
    go (fin s m e) v =
        is_same (ap (λ (u : Bool). signed u h.size) (unlike-plus s ∙ v.0) ∙ h.is)
        (whole-round (unlike s false) (m * up e * 1) (1 * 1 * down e) h.size (mul-pos (lit< tt) (down_pos e)) (v.1 ∙ ap (λ (c : ℕ). h.size * c) (sym (one-mul (down e))))
        (le_trans (le_of_eq (is-abs h)) l))

-- ---- zero times a finite number, and by a positive one

none-value : {x : Float} (h : Is x (pos 0)) → HasValue x h.sign 0 1
none-value {x} h = subst (λ (n : ℕ). HasValue x h.sign n 1) (is-abs h) h.value

none-round : (s : Bool) (a c : ℕ) → 0 < c → a ≡ 0 → Is (round binary64 s a c) (pos 0)
none-round s a c C e = is_same (signed-zero s) (whole-round s a c 0 C (e ∙ sym (zero-mul c)) zero-le)

pub none-times : {x : Float} → Is x (pos 0) → (y : Float) → T (finite y) → Is (mul binary64 x y) (pos 0)
unfolding mul
none-times {x} h y f = go x y (none-value h) f
  where
    go : (x y : Float) → HasValue x h.sign 0 1 → T (finite y) → Is (mul binary64 x y) (pos 0)
    go nan y v f = absurd v
    go (inf s) y v f = absurd v
    go (fin s m e) nan v f = absurd f
    go (fin s m e) (inf t) v f = absurd f
    go (fin s m e) (fin t n d) v f =
        none-round (unlike s t) (m * up e * (n * up d)) (down e * down d) (mul-pos (down_pos e) (down_pos d))
        (ap (λ (k : ℕ). k * (n * up d)) (sym (mul-one (m * up e)) ∙ v.1 ∙ zero-mul (down e)) ∙ zero-mul (n * up d))

pub none-by : {x : Float} → Is x (pos 0) → (d : Float) → T (positive d) → Is (div binary64 x d) (pos 0)
none-by {x} h d b =
    subst (λ (y : Float). Is y (pos 0)) (sym (div-round binary64 x d (is_finite h) b))
    (none-round (negative x) (num x * den d) (num d * den x) (mul-pos (num_pos d b) (den_pos x)) (ap (λ (k : ℕ). k * den d) (none-num x (none-value h)) ∙ zero-mul (den d)))
  where
    none-num : (x : Float) → HasValue x h.sign 0 1 → num x ≡ 0
    none-num nan v = absurd v
    none-num (inf s) v = absurd v
    none-num (fin s m e) v = sym (mul-one (m * up e)) ∙ v.1 ∙ zero-mul (down e)

-- ---- ±m + ±k, over the denominator c

module _ (m k c : ℕ) (C : 0 < c) (l : m + k ≤ 2 ^ 53) where
  minus-times : (a b : ℕ) → a * c - b * c ≡ (a - b) * c
  minus-times a b = ap₂ ◌-◌ (mul_comm a c) (mul_comm b c) ∙ sym (mul-sub c a b) ∙ mul_comm c (a - b)

  -- a difference of the two, with the sign s
  difference : (s : Bool) (a b : ℕ) → a - b ≤ m + k → Is (round binary64 s (a * c - b * c) c) (signed s (a - b))
  difference s a b h = whole-round s (a * c - b * c) c (a - b) C (minus-times a b) (le_trans h l)

  -- where m is at least k: minus m and k
  negative-first : k ≤ m → (b : Bool) → (T b → k * c < m * c) → (T (not b) → m * c ≤ k * c) → signed b (m - k) ≡ neg_ℤ (pos m) +ℤ pos k
  negative-first h true p q = sym (+ℤ_comm (neg_ℤ (pos m)) (pos k) ∙ minus-less k m (lt_of_mul-lt-mul_right c (p tt)))
  negative-first h false p q =
      let i : m ≤ k = le_of_mul-le-mul_right (q tt) C in
      let e : m - k ≡ k - m = omega arith in
      ap pos e ∙ sym (+ℤ_comm (neg_ℤ (pos m)) (pos k) ∙ minus-more k m i)

  sum_is : (s t : Bool) → Is (sum binary64 s (m * c) t (k * c) c) (signed s m +ℤ signed t k)
  unfolding sum
  sum_is s t = go s t
    where
      like : (s : Bool) → Is (round binary64 s (m * c + k * c) c) (signed s m +ℤ signed s k)
      like s = is_same (signed-plus s m k) (whole-round s (m * c + k * c) c (m + k) C (sym (add-mul m k c)) l)

      fewer : (a b n : ℕ) → a ≤ n → a - b ≤ n
      fewer a b n h = omega arith

      -- k is larger, and gives the sign; or m does
      pick : (t u b : Bool) (z : ℤ) → (T b → m * c < k * c) → (T (not b) → k * c ≤ m * c) → (m < k → signed t (k - m) ≡ z) → (k ≤ m → signed u (m - k) ≡ z)
          → Is (cond b (round binary64 t (k * c - m * c) c) (round binary64 u (m * c - k * c) c)) z
      pick t u true z p q f g = is_same (f (lt_of_mul-lt-mul_right c (p tt))) (difference t k m (fewer k m (m + k) (omega arith)))
      pick t u false z p q f g = is_same (g (le_of_mul-le-mul_right (q tt) C)) (difference u m k (fewer m k (m + k) (omega arith)))

      apart : (s t : Bool) → (m < k → signed t (k - m) ≡ signed s m +ℤ signed t k) → (k ≤ m → signed (s && ltb (k * c) (m * c)) (m - k) ≡ signed s m +ℤ signed t k)
          → Is (cond (ltb (m * c) (k * c)) (round binary64 t (k * c - m * c) c) (round binary64 (s && ltb (k * c) (m * c)) (m * c - k * c) c)) (signed s m +ℤ signed t k)
      apart s t f g = pick t (s && ltb (k * c) (m * c)) (ltb (m * c) (k * c)) (signed s m +ℤ signed t k) (ltb→lt (m * c) (k * c)) (nltb→le (m * c) (k * c)) f g

      go : (s t : Bool)
          → Is (cond (beq s t) (round binary64 s (m * c + k * c) c) (cond (ltb (m * c) (k * c)) (round binary64 t (k * c - m * c) c) (round binary64 (s && ltb (k * c) (m * c)) (m * c - k * c) c))) (signed s m +ℤ signed t k)
      go true true = like true
      go false false = like false
      go false true = apart false true (λ h. sym (minus-less m k h)) (λ h. sym (minus-more m k h))
      go true false =
          apart true false (λ h. sym (+ℤ_comm (neg_ℤ (pos m)) (pos k) ∙ minus-more k m (omega arith)))
          (λ h. negative-first h (ltb (k * c) (m * c)) (ltb→lt (k * c) (m * c)) (nltb→le (k * c) (m * c)))

-- ---- `mul_add`

pub fma-is : {x y z : Float} {a b o : ℤ} → Is x a → Is y b → Is z o → nat_abs a * nat_abs b + nat_abs o ≤ 2 ^ 53 → Is (fma binary64 x y z) (a *ℤ b +ℤ o)
unfolding fma times plus
fma-is {x} {y} {z} {a} {b} {o} h k l w = go x y z h.value k.value l.value
  where
    small : h.size * k.size + l.size ≤ 2 ^ 53
    small = le_trans (le_of_eq (ap₂ ◌+◌ (ap₂ ◌*◌ (is-abs h) (is-abs k)) (is-abs l))) w

    first : (p q c d : ℕ) → p ≡ q * c → p * d ≡ q * (c * d)
    first p q c d e = ap (λ (i : ℕ). i * d) e ∙ mul_assoc q c d

    second : (n c d i : ℕ) → n * 1 ≡ i * d → n * c ≡ i * (c * d)
    second n c d i e = ap (λ (j : ℕ). j * c) (sym (mul-one n) ∙ e) ∙ mul_assoc i d c ∙ ap (λ (j : ℕ). i * j) (mul_comm d c)

    go : (x y z : Float) → HasValue x h.sign h.size 1 → HasValue y k.sign k.size 1 → HasValue z l.sign l.size 1 → Is (fma binary64 x y z) (a *ℤ b +ℤ o)
    go nan y z u v r = absurd u
    go (inf s) y z u v r = absurd u
    go (fin s m e) nan z u v r = absurd v
    go (fin s m e) (inf t) z u v r = absurd v
    go (fin s m e) (fin t n d) nan u v r = absurd r
    go (fin s m e) (fin t n d) (inf i) u v r = absurd r
    go (fin s m e) (fin t n d) (fin i j g) u v r =
        let q = h.size * k.size in
        let c = down e * down d in
        let A = first (m * up e * (n * up d)) q c (down g) (product-num (m * up e) (down e) h.size (n * up d) (down d) k.size u.1 v.1) in
        let B = second (j * up g) c (down g) l.size r.1 in
        is_same (ap₂ ◌+ℤ◌ (product_is h k s t u.0 v.0) (ap (λ (f : Bool). signed f l.size) r.0 ∙ l.is))
        (subst (λ (f : ℕ). Is (sum binary64 (unlike s t) f i (j * up g * c) (c * down g)) (signed (unlike s t) q +ℤ signed i l.size)) (sym A)
        (subst (λ (f : ℕ). Is (sum binary64 (unlike s t) (q * (c * down g)) i f (c * down g)) (signed (unlike s t) q +ℤ signed i l.size)) (sym B)
        (sum_is q l.size (c * down g) (mul-pos (mul-pos (down_pos e) (down_pos d)) (down_pos g)) small (unlike s t) i)))

-- ---- rounding, and one step

pub widen : (x : Float) (s : Bool) (n : ℕ) → HasValue x s n 1 → HasValue x s (n * unit) unit
widen nan s n h = h
widen (inf t) s n h = h
widen (fin t m e) s n h = (h.0, ap (λ (z : ℕ). z * unit) (sym (mul-one (m * up e)) ∙ h.1) ∙ mul_right_comm n (down e) unit)

is-sign : {x : Float} {z : ℤ} (h : Is x z) → negative x ≡ h.sign
is-sign {x} h = sign-of-value x h.sign h.size 1 h.value

is-size : {x : Float} {z : ℤ} (h : Is x z) → size_of x ≡ h.size * unit
is-size {x} h = size-of-value x h.sign (h.size * unit) (widen x h.sign h.size h.value)

pub is-round : {x : Float} {z : ℤ} → Is x z → round_away x ≡ z
unfolding round_away
is-round h = ap₂ signed (is-sign h) (ap half_up (is-size h) ∙ half-up-whole h.size) ∙ h.is

pub nearest-is : {x : Float} {z : ℤ} → Is x z → nat_abs z ≤ 2 ^ 53 → Is (nearest_double x) z
unfolding nearest_double
nearest-is {x} h l =
    let n = half_up (size_of x) in
    let e : n ≡ h.size = ap half_up (is-size h) ∙ half-up-whole h.size in
    is_same (ap₂ signed (is-sign h) e ∙ h.is) (whole-round (negative x) n 1 n (lit< tt) (sym (mul-one n)) (le_trans (le_of_eq (e ∙ is-abs h)) l))

is-scaled : {x : Float} {z : ℤ} → Is x z → scaled x ≡ z *ℤ pos unit
unfolding scaled
is-scaled h = ap₂ signed (is-sign h) (is-size h) ∙ sym (signed-scale h.sign h.size unit) ∙ ap (λ (z : ℤ). z *ℤ pos unit) h.is

zeros-beside : (s t : Bool) → one_step (fin s 0 (pos 0)) (fin t 0 (pos 0)) ≡ true
unfolding Step.one_step Step.ordered Step.ordered_bits Ieee.to_bits Ieee.size
zeros-beside true true = refl
zeros-beside true false = refl
zeros-beside false true = refl
zeros-beside false false = refl

-- of one value, they are the same, or the two zeros, which are a step apart
pub is-beside : {x y : Float} {z : ℤ} → Is x z → Is y z → one_step x y ≡ true
is-beside {x} {y} h k =
    let f = is_finite h in
    let g = is_finite k in
    elim (same-or-zeros x y h.fit k.fit f g (is-scaled h ∙ sym (is-scaled k))) [
      | inl e ↦ ap (one_step x) (sym e) ∙ step-self x
      | inr z ↦ ap₂ one_step (zero_is x h.fit f z.0) (zero_is y k.fit g z.1) ∙ zeros-beside (negative x) (negative y)
    ]
