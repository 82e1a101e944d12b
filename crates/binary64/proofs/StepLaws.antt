-- One step in ordered bits, as a distance: two finite doubles of one sign that are at most one step apart differ by at most 2 ^ j units, where both are below 2 ^ (53 + j) units. Assumes nothing.
use mathlib.Core.Path.{◌≡◌, refl, sym, ap, ap₂, ◌∙◌, subst}
use mathlib.Core.Logic.{inl, inr}
use mathlib.Core.Bool.{Bool, true, false, ◌&&◌, cond}
use Prim.Native.Nat.{ℕ, zero, suc, ◌+◌, ◌-◌, ◌*◌, ◌/◌, ◌%◌, ◌^◌, ◌≤◌, ◌<◌}
use native.Mathlib.Nat.{eq-zero-or-pos, lt_irrefl, le_trans, le_of_eq, lt_of_le_of_lt, add-mul, one-mul, mul-le-mul_right, pow-succ'}
use native.Mathlib.Numerals.{sub-one}
use native.Mathlib.Decide.{dec_le}
use native.Mathlib.Omega.{arith}
use lib.Dec.{T, leb, leb→le, le→leb}
use lib.Pow.{pow-add, pow_mono}
use borrow.Author.Tests.{le-leb}
use lib.Ieee.{Float, binary64, fits, to_bits}
use lib.Ieee.Bits.{to_bits-lt}
use lib.Ieee.Fits.{and_i, and_l, and_r}
use lib.Ieee.Scale.{finite}
use Rattle.binary64.proofs.Powers.{pow_lt_back}
use Rattle.binary64.proofs.Tests.{both_ways}
use Rattle.binary64.proofs.Half.{Near}
use Rattle.binary64.specs.Value.{size_of, negative}
use Rattle.binary64.proofs.PartsLaws.{parts-zero, parts-suc}
use Rattle.binary64.specs.Step.{ordered_bits, ordered, one_step}

-- ---- sizes and the gaps between them, by an exponent's field and digits

-- a field of 0 has no leading digit
pub size_from : ℕ → ℕ → ℕ
size_from zero t = t * 2 ^ 0
size_from (suc f) t = (t + 2 ^ 52) * 2 ^ f

-- how far apart neighbours are
pub gap : ℕ → ℕ
gap zero = 2 ^ 0
gap (suc f) = 2 ^ f

-- one digit more
from_next : (f t : ℕ) → size_from f (t + 1) ≡ size_from f t + gap f
unfolding size_from gap
from_next zero t = omega arith
from_next (suc f) t = ap (λ (z : ℕ). z * 2 ^ f) (go t) ∙ add-mul (t + 2 ^ 52) 1 (2 ^ f) ∙ ap (λ (z : ℕ). (t + 2 ^ 52) * 2 ^ f + z) (one-mul (2 ^ f))
  where
    go : (t : ℕ) → t + 1 + 2 ^ 52 ≡ t + 2 ^ 52 + 1
    go t = omega arith

-- all digits set: the next has a field more, and no digits
from-carry : (f : ℕ) → size_from (suc f) 0 ≡ size_from f (2 ^ 52 - 1) + gap f
unfolding size_from gap
from-carry zero = refl
from-carry (suc f) = ap (λ (z : ℕ). (0 + 2 ^ 52) * z) (pow-succ' 2 f) ∙ go (2 ^ f)
  where
    go : (p : ℕ) → (0 + 2 ^ 52) * (2 * p) ≡ (2 ^ 52 - 1 + 2 ^ 52) * p + p
    go p = omega arith

-- below 2 ^ (53 + j) units neighbours are at most 2 ^ j apart
pub gap-le : (f t j : ℕ) → size_from f t < 2 ^ (53 + j) → gap f ≤ 2 ^ j
unfolding size_from gap
gap-le zero t j h = pow_mono {i = 0} {j = j} (omega arith)
gap-le (suc f) t j h =
    pow_mono {i = f} {j = j} (fewer (pow_lt_back (52 + f) (53 + j) (lt_of_le_of_lt (le_trans (le_of_eq (pow-add 2 52 f)) (mul-le-mul_right (2 ^ f) (lead t))) h)))
  where
    lead : (t : ℕ) → 2 ^ 52 ≤ t + 2 ^ 52
    lead t = omega arith

    fewer : 52 + f < 53 + j → f ≤ j
    fewer l = omega arith

-- a size and one gap more are at most 2 ^ 53 gaps
pub size-gaps : (f t : ℕ) → t < 2 ^ 52 → size_from f t + gap f ≤ 2 ^ 53 * gap f
unfolding size_from gap
size-gaps zero t h = omega arith
size-gaps (suc f) t h = le_trans (le_of_eq (ap (λ (z : ℕ). (t + 2 ^ 52) * 2 ^ f + z) (sym (one-mul (2 ^ f))) ∙ sym (add-mul (t + 2 ^ 52) 1 (2 ^ f)))) (mul-le-mul_right (2 ^ f) (most t h))
  where
    most : (t : ℕ) → t < 2 ^ 52 → t + 2 ^ 52 + 1 ≤ 2 ^ 53
    most t h = omega arith

-- ---- by a pattern: its exponent's field and its digits

abbrev pub field_of : ℕ → ℕ
field_of b = b % 2 ^ 63 / 2 ^ 52

abbrev pub digits_of : ℕ → ℕ
digits_of b = b % 2 ^ 52

-- the pattern 0 is of zero
pub no_size : (b : ℕ) → b ≡ 0 → size_from (field_of b) (digits_of b) ≡ 0
unfolding size_from
no_size b e = ap (λ (c : ℕ). size_from (field_of c) (digits_of c)) e

-- either no leading digit, or one
pub by_field : {X : Type 0} (k : ℕ) → (k ≡ 0 → X) → ((k ≡ 0 → ⊥) → X) → X
by_field k f g = elim (eq-zero-or-pos k) [
  | inl e ↦ f e
  | inr h ↦ g (λ e. lt_irrefl 0 (subst (λ (z : ℕ). 0 < z) e h))
]

module _ (x : Float) (F : T (fits binary64 x)) (f : T (finite x)) where
  pub size-bits : size_of x ≡ size_from (field_of (to_bits binary64 x)) (digits_of (to_bits binary64 x))
  unfolding size_from
  size-bits = go (field_of b) refl
    where
      b : ℕ
      b = to_bits binary64 x

      go : (k : ℕ) → field_of b ≡ k → size_of x ≡ size_from k (digits_of b)
      go zero e = (parts-zero x F f e).size
      go (suc k) e = (parts-suc x F f (λ z. no k (sym e ∙ z))).size ∙ ap (λ (n : ℕ). (digits_of b + 2 ^ 52) * 2 ^ n) (ap (λ (n : ℕ). n - 1) e ∙ sub-one (suc k))
        where
          no : (k : ℕ) → suc k ≡ 0 → ⊥
          no k e = omega arith

  pub field_lt : field_of (to_bits binary64 x) < 2047
  field_lt = by_field (field_of (to_bits binary64 x)) (λ e. omega arith) (λ n. under (field_of (to_bits binary64 x)) (parts-suc x F f n).power)
    where
      under : (k : ℕ) → k - 1 < 2046 → k < 2047
      under k h = omega arith

  pub sign-bits : negative x ≡ leb (2 ^ 63) (to_bits binary64 x)
  sign-bits = by_field (field_of (to_bits binary64 x)) (λ e. (parts-zero x F f e).sign) (λ n. (parts-suc x F f n).sign)

-- the next pattern: one digit more, or a carry
pub next-bits : (b : ℕ) → field_of b < 2047 → size_from (field_of (b + 1)) (digits_of (b + 1)) ≡ size_from (field_of b) (digits_of b) + gap (field_of b)
next-bits b l = elim (dec_le (digits_of b + 2) (2 ^ 52)) [
  | yes h ↦ ap₂ size_from (same b h) (more b h) ∙ from_next (field_of b) (digits_of b)
  | no h ↦ ap₂ size_from (up b l (full b h)) (none b (full b h)) ∙ from-carry (field_of b) ∙ ap (λ (t : ℕ). size_from (field_of b) t + gap (field_of b)) (sym (full b h))
]
  where
    same : (b : ℕ) → digits_of b + 2 ≤ 2 ^ 52 → field_of (b + 1) ≡ field_of b
    same b h = omega arith

    more : (b : ℕ) → digits_of b + 2 ≤ 2 ^ 52 → digits_of (b + 1) ≡ digits_of b + 1
    more b h = omega arith

    full : (b : ℕ) → (digits_of b + 2 ≤ 2 ^ 52 → ⊥) → digits_of b ≡ 2 ^ 52 - 1
    full b h = omega arith

    up : (b : ℕ) → field_of b < 2047 → digits_of b ≡ 2 ^ 52 - 1 → field_of (b + 1) ≡ suc (field_of b)
    up b l h = omega arith

    none : (b : ℕ) → digits_of b ≡ 2 ^ 52 - 1 → digits_of (b + 1) ≡ 0
    none b h = omega arith

-- ---- one step, by the patterns

-- |a - b| ≤ 1
pub record Beside (a b : ℕ) : Type 0 where
  pub left : a ≤ b + 1
  pub right : b ≤ a + 1

-- as a test, with d the difference
pub within-one : (d a b : ℕ) → (d ≤ 1 → Beside a b) → (Beside a b → d ≤ 1) → leb d 1 ≡ (leb a (b + 1) && leb b (a + 1))
within-one d a b f g =
    both_ways (leb d 1) (leb a (b + 1) && leb b (a + 1))
    (λ t. let n = f (leb→le d 1 t) in and_i (leb a (b + 1)) (leb b (a + 1)) (le→leb a (b + 1) n.left) (le→leb b (a + 1) n.right))
    (λ t. le→leb d 1 (g (record { left = leb→le a (b + 1) (and_l (leb a (b + 1)) (leb b (a + 1)) t); right = leb→le b (a + 1) (and_r (leb a (b + 1)) (leb b (a + 1)) t) })))

-- patterns of one sign stand in the order of their numbers, or in the opposite one
ordered-beside : (s : Bool) (a b : ℕ) → a < 2 ^ 64 → b < 2 ^ 64 → leb (2 ^ 63) a ≡ s → leb (2 ^ 63) b ≡ s → ordered_bits a ≤ ordered_bits b + 1 → ordered_bits b ≤ ordered_bits a + 1 → Beside a b
unfolding ordered_bits
ordered-beside s a b A B e f h k = go s (subst (λ (c : Bool). cond c (2 ^ 64 - 1 - a) (a + 2 ^ 63) ≤ ordered_bits b + 1) e h) (subst (λ (c : Bool). ordered_bits b ≤ cond c (2 ^ 64 - 1 - a) (a + 2 ^ 63) + 1) e k) f
  where
    go : (s : Bool) → cond s (2 ^ 64 - 1 - a) (a + 2 ^ 63) ≤ ordered_bits b + 1 → ordered_bits b ≤ cond s (2 ^ 64 - 1 - a) (a + 2 ^ 63) + 1 → leb (2 ^ 63) b ≡ s → Beside a b
    go true h k f =
        let h' : 2 ^ 64 - 1 - a ≤ 2 ^ 64 - 1 - b + 1 = subst (λ (c : Bool). 2 ^ 64 - 1 - a ≤ cond c (2 ^ 64 - 1 - b) (b + 2 ^ 63) + 1) f h in
        let k' : 2 ^ 64 - 1 - b ≤ 2 ^ 64 - 1 - a + 1 = subst (λ (c : Bool). cond c (2 ^ 64 - 1 - b) (b + 2 ^ 63) ≤ 2 ^ 64 - 1 - a + 1) f k in
        record { left = omega arith; right = omega arith }
    go false h k f =
        let h' : a + 2 ^ 63 ≤ b + 2 ^ 63 + 1 = subst (λ (c : Bool). a + 2 ^ 63 ≤ cond c (2 ^ 64 - 1 - b) (b + 2 ^ 63) + 1) f h in
        let k' : b + 2 ^ 63 ≤ a + 2 ^ 63 + 1 = subst (λ (c : Bool). cond c (2 ^ 64 - 1 - b) (b + 2 ^ 63) ≤ a + 2 ^ 63 + 1) f k in
        record { left = omega arith; right = omega arith }

-- ---- the law

-- one pattern more is at most one gap more
next-near : (x y : Float) (j : ℕ) → T (fits binary64 x) → T (finite x) → T (fits binary64 y) → T (finite y)
    → to_bits binary64 y ≡ to_bits binary64 x + 1 → size_of x < 2 ^ (53 + j) → Near (size_of y) (size_of x) (2 ^ j * 2)
next-near x y j X fx Y fy e h =
    let bx = to_bits binary64 x in
    let sx = size-bits x X fx in
    let sy : size_of y ≡ size_from (field_of bx) (digits_of bx) + gap (field_of bx) = size-bits y Y fy ∙ ap (λ (b : ℕ). size_from (field_of b) (digits_of b)) e ∙ next-bits bx (field_lt x X fx) in
    let g = gap-le (field_of bx) (digits_of bx) j (subst (λ (z : ℕ). z < 2 ^ (53 + j)) sx h) in
    go (size_of x) (size_of y) (size_from (field_of bx) (digits_of bx)) (gap (field_of bx)) (2 ^ j) sx sy g
  where
    go : (x y z g w : ℕ) → x ≡ z → y ≡ z + g → g ≤ w → Near y x (w * 2)
    go x y z g w e f h = record { above = omega arith; below = omega arith }

-- at most one step apart, and of one sign
pub near_step : (x y : Float) (j : ℕ) → T (fits binary64 x) → T (finite x) → T (fits binary64 y) → T (finite y)
    → negative x ≡ negative y → T (one_step x y) → size_of x < 2 ^ (53 + j) → size_of y < 2 ^ (53 + j) → Near (size_of x) (size_of y) (2 ^ j * 2)
unfolding one_step ordered
near_step x y j X fx Y fy s t hx hy =
    let bx = to_bits binary64 x in
    let by = to_bits binary64 y in
    let u = leb→le (ordered_bits bx) (ordered_bits by + 1) (and_l (leb (ordered_bits bx) (ordered_bits by + 1)) (leb (ordered_bits by) (ordered_bits bx + 1)) t) in
    let v = leb→le (ordered_bits by) (ordered_bits bx + 1) (and_r (leb (ordered_bits bx) (ordered_bits by + 1)) (leb (ordered_bits by) (ordered_bits bx + 1)) t) in
    let b = ordered-beside (negative x) bx by (to_bits-lt binary64 x X) (to_bits-lt binary64 y Y) (sym (sign-bits x X fx)) (sym (sign-bits y Y fy) ∙ sym s) u v in
    go bx by b refl refl
  where
    flip : {p q w : ℕ} → Near p q w → Near q p w
    flip n = record { above = n.below; below = n.above }

    same : (a b w : ℕ) → a ≡ b → Near a b w
    same a b w e = record { above = omega arith; below = omega arith }

    go : (a b : ℕ) → Beside a b → to_bits binary64 x ≡ a → to_bits binary64 y ≡ b → Near (size_of x) (size_of y) (2 ^ j * 2)
    go a b n e f = elim (dec_le a b) [
      | yes h ↦ elim (dec_le b a) [
        | yes k ↦ same (size_of x) (size_of y) (2 ^ j * 2) (size-bits x X fx ∙ ap (λ (z : ℕ). size_from (field_of z) (digits_of z)) (e ∙ both a b h k ∙ sym f) ∙ sym (size-bits y Y fy))
        | no k ↦ flip (next-near x y j X fx Y fy (f ∙ one a b n.right k ∙ ap (λ (z : ℕ). z + 1) (sym e)) hx)
      ]
      | no h ↦ next-near y x j Y fy X fx (e ∙ one b a n.left h ∙ ap (λ (z : ℕ). z + 1) (sym f)) hy
    ]
      where
        both : (a b : ℕ) → a ≤ b → b ≤ a → a ≡ b
        both a b h k = omega arith

        one : (a b : ℕ) → b ≤ a + 1 → (b ≤ a → ⊥) → b ≡ a + 1
        one a b h k = omega arith

-- a double is within one step of itself
pub step-self : (x : Float) → one_step x x ≡ true
unfolding one_step
step-self x = go (ordered x)
  where
    next : (n : ℕ) → leb n (n + 1) ≡ true
    next n = le-leb n (n + 1) (omega arith)

    go : (n : ℕ) → leb n (n + 1) && leb n (n + 1) ≡ true
    go n = rw (next n)
