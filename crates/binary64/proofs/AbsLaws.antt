-- A double without its sign, by its bits and in a rounded result; the sign of a rounded result; a difference has the same size either way round. Assumes nothing.
use mathlib.Core.Path.{◌≡◌, refl, sym, ap, ◌∙◌, subst}
use mathlib.Core.Bool.{Bool, true, false, not, cond, beq, true≢false}
use Prim.Native.Nat.{ℕ, zero, suc, ◌+◌, ◌-◌, ◌*◌, ◌%◌, ◌^◌, ◌≤◌, ◌<◌}
use native.Mathlib.Nat.{add_comm, mul_comm, zero-mul, mod-eq_of_lt}
use native.Mathlib.Omega.{arith}
use lib.Dec.{T, ltb, lit<}
use lib.IntN.{ℤ, pos}
use lib.Ieee.{Float, nan, inf, fin, Format, binary64, prec, emax, low, up, down, is_nan, nan_bits, fits, of_bits, to_bits, odd, units, round, sum, add, sub, neg}
use lib.Ieee.Bits.{nan_bits_is, of_bits-to_bits, to_bits-lt}
use lib.Ieee.Fits.{round_is}
use lib.Ieee.Order.{drop, kept}
use lib.Ieee.Scale.{finite, round_same}
use borrow.Author.Tests.{ltb-true, ltb-false}
use Rattle.binary64.specs.Value.{negative, abs}
use Rattle.binary64.proofs.Bits.{is-nan}

-- ---- the bits of x but the sign

abbrev pub lower : Float → ℕ
lower x = to_bits binary64 (abs x)

fits-minus : (s : Bool) (m : ℕ) (e : ℤ) → T (fits binary64 (fin s m e)) → T (fits binary64 (fin true m e))
unfolding fits
fits-minus s zero e F = F
fits-minus s (suc m) e F = F

with-sign : (m : ℕ) (e : ℤ) → to_bits binary64 (fin true m e) ≡ 2 ^ 63 + to_bits binary64 (fin false m e)
unfolding to_bits
with-sign m e = go _ _
  where
    go : (a b : ℕ) → 2 ^ 63 + a + b ≡ 2 ^ 63 + (0 + a + b)
    go a b = omega arith

module _ (x : Float) (F : T (fits binary64 x)) (f : T (finite x)) where
  pub lower-small : lower x < 2 ^ 63
  unfolding abs
  lower-small = go x F f
    where
      less : (a b : ℕ) → a ≡ 2 ^ 63 + b → a < 2 ^ 64 → b < 2 ^ 63
      less a b e h = omega arith

      go : (x : Float) → T (fits binary64 x) → T (finite x) → to_bits binary64 (abs x) < 2 ^ 63
      go nan F f = absurd f
      go (inf s) F f = absurd f
      go (fin s m e) F f = less _ _ (with-sign m e) (to_bits-lt binary64 (fin true m e) (fits-minus s m e F))

  pub bits-plus : negative x ≡ false → to_bits binary64 x ≡ lower x
  unfolding abs negative
  bits-plus h = go x f h
    where
      go : (x : Float) → T (finite x) → negative x ≡ false → to_bits binary64 x ≡ to_bits binary64 (abs x)
      go nan f h = absurd f
      go (inf s) f h = absurd f
      go (fin true m e) f h = absurd (true≢false h)
      go (fin false m e) f h = refl

  pub bits-minus : negative x ≡ true → to_bits binary64 x ≡ 2 ^ 63 + lower x
  unfolding abs negative
  bits-minus h = go x f h
    where
      go : (x : Float) → T (finite x) → negative x ≡ true → to_bits binary64 x ≡ 2 ^ 63 + to_bits binary64 (abs x)
      go nan f h = absurd f
      go (inf s) f h = absurd f
      go (fin true m e) f h = with-sign m e
      go (fin false m e) f h = absurd (true≢false (sym h))

  -- what the code takes of the bits
  pub lower-is : to_bits binary64 x % 2 ^ 63 ≡ lower x
  lower-is = go (negative x) refl
    where
      twice : (a : ℕ) → a < 2 ^ 63 → (2 ^ 63 + a) % 2 ^ 63 ≡ a
      twice a h = omega arith

      go : (t : Bool) → negative x ≡ t → to_bits binary64 x % 2 ^ 63 ≡ lower x
      go true h = ap (λ (n : ℕ). n % 2 ^ 63) (bits-minus h) ∙ twice (lower x) lower-small
      go false h = ap (λ (n : ℕ). n % 2 ^ 63) (bits-plus h) ∙ mod-eq_of_lt lower-small

-- ---- the double itself

fits-plus : (s : Bool) (m : ℕ) (e : ℤ) → T (fits binary64 (fin s m e)) → T (fits binary64 (fin false m e))
unfolding fits
fits-plus s zero e F = F
fits-plus s (suc m) e F = F

infinite-bits : (s : Bool) → of_bits binary64 (to_bits binary64 (inf s) % 2 ^ 63) ≡ inf false
unfolding of_bits to_bits
infinite-bits true = refl
infinite-bits false = refl

pub abs-bits : (x : Float) → T (fits binary64 x) → T (not (is_nan x)) → of_bits binary64 (to_bits binary64 x % 2 ^ 63) ≡ abs x
unfolding abs is_nan
abs-bits nan F n = absurd n
abs-bits (inf s) F n = infinite-bits s
abs-bits (fin s m e) F n = ap (of_bits binary64) (lower-is (fin s m e) F tt) ∙ of_bits-to_bits binary64 (fin false m e) (fits-plus s m e F)

-- they are no NaN's
pub abs-pattern : (x : Float) → T (fits binary64 x) → T (not (is_nan x)) → T (not (nan_bits binary64 (to_bits binary64 x % 2 ^ 63)))
unfolding abs is_nan
abs-pattern x F n = subst (λ (t : Bool). T (not t)) (sym (nan_bits_is binary64 (to_bits binary64 x % 2 ^ 63) ∙ ap is_nan (abs-bits x F n))) (go x n)
  where
    go : (x : Float) → T (not (is_nan x)) → T (not (is_nan (abs x)))
    go nan n = n
    go (inf s) n = tt
    go (fin s m e) n = tt

pub abs-nan : (x : Float) → is_nan x ≡ true → x ≡ abs x
unfolding abs
abs-nan x h = let e : x ≡ nan = is-nan x (subst T (sym h) tt) in e ∙ ap abs (sym e)

pub abs_neg : (x : Float) → abs (neg x) ≡ abs x
unfolding abs neg
abs_neg nan = refl
abs_neg (inf s) = refl
abs_neg (fin s m e) = refl

pub abs-plus : (x : Float) → T (finite x) → negative x ≡ false → abs x ≡ x
unfolding abs negative
abs-plus nan f h = absurd f
abs-plus (inf s) f h = absurd f
abs-plus (fin true m e) f h = absurd (true≢false h)
abs-plus (fin false m e) f h = refl

-- it has no sign to lose
pub abs-abs : (x : Float) → abs (abs x) ≡ abs x
unfolding abs
abs-abs nan = refl
abs-abs (inf s) = refl
abs-abs (fin s m e) = refl

-- ---- rounding takes both signs alike, and keeps them

abs-units : (f : Format) (s : Bool) (q k : ℕ) → abs (units f s q k) ≡ units f false q k
unfolding units odd abs
abs-units f s q k = go (ltb (q * 2 ^ k) (2 ^ (low f + suc (emax f)))) (odd (suc (prec f)) s q k (low f)) (odd (suc (prec f)) false q k (low f)) (plain q)
  where
    plain : (q : ℕ) → abs (odd (suc (prec f)) s q k (low f)) ≡ odd (suc (prec f)) false q k (low f)
    plain zero = refl
    plain (suc q) = refl

    go : (b : Bool) (x y : Float) → abs x ≡ y → abs (cond b x (inf s)) ≡ cond b y (inf false)
    go true x y e = e
    go false x y e = refl

pub abs-round : (f : Format) (s : Bool) (a c : ℕ) → abs (round f s a c) ≡ round f false a c
abs-round f s a c = ap abs (round_is f s a c) ∙ abs-units f s (kept (prec f) (a * 2 ^ low f) c) (drop (prec f) (a * 2 ^ low f) c) ∙ sym (round_is f false a c)

units-sign : (f : Format) (s : Bool) (q k : ℕ) → negative (units f s q k) ≡ s
unfolding units odd negative
units-sign f s q k = go (ltb (q * 2 ^ k) (2 ^ (low f + suc (emax f)))) (odd (suc (prec f)) s q k (low f)) (its q)
  where
    its : (q : ℕ) → negative (odd (suc (prec f)) s q k (low f)) ≡ s
    its zero = refl
    its (suc q) = refl

    go : (b : Bool) (x : Float) → negative x ≡ s → negative (cond b x (inf s)) ≡ s
    go true x e = e
    go false x e = refl

pub round-sign : (f : Format) (s : Bool) (a c : ℕ) → negative (round f s a c) ≡ s
round-sign f s a c = ap negative (round_is f s a c) ∙ units-sign f s (kept (prec f) (a * 2 ^ low f) c) (drop (prec f) (a * 2 ^ low f) c)

zero-at-one : (s : Bool) → round binary64 s 0 1 ≡ fin s 0 (pos 0)
unfolding round
zero-at-one s = refl

pub round-zero : (s : Bool) (d : ℕ) → 0 < d → round binary64 s 0 d ≡ fin s 0 (pos 0)
round-zero s d D = round_same binary64 s 0 d 0 1 D (lit< tt) (zero-mul 1 ∙ sym (zero-mul d)) ∙ zero-at-one s

-- ±a / c less ±b / c, and the other way round
module _ (f : Format) (a b c : ℕ) where
  like : (t u : Bool) → ltb a b ≡ t → ltb b a ≡ u → (x y z w : Bool) → abs (cond t (round f x (b - a) c) (round f y (a - b) c)) ≡ abs (cond u (round f z (a - b) c) (round f w (b - a) c))
  like true true h k x y z w = absurd (clash a b (ltb-true a b h) (ltb-true b a k))
    where
      clash : (a b : ℕ) → a < b → b < a → ⊥
      clash a b h k = omega arith
  like true false h k x y z w = abs-round f x (b - a) c ∙ sym (abs-round f w (b - a) c)
  like false true h k x y z w = abs-round f y (a - b) c ∙ sym (abs-round f z (a - b) c)
  like false false h k x y z w = abs-round f y (a - b) c ∙ ap (λ (n : ℕ). round f false n c) (level a b (ltb-false a b h) (ltb-false b a k)) ∙ sym (abs-round f w (b - a) c)
    where
      level : (a b : ℕ) → b ≤ a → a ≤ b → a - b ≡ b - a
      level a b h k = omega arith

  unlike-signs : (s t : Bool) → abs (round f s (a + b) c) ≡ abs (round f t (b + a) c)
  unlike-signs s t = abs-round f s (a + b) c ∙ ap (λ (n : ℕ). round f false n c) (add_comm a b) ∙ sym (abs-round f t (b + a) c)

  abs-sum : (s t : Bool) → abs (sum f s a (not t) b c) ≡ abs (sum f t b (not s) a c)
  unfolding sum
  abs-sum false false = like (ltb a b) (ltb b a) refl refl true false true false
  abs-sum false true = unlike-signs false true
  abs-sum true false = unlike-signs true false
  abs-sum true true = like (ltb a b) (ltb b a) refl refl false (ltb b a) false (ltb a b)

-- a difference has the same size either way round
pub abs-sub : (f : Format) (x y : Float) → abs (sub f x y) ≡ abs (sub f y x)
unfolding sub add neg abs
abs-sub f nan nan = refl
abs-sub f nan (inf t) = refl
abs-sub f nan (fin t n d) = refl
abs-sub f (inf s) nan = refl
abs-sub f (inf s) (inf t) = infinite s t
  where
    infinite : (s t : Bool) → abs (cond (beq s (not t)) (inf s) nan) ≡ abs (cond (beq t (not s)) (inf t) nan)
    infinite true true = refl
    infinite true false = refl
    infinite false true = refl
    infinite false false = refl
abs-sub f (inf s) (fin t n d) = refl
abs-sub f (fin s m e) nan = refl
abs-sub f (fin s m e) (inf t) = refl
abs-sub f (fin s m e) (fin t n d) =
    let a = m * up e * down d in
    let b = n * up d * down e in
    abs-sum f a b (down e * down d) s t ∙ ap (λ (c : ℕ). abs (sum f t b (not s) a c)) (mul_comm (down e) (down d))
