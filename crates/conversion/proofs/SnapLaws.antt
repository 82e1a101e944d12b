-- One step between two doubles of one sign, by their bits but the sign. Assumes nothing.
use mathlib.Core.Path.{◌≡◌, refl, sym, ap, ap₂, ◌∙◌, subst}
use mathlib.Core.Bool.{Bool, true, false, ◌&&◌}
use Prim.Native.Nat.{ℕ, ◌+◌, ◌-◌, ◌*◌, ◌/◌, ◌%◌, ◌^◌, ◌≤◌, ◌<◌}
use native.Mathlib.Nat.{le_trans, le_of_eq, lt_of_lt_of_le, lt_of_le_of_lt, mul-one}
use native.Mathlib.Omega.{arith}
use lib.Dec.{T, leb, lit<, lit≤}
use lib.Pow.{pow_pos, pow-add, pow_mono, shl_lt}
use lib.IntN.{pos}
use lib.Ieee.{Float, nan, inf, fin, binary64, fits, to_bits, round, of_int}
use lib.Ieee.Exact.{HasValue, round_exact}
use lib.Ieee.Fits.{round-fits}
use lib.Ieee.Scale.{finite}
use borrow.Author.Tests.{leb-true, leb-false, le-leb, lt-leb}
use Rattle.std.specs.Int.{abs_diff}
use Rattle.binary64.specs.Value.{unit, negative, abs}
use Rattle.binary64.specs.Step.{ordered_bits, ordered, one_step}
use Rattle.binary64.proofs.ValueLaws.{sign-of-value}
use Rattle.binary64.proofs.WholeLaws.{nearest-small}
use Rattle.binary64.proofs.NearestLaws.{double-minus, double-plus}
use Rattle.binary64.proofs.StepLaws.{within-one}
use Rattle.binary64.proofs.AbsLaws.{lower, lower-small, bits-plus, bits-minus, lower-is, abs_neg, abs-plus}

-- ---- the ordered bits of a double, by its sign

module _ (x : Float) (F : T (fits binary64 x)) (f : T (finite x)) where
  ordered-plus : negative x ≡ false → ordered x ≡ lower x + 2 ^ 63
  unfolding ordered ordered_bits
  ordered-plus h = ap ordered_bits (bits-plus x F f h) ∙ rw (lt-leb (2 ^ 63) (lower x) (lower-small x F f))

  ordered-minus : negative x ≡ true → ordered x ≡ 2 ^ 64 - 1 - (2 ^ 63 + lower x)
  unfolding ordered ordered_bits
  ordered-minus h = ap ordered_bits (bits-minus x F f h) ∙ rw (le-leb (2 ^ 63) (2 ^ 63 + lower x) (omega arith))

same-leb : (a b c d : ℕ) → (a ≤ b → c ≤ d) → (c ≤ d → a ≤ b) → leb a b ≡ leb c d
same-leb a b c d f g = go (leb a b) (leb c d) refl refl
  where
    clash : (a b : ℕ) → a ≤ b → b < a → ⊥
    clash a b h k = omega arith

    go : (s t : Bool) → leb a b ≡ s → leb c d ≡ t → leb a b ≡ leb c d
    go true t h k = h ∙ sym (le-leb c d (f (leb-true a b h)))
    go false true h k = absurd (clash a b (g (leb-true c d k)) (leb-false a b h))
    go false false h k = h ∙ sym k

and-swap : (s t : Bool) → s && t ≡ t && s
and-swap true true = refl
and-swap true false = refl
and-swap false true = refl
and-swap false false = refl

-- the two differ by at most one
abbrev pub within : ℕ → ℕ → Bool
within a b = leb a (b + 1) && leb b (a + 1)

-- as the code tests it: by the difference
pub within-diff : (a b : ℕ) → leb (abs_diff a b) 1 ≡ within a b
within-diff a b = within-one (abs_diff a b) a b (λ l. record { left = omega arith; right = omega arith }) (λ n. omega arith)

-- by the side on which one lies of the other
pub within-below : (a b : ℕ) → a < b → leb (b - a) 1 ≡ within a b
within-below a b h = within-one (b - a) a b (λ l. record { left = omega arith; right = omega arith }) (λ n. omega arith)

pub within-above : (a b : ℕ) → b ≤ a → leb (a - b) 1 ≡ within a b
within-above a b h = within-one (a - b) a b (λ l. record { left = omega arith; right = omega arith }) (λ n. omega arith)

step-lower : (x y : Float) → T (fits binary64 x) → T (finite x) → T (fits binary64 y) → T (finite y) → negative x ≡ negative y → within (lower x) (lower y) ≡ one_step x y
unfolding one_step
step-lower x y F f G g e = go (negative x) refl
  where
    up : (a b : ℕ) → leb a (b + 1) ≡ leb (a + 2 ^ 63) (b + 2 ^ 63 + 1)
    up a b = same-leb a (b + 1) (a + 2 ^ 63) (b + 2 ^ 63 + 1) (λ h. omega arith) (λ h. omega arith)

    down : (a b : ℕ) → a < 2 ^ 63 → b < 2 ^ 63 → leb b (a + 1) ≡ leb (2 ^ 64 - 1 - (2 ^ 63 + a)) (2 ^ 64 - 1 - (2 ^ 63 + b) + 1)
    down a b h k = same-leb b (a + 1) (2 ^ 64 - 1 - (2 ^ 63 + a)) (2 ^ 64 - 1 - (2 ^ 63 + b) + 1) (λ l. omega arith) (λ l. omega arith)

    go : (t : Bool) → negative x ≡ t → within (lower x) (lower y) ≡ (leb (ordered x) (ordered y + 1) && leb (ordered y) (ordered x + 1))
    go false h =
        let p = ordered-plus x F f h in
        let q = ordered-plus y G g (sym e ∙ h) in
        ap₂ ◌&&◌ (up (lower x) (lower y)) (up (lower y) (lower x)) ∙ ap₂ (λ (a b : ℕ). leb a (b + 1) && leb b (a + 1)) (sym p) (sym q)
    go true h =
        let p = ordered-minus x F f h in
        let q = ordered-minus y G g (sym e ∙ h) in
        let l = lower-small x F f in
        let k = lower-small y G g in
        and-swap (leb (lower x) (lower y + 1)) (leb (lower y) (lower x + 1))
        ∙ ap₂ ◌&&◌ (down (lower x) (lower y) l k) (down (lower y) (lower x) k l)
        ∙ ap₂ (λ (a b : ℕ). leb a (b + 1) && leb b (a + 1)) (sym p) (sym q)

-- ---- a whole number as a double

-- below 2 ^ 53 it is exact
pub whole-value : (s : Bool) (n : ℕ) → n < 2 ^ 53 → HasValue (round binary64 s n 1) s n 1
whole-value s n h = round_exact binary64 s n 1 n 1074 (lit< tt) h (lt_of_lt_of_le (shl_lt 53 1074 h) (lit≤ tt)) (sym (mul-one (n * 2 ^ 1074)))

pub value-finite : (x : Float) (s : Bool) (n : ℕ) → HasValue x s n 1 → T (finite x)
value-finite nan s n h = h
value-finite (inf t) s n h = h
value-finite (fin t m e) s n h = tt

-- one step between x and the whole number n with x's sign, by the bits
pub snap-step : (x : Float) → T (fits binary64 x) → T (finite x) → (n : ℕ) → n < 2 ^ 53 → within (to_bits binary64 x % 2 ^ 63) (to_bits binary64 (of_int binary64 (pos n))) ≡ one_step x (round binary64 (negative x) n 1)
snap-step x F f n h =
    let s = negative x in
    let v = whole-value s n h in
    ap₂ within (lower-is x F f) (plain s)
    ∙ step-lower x (round binary64 s n 1) F f (round-fits binary64 s n 1) (value-finite (round binary64 s n 1) s n v) (sym (sign-of-value (round binary64 s n 1) s n 1 v))
  where
    w : Float
    w = of_int binary64 (pos n)

    itself : abs w ≡ w
    itself =
        let e : w ≡ round binary64 false n 1 = double-plus false n refl in
        let v = whole-value false n h in
        abs-plus w (subst (λ (y : Float). T (finite y)) (sym e) (value-finite (round binary64 false n 1) false n v)) (ap negative e ∙ sign-of-value (round binary64 false n 1) false n 1 v)

    plain : (s : Bool) → to_bits binary64 w ≡ lower (round binary64 s n 1)
    plain true = ap (to_bits binary64) (sym (ap abs (sym (double-minus true n refl)) ∙ abs_neg w ∙ itself))
    plain false = ap (to_bits binary64) (sym (ap abs (sym (double-plus false n refl)) ∙ itself))

-- the same by the difference of the bits, or by the side on which x's lie: for `on_grid`'s test and for one by branches
module _ (x : Float) (n : ℕ) (F : T (fits binary64 x)) (f : T (finite x)) (h : n < 2 ^ 53) where
  pub step_apart : (d : ℕ) → d ≡ abs_diff (to_bits binary64 x % 2 ^ 63) (to_bits binary64 (of_int binary64 (pos n))) → leb d 1 ≡ one_step x (round binary64 (negative x) n 1)
  step_apart d e = ap (λ (z : ℕ). leb z 1) e ∙ within-diff _ _ ∙ snap-step x F f n h

  pub step_below : to_bits binary64 x % 2 ^ 63 < to_bits binary64 (of_int binary64 (pos n)) → leb (to_bits binary64 (of_int binary64 (pos n)) - to_bits binary64 x % 2 ^ 63) 1 ≡ one_step x (round binary64 (negative x) n 1)
  step_below l = within-below _ _ l ∙ snap-step x F f n h

  pub step_above : to_bits binary64 (of_int binary64 (pos n)) ≤ to_bits binary64 x % 2 ^ 63 → leb (to_bits binary64 x % 2 ^ 63 - to_bits binary64 (of_int binary64 (pos n))) 1 ≡ one_step x (round binary64 (negative x) n 1)
  step_above l = within-above _ _ l ∙ snap-step x F f n h

-- the nearest whole number of a double below 2 ^ 52
pub nearest-small-enough : (m j n : ℕ) → m < 2 ^ 53 → j < 1074 → n ≡ (2 * (m * 2 ^ j) + unit) / (2 * unit) → n < 2 ^ 53
nearest-small-enough m j n h k e =
    lt_of_le_of_lt (le_trans (le_of_eq e) (nearest-small (m * 2 ^ j) (2 ^ 52) unit (pow_pos 1074) (lt_of_lt_of_le (shl_lt 53 j h) (le_trans (pow_mono {i = 53 + j} {j = 52 + 1074} (go j k)) (le_of_eq (pow-add 2 52 1074)))))) (lit< tt)
  where
    go : (j : ℕ) → j < 1074 → 53 + j ≤ 52 + 1074
    go j h = omega arith
