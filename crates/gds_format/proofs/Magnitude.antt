-- The machine's comparisons of doubles, as comparisons of their sizes in units of 2 ^ -1074. Assumes nothing.
use mathlib.Core.Path.{◌≡◌, refl, sym, ap, ap₂, ◌∙◌, subst}
use mathlib.Core.Bool.{Bool, true, false, not, ◌&&◌, ◌||◌, beq, cond}
use Prim.Native.Nat.{ℕ, zero, suc, ◌+◌, ◌*◌, ◌≤◌, ◌<◌}
use native.Mathlib.Nat.{mul_comm, mul_assoc, mul_right_comm, mul-one, mul-pos, mul-le-mul_right, mul-lt-mul_of_pos_right, zero-mul, lt_irrefl, zero-lt-suc}
use native.Mathlib.Omega.{arith}
use lib.Dec.{T, ltb, eqb, ltb→lt, lt→ltb, nltb→le, eqb-suc-zero}
use lib.Arith.{le→nltb}
use lib.Pow.{pow_pos}
use lib.IntN.{ℤ}
use lib.Ieee.{Float, nan, inf, fin, binary64, fits, of_bits, lt, eq, neg, up, down, below, level}
use lib.Ieee.Bits.{is_true as on, is_false as off}
use lib.Ieee.Fits.{down_pos}
use lib.Ieee.Scale.{finite}
use Rattle.binary64.specs.Value.{unit, size_of, negative}
use Rattle.binary64.proofs.ValueLaws.{exact}

-- a factor above 0 changes no comparison
ltb-times : (a b c : ℕ) → 0 < c → ltb (a * c) (b * c) ≡ ltb a b
ltb-times a b c C = go (ltb a b) (ltb→lt a b) (nltb→le a b)
  where
    go : (t : Bool) → (T t → a < b) → (T (not t) → b ≤ a) → ltb (a * c) (b * c) ≡ t
    go true f g = on (ltb (a * c) (b * c)) (lt→ltb (a * c) (b * c) (mul-lt-mul_of_pos_right (f tt) C))
    go false f g = off (ltb (a * c) (b * c)) (le→nltb (a * c) (b * c) (mul-le-mul_right c (g tt)))

-- ---- |x| < l, as -l < x and x < l

both-sides : (s : Bool) (x l : ℕ) → cond (below true l s x) (below s x false l) false ≡ ltb x l
both-sides false x l = go (ltb 0 (l + x)) (nltb→le 0 (l + x))
  where
    none : l + x ≤ 0 → l ≤ x
    none h = omega arith

    go : (c : Bool) → (T (not c) → l + x ≤ 0) → cond c (ltb x l) false ≡ ltb x l
    go true f = refl
    go false f = sym (off (ltb x l) (le→nltb x l (none (f tt))))
both-sides true x l = go (ltb x l) (ltb→lt x l)
  where
    some : x < l → 0 < x + l
    some h = omega arith

    go : (c : Bool) → (T c → x < l) → cond c (ltb 0 (x + l)) false ≡ c
    go true f = on (ltb 0 (x + l)) (lt→ltb 0 (x + l) (some (f tt)))
    go false f = refl

-- two finite sizes compare as the fractions that `lt` compares
sizes : (s t : Bool) (m n : ℕ) (e d : ℤ) → T (fits binary64 (fin s m e)) → T (fits binary64 (fin t n d)) → ltb (m * up e * down d) (n * up d * down e) ≡ ltb (size_of (fin s m e)) (size_of (fin t n d))
sizes s t m n e d F G =
    let X = size_of (fin s m e) in
    let Y = size_of (fin t n d) in
    sym (ltb-times (m * up e * down d) (n * up d * down e) unit (pow_pos 1074))
    ∙ ap₂ ltb (over (m * up e) (down d) (down e) X (exact (fin s m e) F)) (over (n * up d) (down e) (down d) Y (exact (fin t n d) G) ∙ ap (λ (z : ℕ). Y * z) (mul_comm (down d) (down e)))
    ∙ ltb-times X Y (down e * down d) (mul-pos (down_pos e) (down_pos d))
  where
    over : (a c b z : ℕ) → z * b ≡ a * unit → a * c * unit ≡ z * (b * c)
    over a c b z h = mul_right_comm a c unit ∙ ap (λ (k : ℕ). k * c) (sym h) ∙ mul_assoc z b c

pub magnitude-below : (x l : Float) → T (fits binary64 x) → T (fits binary64 l) → T (finite x) → T (finite l) → negative l ≡ false
    → cond (lt (neg l) x) (lt x l) false ≡ ltb (size_of x) (size_of l)
unfolding lt neg negative
magnitude-below nan l F G f g p = absurd f
magnitude-below (inf s) l F G f g p = absurd f
magnitude-below (fin s m e) nan F G f g p = absurd g
magnitude-below (fin s m e) (inf t) F G f g p = absurd g
magnitude-below (fin s m e) (fin t n d) F G f g p =
    ap (λ (b : Bool). cond (below (not b) (n * up d * down e) s (m * up e * down d)) (below s (m * up e * down d) b (n * up d * down e)) false) p
    ∙ both-sides s (m * up e * down d) (n * up d * down e)
    ∙ sizes s t m n e d F G

-- ---- x = 0, which both zeros are

absorbed : (t u : Bool) → u && (t || u) ≡ u
absorbed true true = refl
absorbed true false = refl
absorbed false true = refl
absorbed false false = refl

-- n = 0 and a = 0 are the same where n / a is unit / d
both_zero : (n a d : ℕ) → 0 < d → n * d ≡ a * unit → eqb a 0 ≡ eqb n 0
both_zero zero zero d D h = refl
both_zero zero (suc a) d D h = absurd (lt_irrefl 0 (subst (λ (z : ℕ). 0 < z) (sym h ∙ zero-mul d) (mul-pos (zero-lt-suc a) (pow_pos 1074))))
both_zero (suc n) zero d D h = absurd (lt_irrefl 0 (subst (λ (z : ℕ). 0 < z) (h ∙ zero-mul unit) (mul-pos (zero-lt-suc n) D)))
both_zero (suc n) (suc a) d D h = eqb-suc-zero a ∙ sym (eqb-suc-zero n)

zero-level : (s : Bool) (n a b d : ℕ) → 0 < d → n * d ≡ a * unit → b ≡ 0 → level s a false b ≡ eqb n 0
zero-level s n a b d D h e = ap (level s a false) e ∙ absorbed (beq s false) (eqb a 0) ∙ both_zero n a d D h

pub zero_test : (x : Float) → T (fits binary64 x) → T (finite x) → eq x (of_bits binary64 0) ≡ eqb (size_of x) 0
unfolding eq of_bits
zero_test nan F f = absurd f
zero_test (inf s) F f = absurd f
zero_test (fin s m e) F f = zero-level s (size_of (fin s m e)) (m * up e * 1) (0 * 1 * down e) (down e) (down_pos e) (exact (fin s m e) F ∙ ap (λ (z : ℕ). z * unit) (sym (mul-one (m * up e)))) (zero-mul (down e))
