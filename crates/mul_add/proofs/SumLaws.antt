-- `lib.Ieee`'s `sum` of two fractions with signs, ±a / c ± b / c: it sees only the fractions (`sum_same`), the order does not count (`sum_comm`), and which of its cases it takes. Assumes nothing.
use mathlib.Core.Path.{◌≡◌, refl, sym, ap, ap₂, ◌∙◌, subst}
use mathlib.Core.Logic.{◌⊎◌, inl, inr}
use mathlib.Core.Bool.{Bool, true, false, not, ◌&&◌, beq, cond}
use Prim.Native.Nat.{ℕ, ◌+◌, ◌-◌, ◌*◌, ◌≤◌, ◌<◌}
use native.Mathlib.Nat.{le_of_eq, le_of_lt, mul_comm, add-mul, add_comm, add-zero, mul-sub, zero-mul, mul-lt-mul_of_pos_right, lt_of_mul-lt-mul_right, eq_of_mul-eq-mul_right}
use native.Mathlib.Omega.{arith}
use lib.Dec.{T, ltb, ltb→lt, nltb→le, lt→ltb}
use lib.Arith.{le→nltb}
use lib.Ieee.{Float, Format, round, sum}
use lib.Ieee.Bits.{is_true, is_false}
use lib.Ieee.Scale.{round_same}
use Rattle.binary64.proofs.Tests.{same_flag}

-- ---- which of its cases `sum` takes
module _ (f : Format) (s t : Bool) (a b c : ℕ) where
  -- where the signs differ, the sign of the larger
  abbrev differ : Float
  differ = cond (ltb a b) (round f t (b - a) c) (round f (s && ltb b a) (a - b) c)

  pub sum_like : beq s t ≡ true → sum f s a t b c ≡ round f s (a + b) c
  unfolding sum
  sum_like e = ap (λ (z : Bool). cond z (round f s (a + b) c) differ) e

  sum-differ : beq s t ≡ false → sum f s a t b c ≡ differ
  unfolding sum
  sum-differ e = ap (λ (z : Bool). cond z (round f s (a + b) c) differ) e

  pub sum_less : beq s t ≡ false → a < b → sum f s a t b c ≡ round f t (b - a) c
  sum_less e h = sum-differ e ∙ ap (λ (z : Bool). cond z (round f t (b - a) c) (round f (s && ltb b a) (a - b) c)) (is_true (ltb a b) (lt→ltb a b h))

  not-less : beq s t ≡ false → b ≤ a → sum f s a t b c ≡ round f (s && ltb b a) (a - b) c
  not-less e h = sum-differ e ∙ ap (λ (z : Bool). cond z (round f t (b - a) c) (round f (s && ltb b a) (a - b) c)) (is_false (ltb a b) (le→nltb a b h))

  pub sum_more : beq s t ≡ false → b < a → sum f s a t b c ≡ round f s (a - b) c
  sum_more e h = not-less e (le_of_lt h) ∙ ap (λ (z : Bool). round f (s && z) (a - b) c) (is_true (ltb b a) (lt→ltb b a h)) ∙ ap (λ (z : Bool). round f z (a - b) c) (and-true s)
    where
      and-true : (s : Bool) → (s && true) ≡ s
      and-true true = refl
      and-true false = refl

  -- exactly zero, with no sign
  pub sum_level : beq s t ≡ false → a ≡ b → sum f s a t b c ≡ round f false 0 c
  sum_level e h =
      not-less e (le_of_eq (sym h))
      ∙ ap (λ (z : Bool). round f (s && z) (a - b) c) (is_false (ltb b a) (le→nltb b a (le_of_eq h)))
      ∙ ap₂ (λ (z : Bool) (n : ℕ). round f z n c) (and-false s) (nothing a b h)
    where
      and-false : (s : Bool) → (s && false) ≡ false
      and-false true = refl
      and-false false = refl

      nothing : (a b : ℕ) → a ≡ b → a - b ≡ 0
      nothing a b e = omega arith

-- ---- for a proof by cases
pub either : (b : Bool) → (b ≡ true) ⊎ (b ≡ false)
either true = inl refl
either false = inr refl

order : (a b : ℕ) → (a < b) ⊎ ((b < a) ⊎ (a ≡ b))
order a b = at (ltb a b) (ltb b a) (ltb→lt a b) (nltb→le a b) (ltb→lt b a) (nltb→le b a)
  where
    at : (x y : Bool) → (T x → a < b) → (T (not x) → b ≤ a) → (T y → b < a) → (T (not y) → a ≤ b) → (a < b) ⊎ ((b < a) ⊎ (a ≡ b))
    at true y p q r t = inl (p tt)
    at false true p q r t = inr (inl (r tt))
    at false false p q r t = inr (inr (same (q tt) (t tt)))
      where
        same : b ≤ a → a ≤ b → a ≡ b
        same h k = omega arith

beq-comm : (s t : Bool) → beq t s ≡ beq s t
beq-comm true true = refl
beq-comm true false = refl
beq-comm false true = refl
beq-comm false false = refl

-- ---- the order does not count
pub sum_comm : (f : Format) (s t : Bool) (a b c : ℕ) → sum f s a t b c ≡ sum f t b s a c
sum_comm f s t a b c = elim (either (beq s t)) [ inl e ↦ like e | inr e ↦ apart e ]
  where
    like : beq s t ≡ true → sum f s a t b c ≡ sum f t b s a c
    like e = sum_like f s t a b c e ∙ ap₂ (λ (z : Bool) (n : ℕ). round f z n c) (same_flag s t (subst T (sym e) tt)) (add_comm a b) ∙ sym (sum_like f t s b a c (beq-comm s t ∙ e))

    apart : beq s t ≡ false → sum f s a t b c ≡ sum f t b s a c
    apart e =
        let d : beq t s ≡ false = beq-comm s t ∙ e in
        elim (order a b) [
          | inl h ↦ sum_less f s t a b c e h ∙ sym (sum_more f t s b a c d h)
          | inr k ↦ elim k [
            | inl h ↦ sum_more f s t a b c e h ∙ sym (sum_less f t s b a c d h)
            | inr h ↦ sum_level f s t a b c e h ∙ sym (sum_level f t s b a c d (sym h))
          ]
        ]

-- ---- a sum with nothing
pub sum-nothing : (f : Format) (s t : Bool) (a c : ℕ) → 0 < a → sum f s a t 0 c ≡ round f s a c
sum-nothing f s t a c h = elim (either (beq s t)) [
  | inl e ↦ sum_like f s t a 0 c e ∙ ap (λ (z : ℕ). round f s z c) (add-zero a)
  | inr e ↦ sum_more f s t a 0 c e h ∙ ap (λ (z : ℕ). round f s z c) (less a)
]
  where
    less : (a : ℕ) → a - 0 ≡ a
    less a = omega arith

-- ---- it sees only the fractions
module _ (a b c a' b' c' : ℕ) (C : 0 < c) (C' : 0 < c') (p : a * c' ≡ a' * c) (q : b * c' ≡ b' * c) where
  less-same : a < b → a' < b'
  less-same h = lt_of_mul-lt-mul_right c (subst (λ (z : ℕ). z < b' * c) p (subst (λ (z : ℕ). a * c' < z) q (mul-lt-mul_of_pos_right h C')))

  difference-same : (a - b) * c' ≡ (a' - b') * c
  difference-same = mul_comm (a - b) c' ∙ mul-sub c' a b ∙ ap₂ (λ (x y : ℕ). x - y) (mul_comm c' a ∙ p ∙ mul_comm a' c) (mul_comm c' b ∙ q ∙ mul_comm b' c) ∙ sym (mul_comm (a' - b') c ∙ mul-sub c a' b')

  level-same : a ≡ b → a' * c ≡ b' * c
  level-same h = sym p ∙ ap (λ (z : ℕ). z * c') h ∙ q

pub sum_same : (f : Format) (s t : Bool) (a b c a' b' c' : ℕ) → 0 < c → 0 < c' → a * c' ≡ a' * c → b * c' ≡ b' * c → sum f s a t b c ≡ sum f s a' t b' c'
sum_same f s t a b c a' b' c' C C' p q = elim (either (beq s t)) [ inl e ↦ like e | inr e ↦ apart e ]
  where
    like : beq s t ≡ true → sum f s a t b c ≡ sum f s a' t b' c'
    like e =
        sum_like f s t a b c e
        ∙ round_same f s (a + b) c (a' + b') c' C C' (add-mul a b c' ∙ ap₂ (λ (x y : ℕ). x + y) p q ∙ sym (add-mul a' b' c))
        ∙ sym (sum_like f s t a' b' c' e)

    apart : beq s t ≡ false → sum f s a t b c ≡ sum f s a' t b' c'
    apart e =
        elim (order a b) [
          | inl h ↦ sum_less f s t a b c e h ∙ round_same f t (b - a) c (b' - a') c' C C' (difference-same b a c b' a' c' C C' q p) ∙ sym (sum_less f s t a' b' c' e (less-same a b c a' b' c' C C' p q h))
          | inr k ↦ elim k [
            | inl h ↦ sum_more f s t a b c e h ∙ round_same f s (a - b) c (a' - b') c' C C' (difference-same a b c a' b' c' C C' p q) ∙ sym (sum_more f s t a' b' c' e (less-same b a c b' a' c' C C' q p h))
            | inr h ↦ sum_level f s t a b c e h ∙ round_same f false 0 c 0 c' C C' (zero-mul c' ∙ sym (zero-mul c)) ∙ sym (sum_level f s t a' b' c' e (eq_of_mul-eq-mul_right c C a' b' (level-same a b c a' b' c' C C' p q h)))
          ]
        ]
