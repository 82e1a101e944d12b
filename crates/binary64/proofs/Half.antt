-- THE ROUNDING LAW: rounding to the nearest moves a number by no more than half of the last place that it keeps. It is stated once, over every format and sign, as `rounding`, at the end.
-- There is no division in it: `Near p q u` says |p - q| * 2 ≤ u, so that `Near (g * den) n u` says that g is within half of u / den of n / den.
-- `grid f num den` (lib.Ieee.Scale) is num / den rounded to the format f, as a number of f's smallest values. Assumes nothing.
use mathlib.Core.Path.{◌≡◌, refl, sym, ap, ◌∙◌, subst}
use mathlib.Core.Logic.{◌⊎◌, inl, inr}
use mathlib.Core.Bool.{Bool, true, false, not, cond}
use Prim.Native.Nat.{ℕ, zero, suc, ◌+◌, ◌-◌, ◌*◌, ◌/◌, ◌%◌, ◌^◌, ◌≤◌, ◌<◌, compare, Ordering}
use native.Mathlib.Nat.{le_trans, le_of_eq, le_of_lt, lt_irrefl, lt_of_le_of_lt, not-le_of_lt, eq-zero-or-pos, mul_comm, mul_assoc, one-mul, mul_right_comm, add-mul, mul-pos, suc-mul, mul-le-mul_right, mul-le-mul_left, le_of_mul-le-mul_right, div-add-mod', mod-lt, div-div-eq-div-mul, le-div_iff_mul-le}
use native.Mathlib.Numerals.{add-one}
use native.Mathlib.Omega.{arith}
use lib.Dec.{T, is_le, compare_is_eq, eqb, ltb, leb→le, nleb→lt, eqb→eq, eqb_refl, ltb→lt}
use lib.Arith.{lt_of_le-ne}
use lib.Pow.{pow-add, pow_pos, pow_mono}
use lib.Ieee.{Float, inf, Format, prec, low, size, nearest, odd, units, round}
use lib.Ieee.Digits.{size_reaches}
use lib.Ieee.Fits.{round_is, two, two-le_pos}
use lib.Ieee.Exact.{HasValue, units_val}
use lib.Ieee.Nearest.{closest, nearest-ge}
use lib.Ieee.Order.{drop, kept}
use lib.Ieee.Scale.{grid, overflow, finite}
use Rattle.binary64.proofs.Powers.{pow_lt_back}

-- ---- |p - q| * 2 ≤ u
pub record Near (p q u : ℕ) : Type 0 where
  pub above : p * 2 ≤ q * 2 + u
  pub below : q * 2 ≤ p * 2 + u

pub near-wider : {p q u v : ℕ} → u ≤ v → Near p q u → Near p q v
near-wider h n = record { above = omega arith; below = omega arith }

spread : (p q u t : ℕ) → (p * 2 ≤ q * 2 + u) → p * t * 2 ≤ q * t * 2 + u * t
spread p q u t h =
    le_trans (le_of_eq (mul_right_comm p t 2)) (le_trans (mul-le-mul_right t h) (le_of_eq (add-mul (q * 2) u t ∙ ap (λ (x : ℕ). x + u * t) (mul_right_comm q 2 t))))

unspread : (p q u t : ℕ) → 0 < t → p * t * 2 ≤ q * t * 2 + u * t → p * 2 ≤ q * 2 + u
unspread p q u t P h =
    le_of_mul-le-mul_right (le_trans (le_of_eq (mul_right_comm p 2 t)) (le_trans h (le_of_eq (sym (add-mul (q * 2) u t ∙ ap (λ (x : ℕ). x + u * t) (mul_right_comm q 2 t)))))) P

-- all three times t, and back
pub near_times : {p q u : ℕ} (t : ℕ) → Near p q u → Near (p * t) (q * t) (u * t)
near_times {p} {q} {u} t n = record { above = spread p q u t n.above; below = spread q p u t n.below }

pub near-cancel : (p q u t : ℕ) → 0 < t → Near (p * t) (q * t) (u * t) → Near p q u
near-cancel p q u t P n = record { above = unspread p q u t P n.above; below = unspread q p u t P n.below }

pub near-eq : {p q u p' q' u' : ℕ} → p ≡ p' → q ≡ q' → u ≡ u' → Near p q u → Near p' q' u'
near-eq {p} {q} {u} {p'} {q'} {u'} a b c n = record { above = omega arith; below = omega arith }

-- ---- what `compare` says
abbrev Cmp : Ordering → ℕ → ℕ → Type 0
Cmp Ordering.lt a b = a < b
Cmp Ordering.eq a b = a ≡ b
Cmp Ordering.gt a b = b < a

cmp : (a b : ℕ) → Cmp (compare a b) a b
cmp a b = go (compare a b) (leb→le a b) (nleb→lt a b) (eqb→eq a b) (λ (e : a ≡ b). subst (λ (x : ℕ). T (eqb a x)) e (eqb_refl a))
  where
    go : (o : Ordering) → (T (is_le o) → a ≤ b) → (T (not (is_le o)) → b < a) → (T (compare_is_eq o) → a ≡ b) → (a ≡ b → T (compare_is_eq o)) → Cmp o a b
    go Ordering.lt h k e n = lt_of_le-ne (h tt) n
    go Ordering.eq h k e n = e tt
    go Ordering.gt h k e n = k tt

-- ---- a number to the nearest multiple of b: `closest a b` of them, a half to the even one
stay : (p r a b : ℕ) → p + r ≡ a → r * 2 ≤ b → Near p a b
stay p r a b e h = record { above = omega arith; below = omega arith }

move : (p r a b : ℕ) → p + r ≡ a → r < b → b ≤ r * 2 → Near (p + b) a b
move p r a b e l h = record { above = omega arith; below = omega arith }

parity : (w : ℕ) → (w + w % 2 ≡ w) ⊎ (w + w % 2 ≡ suc w)
parity w = go (w % 2) refl (mod-lt w (pow_pos 1))
  where
    go : (r : ℕ) → w % 2 ≡ r → w % 2 < 2 → (w + w % 2 ≡ w) ⊎ (w + w % 2 ≡ suc w)
    go zero e l = inl (omega arith)
    go (suc r) e l = inr (omega arith)

module _ (w b r a : ℕ) (e : w * b + r ≡ a) (l : r < b) where
  staying : r * 2 ≤ b → Near (w * b) a b
  staying h = stay (w * b) r a b e h

  moving : b ≤ r * 2 → Near (suc w * b) a b
  moving h = subst (λ (p : ℕ). Near p a b) (go (w * b) (suc-mul w b)) (move (w * b) r a b e l h)
    where
      go : (p : ℕ) → suc w * b ≡ p + b → p + b ≡ suc w * b
      go p h = sym h

  step : (o : Ordering) → Cmp o (r * 2) b → Near (nearest w o * b) a b
  step Ordering.lt h = staying (le_of_lt h)
  step Ordering.eq h = elim (parity w) [
    | inl q ↦ subst (λ (x : ℕ). Near (x * b) a b) (sym q) (staying (le_of_eq h))
    | inr q ↦ subst (λ (x : ℕ). Near (x * b) a b) (sym q) (moving (le_of_eq (sym h)))
  ]
  step Ordering.gt h = moving (le_of_lt h)

-- half of b at most
pub closest-near : (a b : ℕ) → 0 < b → Near (closest a b * b) a b
closest-near a b B = step (a / b) b (a % b) a (div-add-mod' a b) (mod-lt a B) (compare (a % b * 2) b) (cmp (a % b * 2) b)

-- which way it goes: down below a half, to the even one at a half, up above
module _ (n u : ℕ) where
  pub closest-below : n % u * 2 < u → closest n u ≡ n / u
  closest-below h = go (compare (n % u * 2) u) (cmp (n % u * 2) u)
    where
      go : (o : Ordering) → Cmp o (n % u * 2) u → nearest (n / u) o ≡ n / u
      go Ordering.lt c = refl
      go Ordering.eq c = absurd (lt_irrefl u (subst (λ (z : ℕ). z < u) c h))
      go Ordering.gt c = absurd (not-le_of_lt c (le_of_lt h))

  pub closest-tie : n % u * 2 ≡ u → closest n u ≡ n / u + n / u % 2
  closest-tie h = go (compare (n % u * 2) u) (cmp (n % u * 2) u)
    where
      go : (o : Ordering) → Cmp o (n % u * 2) u → nearest (n / u) o ≡ n / u + n / u % 2
      go Ordering.lt c = absurd (lt_irrefl u (subst (λ (z : ℕ). z < u) h c))
      go Ordering.eq c = refl
      go Ordering.gt c = absurd (lt_irrefl u (subst (λ (z : ℕ). u < z) h c))

  pub closest-above : u < n % u * 2 → closest n u ≡ n / u + 1
  closest-above h = go (compare (n % u * 2) u) (cmp (n % u * 2) u)
    where
      go : (o : Ordering) → Cmp o (n % u * 2) u → nearest (n / u) o ≡ n / u + 1
      go Ordering.lt c = absurd (not-le_of_lt c (le_of_lt h))
      go Ordering.eq c = absurd (lt_irrefl u (subst (λ (z : ℕ). u < z) c h))
      go Ordering.gt c = sym (add-one (n / u))

-- ---- num / den rounded to a format. In units of the format's smallest value 2 ^ -low it is num * 2 ^ low / den, of which `drop` digits are dropped

-- within half of the last place kept
pub half : (f : Format) (num den : ℕ) → 0 < den → Near (grid f num den * den) (num * 2 ^ low f) (den * 2 ^ drop (prec f) (num * 2 ^ low f) den)
half f num den D =
    let n = num * 2 ^ low f in
    let k = drop (prec f) n den in
    let q = kept (prec f) n den in
    subst (λ (p : ℕ). Near p n (den * 2 ^ k)) (sym (mul_assoc q (2 ^ k) den ∙ ap (λ (x : ℕ). q * x) (mul_comm (2 ^ k) den))) (closest-near n (den * 2 ^ k) (mul-pos D (pow_pos k)))

-- ---- how many digits are dropped, by the size of the result

all_in_use : (z p : ℕ) → 0 < p → 0 < z - p → p - 1 + (z - p) < z
all_in_use z p P h = omega arith

-- where digits are dropped, the kept number has at least p digits
pub kept-ge : (p n den : ℕ) → 0 < p → 0 < drop p n den → 2 ^ (p - 1) ≤ kept p n den
kept-ge p n den P K =
    let k = drop p n den in
    let u = den * 2 ^ k in
    let w = n / den in
    let a : 2 ^ (p - 1) * 2 ^ k ≤ w = le_trans (le_of_eq (sym (pow-add 2 (p - 1) k))) (size_reaches w (p - 1 + k) (all_in_use (size w) p P K)) in
    le_trans (subst (λ (x : ℕ). 2 ^ (p - 1) ≤ x) (div-div-eq-div-mul n den (2 ^ k)) ((le-div_iff_mul-le (pow_pos k)).1 a)) (nearest-ge (n / u) (compare (n % u * 2) u))

fewer : (p k j : ℕ) → 0 < p → p - 1 + k < p + j → k ≤ j
fewer p k j P h = omega arith

-- a result below 2 ^ (p + j) dropped at most j digits
pub drop_le : (p n den j : ℕ) → 0 < p → kept p n den * 2 ^ drop p n den < 2 ^ (p + j) → drop p n den ≤ j
drop_le p n den j P h = elim (eq-zero-or-pos (drop p n den)) [
  | inl z ↦ none (drop p n den) z
  | inr K ↦
      fewer p (drop p n den) j P
      (pow_lt_back (p - 1 + drop p n den) (p + j)
      (lt_of_le_of_lt (le_trans (le_of_eq (pow-add 2 (p - 1) (drop p n den))) (mul-le-mul_right (2 ^ drop p n den) (kept-ge p n den P K))) h))
]
  where
    none : (k : ℕ) → k ≡ 0 → k ≤ j
    none k e = omega arith

-- The absolute form: a result below 2 ^ (prec + j) units is within half of 2 ^ j units.
pub half-below : (f : Format) (num den j : ℕ) → 0 < den → grid f num den < 2 ^ (prec f + j) → Near (grid f num den * den) (num * 2 ^ low f) (den * 2 ^ j)
half-below f num den j D h =
    near-wider (mul-le-mul_left den (pow_mono (drop_le (prec f) (num * 2 ^ low f) den j (two-le_pos (prec f) (two f)) h))) (half f num den D)

-- The relative form: within 2 ^ -prec of the result, or of the smallest normal value where that is larger. B is the larger of the two, or anything above both.
pub half-relative : (f : Format) (num den B : ℕ) → 0 < den → grid f num den ≤ B → 2 ^ (prec f - 1) ≤ B
    → Near (grid f num den * den * 2 ^ (prec f - 1)) (num * 2 ^ low f * 2 ^ (prec f - 1)) (den * B)
half-relative f num den B D h k =
    let n = num * 2 ^ low f in
    let p = prec f in
    let j = drop p n den in
    near-wider (le_trans (le_of_eq (mul_assoc den (2 ^ j) (2 ^ (p - 1)))) (mul-le-mul_left den (most f num den B h k))) (near_times (2 ^ (p - 1)) (half f num den D))
  where
    most : (f : Format) (num den B : ℕ) → grid f num den ≤ B → 2 ^ (prec f - 1) ≤ B → 2 ^ drop (prec f) (num * 2 ^ low f) den * 2 ^ (prec f - 1) ≤ B
    most f num den B h k =
        let n = num * 2 ^ low f in
        let p = prec f in
        let j = drop p n den in
        elim (eq-zero-or-pos j) [
          | inl z ↦ le_trans (le_of_eq (ap (λ (x : ℕ). 2 ^ x * 2 ^ (p - 1)) z ∙ one-mul (2 ^ (p - 1)))) k
          | inr K ↦ le_trans (le_of_eq (mul_comm (2 ^ j) (2 ^ (p - 1)))) (le_trans (mul-le-mul_right (2 ^ j) (kept-ge p n den (two-le_pos p (two f)) K)) h)
        ]

-- ---- the value of what is rounded, with either sign
units_under : (f : Format) (s : Bool) (q k : ℕ) → T (finite (units f s q k)) → q * 2 ^ k < overflow f
unfolding units
units_under f s q k = go (ltb (q * 2 ^ k) (overflow f)) (ltb→lt (q * 2 ^ k) (overflow f))
  where
    go : (b : Bool) → (T b → q * 2 ^ k < overflow f) → T (finite (cond b (odd (suc (prec f)) s q k (low f)) (inf s))) → q * 2 ^ k < overflow f
    go true h t = h tt
    go false h t = absurd t

-- a finite result did not overflow
pub round_under : (f : Format) (s : Bool) (a c : ℕ) → T (finite (round f s a c)) → grid f a c < overflow f
round_under f s a c t = units_under f s (kept (prec f) (a * 2 ^ low f) c) (drop (prec f) (a * 2 ^ low f) c) (subst (λ (z : Float). T (finite z)) (round_is f s a c) t)

-- it has the sign that was given, and `grid` units
pub round_val : (f : Format) (s : Bool) (a c : ℕ) → T (finite (round f s a c)) → HasValue (round f s a c) s (grid f a c) (2 ^ low f)
round_val f s a c t = subst (λ (z : Float). HasValue z s (grid f a c) (2 ^ low f)) (sym (round_is f s a c)) (units_val f s (kept (prec f) (a * 2 ^ low f) c) (drop (prec f) (a * 2 ^ low f) c) (round_under f s a c t))

-- ---- the law

-- x is num / den, rounded with the sign s to the format f: `count` units of f's smallest value, which stand to the exact num * 2 ^ low / den
--   within half of the last place kept (`last-place`),
--   within half of 2 ^ j units where they are below 2 ^ (prec + j) (`absolute`),
--   within 2 ^ -prec of themselves, or of the smallest normal value where that is larger (`relative`).
pub record Rounded (f : Format) (s : Bool) (num den : ℕ) (x : Float) : Type 0 where
  pub count : ℕ
  pub value : HasValue x s count (2 ^ low f)
  pub last-place : Near (count * den) (num * 2 ^ low f) (den * 2 ^ drop (prec f) (num * 2 ^ low f) den)
  pub absolute : (j : ℕ) → count < 2 ^ (prec f + j) → Near (count * den) (num * 2 ^ low f) (den * 2 ^ j)
  pub relative : (B : ℕ) → count ≤ B → 2 ^ (prec f - 1) ≤ B → Near (count * den * 2 ^ (prec f - 1)) (num * 2 ^ low f * 2 ^ (prec f - 1)) (den * B)

pub rounding : (f : Format) (s : Bool) (num den : ℕ) → 0 < den → T (finite (round f s num den)) → Rounded f s num den (round f s num den)
rounding f s num den D t = record {
  count = grid f num den;
  value = round_val f s num den t;
  last-place = half f num den D;
  absolute = λ j h. half-below f num den j D h;
  relative = λ B h k. half-relative f num den B D h k;
}
