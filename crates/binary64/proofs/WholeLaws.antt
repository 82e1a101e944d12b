-- Whole numbers near m * 2 ^ j / 2 ^ l, by shifts of m: to the nearest with a half up, cut down, and cut up. Nothing here is about floats. Assumes nothing.
-- `..-none` is where m lies wholly below the point, `..-down` where the shift is to the right, `nearest-up` where it is to the left.
-- `..-places` joins the first two: of an m of d digits, a shift by d + 1 does for every larger one.
use mathlib.Core.Path.{◌≡◌, sym, ap, ◌∙◌}
use Prim.Native.Nat.{ℕ, zero, suc, ◌+◌, ◌-◌, ◌*◌, ◌/◌, ◌^◌, ◌≤◌, ◌<◌, min}
use native.Mathlib.Nat.{le_trans, le_of_eq, le_of_lt, le_of_suc-le-suc, suc-mul, div-lt_iff_lt-mul, lt_of_lt_of_le, mul_comm, mul_assoc, mul_left_comm, mul-pos, one-mul, add-mul, div-eq_of_lt, div-div-eq-div-mul, zero-mul, add-mul-div_right, zero-lt-suc, pow-succ', min-eq_left, min-eq_right}
use native.Mathlib.Numerals.{add-one, sub-one}
use native.Mathlib.Decide.{dec_le}
use native.Mathlib.Omega.{arith}
use lib.Pow.{pow_pos, pow_mono, shl_lt}
use lib.Arith.{digits_div}
use lib.Ieee.Nearest.{div_same}
use Rattle.binary64.proofs.Powers.{pow-split}

-- either all l - j places are below d + 1, or d digits lie wholly below the point, and less than a half
places-cases : {X : Type 0} (d j l : ℕ) → (min (l - j) (suc d) ≡ l - j → X) → (min (l - j) (suc d) ≡ suc d → d + j < l → X) → X
places-cases d j l f g = elim (dec_le (l - j) (suc d)) [
  | yes h ↦ f (min-eq_left h)
  | no h ↦ g (min-eq_right (le d j l h)) (lt d j l h)
]
  where
    le : (d j l : ℕ) → (l - j ≤ suc d → ⊥) → suc d ≤ l - j
    le d j l h = omega arith

    lt : (d j l : ℕ) → (l - j ≤ suc d → ⊥) → d + j < l
    lt d j l h = omega arith

-- ---- to the nearest, a half up: (2 * n + u) / (2 * u)

-- less than a half
pub nearest-none : (m d j l : ℕ) → m < 2 ^ d → d + j < l → (2 * (m * 2 ^ j) + 2 ^ l) / (2 * 2 ^ l) ≡ 0
nearest-none m d j l h k =
    div-eq_of_lt (small-half (m * 2 ^ j) (2 ^ l) (lt_of_lt_of_le (twice (m * 2 ^ j) (2 ^ (d + j)) (shl_lt d j h)) (le_trans (le_of_eq (sym (pow-succ' 2 (d + j)))) (pow_mono k))))
  where
    small-half : (n u : ℕ) → 2 * n < u → 2 * n + u < 2 * u
    small-half n u h = omega arith

    twice : (a b : ℕ) → a < b → 2 * a < 2 * b
    twice a b h = omega arith

-- h is half of 2 ^ (l - j)
halving : (m h q : ℕ) → 0 < h → 0 < q → (m + h) / (2 * h) ≡ (2 * (m * q) + 2 * h * q) / (2 * (2 * h * q))
halving m h q H Q =
    div_same (m + h) (2 * h) (2 * (m * q) + 2 * h * q) (2 * (2 * h * q)) (mul-pos (zero-lt-suc 1) H) (mul-pos (zero-lt-suc 1) (mul-pos (mul-pos (zero-lt-suc 1) H) Q))
    (simp (add-mul, mul_assoc, mul_comm, mul_left_comm))

pub nearest-down : (m j l : ℕ) → j < l → (m + 2 ^ (l - j - 1)) / 2 ^ (l - j) ≡ (2 * (m * 2 ^ j) + 2 ^ l) / (2 * 2 ^ l)
nearest-down m j l h =
    let g = 2 ^ (l - j - 1) in
    let two : 2 ^ (l - j) ≡ 2 * g = ap (λ (z : ℕ). 2 ^ z) (one_more j l h) ∙ pow-succ' 2 (l - j - 1) in
    let all : 2 ^ l ≡ 2 * g * 2 ^ j = pow-split j l (le_of_lt h) ∙ ap (λ (z : ℕ). z * 2 ^ j) two in
    ap (λ (z : ℕ). (m + g) / z) two ∙ halving m g (2 ^ j) (pow_pos (l - j - 1)) (pow_pos j) ∙ ap (λ (z : ℕ). (2 * (m * 2 ^ j) + z) / (2 * z)) (sym all)
  where
    one_more : (j l : ℕ) → j < l → l - j ≡ suc (l - j - 1)
    one_more j l h = omega arith

pub nearest-up : (m j l : ℕ) → l ≤ j → m * 2 ^ (j - l) ≡ (2 * (m * 2 ^ j) + 2 ^ l) / (2 * 2 ^ l)
nearest-up m j l h =
    sym (ap (λ (z : ℕ). (2 * z + 2 ^ l) / (2 * 2 ^ l)) (ap (λ (z : ℕ). m * z) (pow-split l j h) ∙ sym (mul_assoc m (2 ^ (j - l)) (2 ^ l)))
    ∙ ap (λ (z : ℕ). (z + 2 ^ l) / (2 * 2 ^ l)) (mul_left_comm 2 (m * 2 ^ (j - l)) (2 ^ l))
    ∙ digits_div (m * 2 ^ (j - l)) (half-less (2 ^ l) (pow_pos l)))
  where
    half-less : (u : ℕ) → 0 < u → u < 2 * u
    half-less u h = omega arith

pub nearest-places : (m d j l : ℕ) → m < 2 ^ d → j < l
    → (m + 2 ^ (min (l - j) (suc d) - 1)) / 2 ^ min (l - j) (suc d) ≡ (2 * (m * 2 ^ j) + 2 ^ l) / (2 * 2 ^ l)
nearest-places m d j l h k =
    places-cases d j l
    (λ e. ap (λ (n : ℕ). (m + 2 ^ (n - 1)) / 2 ^ n) e ∙ nearest-down m j l k)
    (λ e g. ap (λ (n : ℕ). (m + 2 ^ (n - 1)) / 2 ^ n) e ∙ ap (λ (n : ℕ). (m + 2 ^ n) / 2 ^ suc d) (sub-one (suc d)) ∙ div-eq_of_lt (lt_of_lt_of_le (small m (2 ^ d) h) (le_of_eq (sym (pow-succ' 2 d)))) ∙ sym (nearest-none m d j l h g))
  where
    small : (m p : ℕ) → m < p → m + p < 2 * p
    small m p h = omega arith

-- ---- cut down: n / u

pub cut-none : (m d j l : ℕ) → m < 2 ^ d → d + j ≤ l → m * 2 ^ j / 2 ^ l ≡ 0
cut-none m d j l h k = div-eq_of_lt (lt_of_lt_of_le (shl_lt d j h) (pow_mono k))

pub cut_down : (m j l : ℕ) → j ≤ l → m / 2 ^ (l - j) ≡ m * 2 ^ j / 2 ^ l
cut_down m j l h =
    div_same m (2 ^ (l - j)) (m * 2 ^ j) (2 ^ l) (pow_pos (l - j)) (pow_pos l)
    (ap (λ (z : ℕ). m * z) (pow-split j l h ∙ mul_comm (2 ^ (l - j)) (2 ^ j)) ∙ sym (mul_assoc m (2 ^ j) (2 ^ (l - j))))

pub cut-places : (m d j l : ℕ) → m < 2 ^ d → j < l → m / 2 ^ min (l - j) (suc d) ≡ m * 2 ^ j / 2 ^ l
cut-places m d j l h k =
    places-cases d j l
    (λ e. ap (λ (n : ℕ). m / 2 ^ n) e ∙ cut_down m j l (le_of_lt k))
    (λ e g. ap (λ (n : ℕ). m / 2 ^ n) e ∙ div-eq_of_lt (lt_of_lt_of_le h (pow_mono (le_of_lt (zero-less d)))) ∙ sym (cut-none m d j l h (le_of_lt g)))
  where
    zero-less : (d : ℕ) → d < suc d
    zero-less d = omega arith

-- ---- cut up: (n + u - 1) / u

-- of nothing, and of n + 1: one more than n cut down
pub up-zero : (u : ℕ) → 0 < u → (0 + u - 1) / u ≡ 0
up-zero u U = div-eq_of_lt (go u U)
  where
    go : (u : ℕ) → 0 < u → 0 + u - 1 < u
    go u h = omega arith

pub up_suc : (n u : ℕ) → 0 < u → (suc n + u - 1) / u ≡ suc (n / u)
up_suc n u U = ap (λ (z : ℕ). z / u) (shift n u U) ∙ add-mul-div_right n 1 U ∙ add-one (n / u)
  where
    shift : (n u : ℕ) → 0 < u → suc n + u - 1 ≡ n + 1 * u
    shift n u h = omega arith

-- below one u: 1, unless it is nothing
up_none : (n u : ℕ) → 0 < u → 0 < n → n ≤ u → (n + u - 1) / u ≡ 1
up_none zero u U N h = absurd (omega arith)
up_none (suc n) u U N h = up_suc n u U ∙ ap suc (div-eq_of_lt h)

pub up-down : (m j l : ℕ) → j ≤ l → (m + 2 ^ (l - j) - 1) / 2 ^ (l - j) ≡ (m * 2 ^ j + 2 ^ l - 1) / 2 ^ l
up-down m j l h =
    let q = 2 ^ j in
    let g = 2 ^ (l - j) in
    let a = m + g - 1 in
    let u : 2 ^ l ≡ g * q = pow-split j l h in
    sym
    (ap (λ (z : ℕ). (m * q + z - 1) / z) (u ∙ mul_comm g q)
    ∙ sym (div-div-eq-div-mul (m * q + q * g - 1) q g)
    ∙ ap (λ (z : ℕ). z / q / g) (shift (m * q) (q * g) (a * q) q (pow_pos j) (spread m g q (pow_pos (l - j))))
    ∙ ap (λ (z : ℕ). z / g) (digits_div a (less q (pow_pos j))))
  where
    less : (q : ℕ) → 0 < q → q - 1 < q
    less q h = omega arith

    suc-is : (m g : ℕ) → 0 < g → m + g - 1 + 1 ≡ m + g
    suc-is m g h = omega arith

    spread : (m g q : ℕ) → 0 < g → (m + g - 1) * q + q ≡ m * q + q * g
    spread m g q h = ap (λ (z : ℕ). (m + g - 1) * q + z) (sym (one-mul q)) ∙ sym (add-mul (m + g - 1) 1 q) ∙ ap (λ (z : ℕ). z * q) (suc-is m g h) ∙ add-mul m g q ∙ ap (λ (z : ℕ). m * q + z) (mul_comm g q)

    shift : (p r t q : ℕ) → 0 < q → t + q ≡ p + r → p + r - 1 ≡ t + (q - 1)
    shift p r t q h e = omega arith

pub up-places : (m d j l : ℕ) → m < 2 ^ d → j < l → (m + 2 ^ min (l - j) (suc d) - 1) / 2 ^ min (l - j) (suc d) ≡ (m * 2 ^ j + 2 ^ l - 1) / 2 ^ l
up-places m d j l h k =
    places-cases d j l
    (λ e. ap (λ (n : ℕ). (m + 2 ^ n - 1) / 2 ^ n) e ∙ up-down m j l (le_of_lt k))
    (λ e g. ap (λ (n : ℕ). (m + 2 ^ n - 1) / 2 ^ n) e ∙ low m h g)
  where
    step : (d : ℕ) → d ≤ suc d
    step d = omega arith

    low : (m : ℕ) → m < 2 ^ d → d + j < l → (m + 2 ^ suc d - 1) / 2 ^ suc d ≡ (m * 2 ^ j + 2 ^ l - 1) / 2 ^ l
    low zero h g = up-zero (2 ^ suc d) (pow_pos (suc d)) ∙ sym (ap (λ (z : ℕ). (z + 2 ^ l - 1) / 2 ^ l) (zero-mul (2 ^ j)) ∙ up-zero (2 ^ l) (pow_pos l))
    low (suc m) h g =
        up_none (suc m) (2 ^ suc d) (pow_pos (suc d)) (zero-lt-suc m) (le_trans (le_of_lt h) (pow_mono (step d)))
        ∙ sym (up_none (suc m * 2 ^ j) (2 ^ l) (pow_pos l) (mul-pos (zero-lt-suc m) (pow_pos j)) (le_of_lt (lt_of_lt_of_le (shl_lt d j h) (pow_mono (le_of_lt g)))))

-- ---- each is at most b where n is below b u's

pub cut_small : (n b u : ℕ) → 0 < u → n < b * u → n / u ≤ b
cut_small n b u U h = le_of_lt ((div-lt_iff_lt-mul U).1 h)

pub up_small : (n b u : ℕ) → 0 < u → n < b * u → (n + u - 1) / u ≤ b
up_small n b u U h = le_of_suc-le-suc ((div-lt_iff_lt-mul U).1 (go n (b * u) (suc b * u) u U h (suc-mul b u)))
  where
    go : (n p q u : ℕ) → 0 < u → n < p → q ≡ p + u → n + u - 1 < q
    go n p q u a b c = omega arith

pub nearest-small : (n b u : ℕ) → 0 < u → n < b * u → (2 * n + u) / (2 * u) ≤ b
nearest-small n b u U h = le_of_suc-le-suc ((div-lt_iff_lt-mul (mul-pos (zero-lt-suc 1) U)).1 (go n (b * u) (suc b * (2 * u)) u U h (mul_left_comm (suc b) 2 u ∙ ap (λ (z : ℕ). 2 * z) (suc-mul b u))))
  where
    go : (n p q u : ℕ) → 0 < u → n < p → q ≡ 2 * (p + u) → 2 * n + u < q
    go n p q u a b c = omega arith
