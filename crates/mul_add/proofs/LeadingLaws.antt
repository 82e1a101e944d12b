-- Rounding sees only the leading digits, and whether anything is left below them (`round-leading`): two fractions round to the same value if they have the same digits down to some place,
-- at least one more of them than the format keeps, and both or neither have something below it. It holds in either format, with either sign, subnormal results and overflow included. Assumes nothing.
use mathlib.Core.Path.{◌≡◌, refl, sym, ap, ◌∙◌, subst}
use mathlib.Core.Logic.{inl, inr}
use mathlib.Core.Bool.{Bool, true, false, not, cond}
use Prim.Native.Nat.{ℕ, suc, ◌+◌, ◌-◌, ◌*◌, ◌/◌, ◌%◌, ◌^◌, ◌≤◌, ◌<◌}
use native.Mathlib.Nat.{le_trans, le_of_eq, lt_of_le_of_lt, eq-zero-or-pos, mul_comm, mul_assoc, mul-one, mul-pos, suc-mul, mul-le-mul_right, div-add-mod', mod-lt, div-div-eq-div-mul}
use native.Mathlib.Omega.{arith}
use lib.Dec.{T, leb, ltb, eqb, leb→le, nleb→lt, ltb→lt, nltb→le, eqb→eq, lit<}
use lib.Arith.{mod-mul}
use lib.Pow.{pow-add, pow_pos}
use lib.Ieee.{Format, prec, low, size, units, round}
use lib.Ieee.Digits.{size-lt}
use lib.Ieee.Fits.{round_is}
use lib.Ieee.Nearest.{closest, closest_same, div_same}
use lib.Ieee.Order.{drop, kept}
use lib.Ieee.Scale.{round_same}
use Rattle.binary64.proofs.Half.{closest-below, closest-above}
use Rattle.binary64.proofs.Powers.{pow_lt_back, times₂}
use Rattle.mul_add.proofs.DigitLaws.{not-zero, cross, size-shift}

-- ---- num / den in places of 2 ^ i / 2 ^ j: its leading digits, a whole number of them
abbrev pub leading : ℕ → ℕ → ℕ → ℕ → ℕ
leading i j num den = num * 2 ^ j / (den * 2 ^ i)

-- what is left below the place, over the same denominator
abbrev pub below : ℕ → ℕ → ℕ → ℕ → ℕ
below i j num den = num * 2 ^ j % (den * 2 ^ i)

-- whether nothing is left
abbrev pub whole : ℕ → ℕ → ℕ → ℕ → Bool
whole i j num den = eqb (below i j num den) 0

-- ---- a quotient n / b that is not whole, rounded to a multiple of a larger power: its whole part says which way
abbrev by_digits : ℕ → ℕ → ℕ
by_digits h a = cond (ltb (a % (2 * 2 ^ h)) (2 ^ h)) (a / (2 * 2 ^ h)) (a / (2 * 2 ^ h) + 1)

module _ (b h a : ℕ) (B : 0 < b) where
  abbrev g : ℕ
  g = 2 ^ h

  abbrev u : ℕ
  u = 2 * g * b

  closest-by-digits : (n : ℕ) → n / b ≡ a → 0 < n % b → closest n u ≡ by_digits h a
  closest-by-digits n e r = go (ltb (a % (2 * g)) g) (ltb→lt (a % (2 * g)) g) (nltb→le (a % (2 * g)) g)
    where
      quotient : n / u ≡ a / (2 * g)
      quotient = ap (λ (z : ℕ). n / z) (mul_comm (2 * g) b) ∙ sym (div-div-eq-div-mul n b (2 * g)) ∙ ap (λ (z : ℕ). z / (2 * g)) e

      rest : n % u ≡ a % (2 * g) * b + n % b
      rest = mod-mul n (mul-pos (lit< tt) (pow_pos h)) B ∙ ap (λ (z : ℕ). z % (2 * g) * b + n % b) e

      less : (x k r w m y : ℕ) → m ≡ x + r → r < w → x + w ≤ y → k ≡ 2 * y → m * 2 < k
      less x k r w m y a b c d = omega arith

      more : (x k r m y : ℕ) → m ≡ x + r → 0 < r → y ≤ x → k ≡ 2 * y → k < m * 2
      more x k r m y a b c d = omega arith

      go : (t : Bool) → (T t → a % (2 * g) < g) → (T (not t) → g ≤ a % (2 * g)) → closest n u ≡ cond t (a / (2 * g)) (a / (2 * g) + 1)
      go true f k =
          closest-below n u (less (a % (2 * g) * b) u (n % b) b (n % u) (g * b) rest (mod-lt n B)
          (le_trans (le_of_eq (sym (suc-mul (a % (2 * g)) b))) (mul-le-mul_right b (f tt))) (mul_assoc 2 g b))
          ∙ quotient
      go false f k =
          closest-above n u (more (a % (2 * g) * b) u (n % b) (n % u) (g * b) rest r (mul-le-mul_right b (k tt)) (mul_assoc 2 g b))
          ∙ ap (λ (z : ℕ). z + 1) quotient

-- ---- what `round` drops and keeps of num / den, by its leading digits
module _ (f : Format) (i j num den : ℕ) (D : 0 < den) where
  abbrev n : ℕ
  n = num * 2 ^ low f

  abbrev digits : ℕ
  digits = leading i j num den

  -- the place lies above the smallest value's by t, or below it
  whole_above : (t : ℕ) → j + t ≡ low f + i → n / den / 2 ^ t ≡ digits
  whole_above t e = div-div-eq-div-mul n den (2 ^ t) ∙ div_same n (den * 2 ^ t) (num * 2 ^ j) (den * 2 ^ i) (mul-pos D (pow_pos t)) (mul-pos D (pow_pos i)) (cross num den (low f) i j t (sym e))

  whole_below : (t : ℕ) → low f + i + t ≡ j → n / den ≡ digits / 2 ^ t
  whole_below t e =
      div_same n den (num * 2 ^ j) (den * 2 ^ i * 2 ^ t) D (mul-pos (mul-pos D (pow_pos i)) (pow_pos t))
      (ap (λ (z : ℕ). n * z) (times₂ den i t) ∙ cross num den (low f) (i + t) j 0 (sums (low f) e) ∙ ap (λ (z : ℕ). num * 2 ^ j * z) (mul-one den))
      ∙ sym (div-div-eq-div-mul (num * 2 ^ j) (den * 2 ^ i) (2 ^ t))
    where
      sums : (l : ℕ) → l + i + t ≡ j → l + (i + t) ≡ j + 0
      sums l e = omega arith

  kept-by-digits : (h : ℕ) → low f + i + suc h ≡ j + drop (prec f) n den → 0 < below i j num den → kept (prec f) n den ≡ by_digits h digits
  kept-by-digits h e r =
      let k = drop (prec f) n den in
      let b = den * 2 ^ i in
      let B = mul-pos D (pow_pos i) in
      closest_same n (den * 2 ^ k) (num * 2 ^ j) (2 * 2 ^ h * b) (mul-pos D (pow_pos k)) (mul-pos (mul-pos (lit< tt) (pow_pos h)) B)
      (ap (λ (z : ℕ). n * z) (mul_comm (2 * 2 ^ h) b ∙ ap (λ (z : ℕ). b * z) (sym (pow-add 2 1 h)) ∙ times₂ den i (1 + h)) ∙ cross num den (low f) (i + (1 + h)) j k (sums (low f) k e))
      ∙ closest-by-digits b h digits B (num * 2 ^ j) refl r
    where
      sums : (l k : ℕ) → l + i + suc h ≡ j + k → l + (i + (1 + h)) ≡ j + k
      sums l k e = omega arith

  -- with nothing below, the digits are all of it
  round_whole : (s : Bool) → below i j num den ≡ 0 → round f s num den ≡ round f s (digits * 2 ^ i) (2 ^ j)
  round_whole s e =
      round_same f s num den (digits * 2 ^ i) (2 ^ j) D (pow_pos j)
      (sym (all (digits * (den * 2 ^ i)) (num * 2 ^ j) (below i j num den) (div-add-mod' (num * 2 ^ j) (den * 2 ^ i)) e)
      ∙ ap (λ (z : ℕ). digits * z) (mul_comm den (2 ^ i))
      ∙ sym (mul_assoc digits (2 ^ i) den))
    where
      all : (p n r : ℕ) → p + r ≡ n → r ≡ 0 → p ≡ n
      all p n r a b = omega arith

-- ---- two fractions with the same leading digits
module _ (f : Format) (s : Bool) (i j num den num' den' : ℕ) (D : 0 < den) (D' : 0 < den') (same : leading i j num den ≡ leading i j num' den') where
  abbrev a : ℕ
  a = leading i j num' den'

  -- with more digits than the format keeps, both drop the same number of places, and the last one kept lies above the place of the cut
  as_many : 2 ^ prec f ≤ leading i j num' den' → (drop (prec f) (num * 2 ^ low f) den ≡ drop (prec f) (num' * 2 ^ low f) den') × (low f + i + 1 ≤ j + drop (prec f) (num' * 2 ^ low f) den')
  as_many many = go (leb j (low f + i)) (leb→le j (low f + i)) (nleb→lt j (low f + i))
    where
      more : prec f < size a
      more = pow_lt_back (prec f) (size a) (lt_of_le_of_lt many (size-lt a))

      some : (p a : ℕ) → 0 < p → p ≤ a → 0 < a
      some p a x y = omega arith

      pos : 0 < a
      pos = some (2 ^ prec f) a (pow_pos (prec f)) many

      go : (b : Bool) → (T b → j ≤ low f + i) → (T (not b) → low f + i < j) → (drop (prec f) (num * 2 ^ low f) den ≡ drop (prec f) (num' * 2 ^ low f) den') × (low f + i + 1 ≤ j + drop (prec f) (num' * 2 ^ low f) den')
      go true h k =
          let t = low f + i - j in
          let e = up j (low f + i) (h tt) in
          let x = size-shift (num * 2 ^ low f / den) t a (whole_above f i j num den D t e ∙ same) pos in
          let y = size-shift (num' * 2 ^ low f / den') t a (whole_above f i j num' den' D' t e) pos in
          (ap (λ (z : ℕ). z - prec f) (x ∙ sym y), room (size (num' * 2 ^ low f / den')) (size a) (low f + i) j (prec f) (h tt) y more)
        where
          up : (j l : ℕ) → j ≤ l → j + (l - j) ≡ l
          up j l h = omega arith

          room : (s z l j p : ℕ) → j ≤ l → s ≡ z + (l - j) → p < z → l + 1 ≤ j + (s - p)
          room s z l j p a b c = omega arith
      go false h k =
          let t = j - (low f + i) in
          let e = down (low f + i) j (k tt) in
          (ap (λ (z : ℕ). size z - prec f) (whole_below f i j num den D t e ∙ ap (λ (z : ℕ). z / 2 ^ t) same ∙ sym (whole_below f i j num' den' D' t e)), room (low f + i) j (drop (prec f) (num' * 2 ^ low f) den') (k tt))
        where
          down : (l j : ℕ) → l < j → l + (j - l) ≡ j
          down l j h = omega arith

          room : (l j d : ℕ) → l < j → l + 1 ≤ j + d
          room l j d h = omega arith

  same-round : 2 ^ prec f ≤ leading i j num' den' → whole i j num den ≡ whole i j num' den' → round f s num den ≡ round f s num' den'
  same-round many left = elim (eq-zero-or-pos (below i j num den)) [ inl e ↦ none e | inr r ↦ some r ]
    where
      none : below i j num den ≡ 0 → round f s num den ≡ round f s num' den'
      none e =
          round_whole f i j num den D s e
          ∙ ap (λ (z : ℕ). round f s (z * 2 ^ i) (2 ^ j)) same
          ∙ sym (round_whole f i j num' den' D' s (eqb→eq (below i j num' den') 0 (subst T (ap (λ (z : ℕ). eqb z 0) (sym e) ∙ left) tt)))

      some : 0 < below i j num den → round f s num den ≡ round f s num' den'
      some r =
          let d = as_many many in
          let n = num * 2 ^ low f in
          let n' = num' * 2 ^ low f in
          let k = drop (prec f) n' den' in
          let h = j + k - (low f + i + 1) in
          let e : low f + i + suc h ≡ j + k = sums (low f + i) (j + k) d.1 in
          round_is f s num den
          ∙ ap (λ (z : ℕ). units f s (kept (prec f) n den) z) d.0
          ∙ ap (λ (z : ℕ). units f s z k) (kept-by-digits f i j num den D h (e ∙ ap (λ (z : ℕ). j + z) (sym d.0)) r ∙ ap (λ (z : ℕ). by_digits h z) same ∙ sym (kept-by-digits f i j num' den' D' h e r'))
          ∙ sym (round_is f s num' den')
        where
          sums : (l k : ℕ) → l + 1 ≤ k → l + suc (k - (l + 1)) ≡ k
          sums l k h = omega arith

          -- something is left of the other too
          clash : (r r' : ℕ) → eqb r 0 ≡ eqb r' 0 → 0 < r → r' ≡ 0 → ⊥
          clash r r' e h k = not-zero h (eqb→eq r 0 (subst T (ap (λ (z : ℕ). eqb z 0) (sym k) ∙ sym e) tt))

          r' : 0 < below i j num' den'
          r' = elim (eq-zero-or-pos (below i j num' den')) [ inl z ↦ absurd (clash (below i j num den) (below i j num' den') left r z) | inr p ↦ p ]

-- ---- THE LAW: num / den and num' / den' have the same leading digits down to some place, at least one more of them than the format keeps, and both or neither have something below it. Then they round to the same value.
pub round-leading : (f : Format) (s : Bool) (i j num den num' den' : ℕ) → 0 < den → 0 < den'
    → 2 ^ prec f ≤ leading i j num den
    → leading i j num den ≡ leading i j num' den'
    → whole i j num den ≡ whole i j num' den'
    → round f s num den ≡ round f s num' den'
round-leading f s i j num den num' den' D D' many same left = same-round f s i j num den num' den' D D' same (le_trans many (le_of_eq same)) left
