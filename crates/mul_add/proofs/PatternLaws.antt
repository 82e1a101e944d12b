-- The bit pattern of a rounded double. `round-pattern`: it is the digits that are kept, plus the number of places that are dropped in the exponent's field, or an infinity's. A carry out of the digits adds one to the field, as it should.
-- `pattern-finite`, `pattern-infinite` and `pattern-zero` give it for m * 2 ^ p over 2 ^ scale, as the code works it out. Assumes nothing.
use mathlib.Core.Path.{◌≡◌, refl, sym, ap, ap₂, ◌∙◌, subst}
use mathlib.Core.Logic.{inl, inr}
use mathlib.Core.Bool.{Bool, true, false, not, cond}
use Prim.Native.Nat.{ℕ, suc, ◌+◌, ◌-◌, ◌*◌, ◌/◌, ◌%◌, ◌^◌, ◌≤◌, ◌<◌, compare}
use native.Mathlib.Nat.{le_refl, le_trans, le_of_eq, lt_of_lt_of_le, eq-or-lt_of_le, eq-zero-or-pos, zero-mul, mul-one, add_assoc, mul-pos, mul-le-mul_right, le_of_mul-le-mul_right, div-one, div-div-eq-div-mul, le-div_iff_mul-le, div-lt_iff_lt-mul}
use native.Mathlib.Omega.{arith}
use lib.Dec.{T, leb, ltb, leb→le, nleb→lt, ltb→lt, nltb→le, lt→ltb, lit≤, lit<}
use lib.Arith.{le→nltb}
use lib.Pow.{pow-add, pow_pos, pow_mono, shl_lt, shl-shr}
use lib.Ieee.{Float, nan, inf, fin, binary64, prec, emax, low, size, odd, units, round, to_bits, of_bits, nan_bits}
use lib.Ieee.Digits.{size-le}
use lib.Ieee.Fits.{round_is, round-fits, nearest-le, kept-lt}
use lib.Ieee.Bits.{of_bits-to_bits, nan_bits_above, is_true, cond_no}
use lib.Ieee.Exact.{HasValue, units_val}
use lib.Ieee.Nearest.{closest, closest_same, nearest-ge}
use lib.Ieee.Order.{drop, kept}
use lib.Ieee.Scale.{overflow, round_same}
use Rattle.binary64.proofs.Half.{kept-ge}
use Rattle.binary64.specs.Value.{unit, size_of}
use Rattle.binary64.proofs.ValueLaws.{size-of-value}
use Rattle.mul_add.specs.code.Places.{word, scale, unit_place, excess, normal_from, infinite_from, hidden, sign_bit, infinity}
use Rattle.mul_add.specs.code.Pattern.{Pattern}
use Rattle.binary64.proofs.Powers.{same-pow, pow_le_back, times₂, times₃}
use Rattle.mul_add.proofs.DigitLaws.{size_is}

-- ---- what binary64 counts with: its digits, the power of its smallest value, and the largest exponent's field
abbrev digits : ℕ
digits = prec binary64

abbrev smallest : ℕ
smallest = low binary64

abbrev fields : ℕ
fields = 2 * emax binary64

-- ---- the pattern of a value, by its size in smallest values
abbrev pattern_by : Bool → ℕ → ℕ → ℕ
pattern_by s a k = cond s sign_bit 0 + k * hidden + a / 2 ^ k

to_bits_is : (v : Float) (s : Bool) (a : ℕ) → HasValue v s a unit → to_bits binary64 v ≡ pattern_by s a (size a - digits)
unfolding to_bits size_of
to_bits_is nan s a h = absurd h
to_bits_is (inf t) s a h = absurd h
to_bits_is (fin t m e) s a h = ap₂ (λ (b : Bool) (n : ℕ). pattern_by b n (size n - digits)) h.0 (size-of-value (fin t m e) s a h)

-- q * 2 ^ k, where q has all of the format's digits or, with nothing dropped, fewer; or is one more than they can be
module _ (q k : ℕ) (most : q ≤ 2 * hidden) (full : 0 < k → hidden ≤ q) where
  abbrev amount : ℕ
  amount = q * 2 ^ k

  at : (j r : ℕ) → size amount - digits ≡ j → amount / 2 ^ j ≡ r → (size amount - digits) * hidden + amount / 2 ^ (size amount - digits) ≡ j * hidden + r
  at j r e f = ap (λ (i : ℕ). i * hidden + amount / 2 ^ i) e ∙ ap (λ (i : ℕ). j * hidden + i) f

  sizes : (z : ℕ) → 2 ^ z ≤ q → q < 2 ^ suc z → size amount ≡ suc (z + k)
  sizes z a b = size_is amount (z + k) (le_trans (le_of_eq (pow-add 2 z k)) (mul-le-mul_right (2 ^ k) a)) (lt_of_lt_of_le (shl_lt (suc z) k b) (pow_mono (go z k)))
    where
      go : (z k : ℕ) → suc z + k ≤ suc (z + k)
      go z k = omega arith

  less : (z j : ℕ) → size amount ≡ z → z ≡ digits + j → size amount - digits ≡ j
  less z j a b = omega arith

  field : (size amount - digits) * hidden + amount / 2 ^ (size amount - digits) ≡ k * hidden + q
  field = elim (eq-or-lt_of_le most) [ inl e ↦ carried e | inr g ↦ elim (eq-zero-or-pos k) [ inl z ↦ none g z | inr p ↦ all g p ] ]
    where
      all : q < 2 * hidden → 0 < k → (size amount - digits) * hidden + amount / 2 ^ (size amount - digits) ≡ k * hidden + q
      all g p = at k q (less (suc (digits - 1 + k)) k (sizes (digits - 1) (full p) g) (omega arith)) (shl-shr q k)

      carried : q ≡ 2 * hidden → (size amount - digits) * hidden + amount / 2 ^ (size amount - digits) ≡ k * hidden + q
      carried e =
          at (suc k) hidden (less (suc (digits + k)) (suc k) (sizes digits (le_of_eq (sym e)) (omega arith)) (omega arith))
          (ap (λ (z : ℕ). z / 2 ^ suc k) (ap (λ (z : ℕ). z * 2 ^ k) e ∙ sym (pow-add 2 digits k) ∙ same-pow (regroup k) ∙ pow-add 2 (digits - 1) (suc k)) ∙ shl-shr hidden (suc k))
          ∙ add-up k q e
        where
          regroup : (k : ℕ) → digits + k ≡ digits - 1 + suc k
          regroup k = omega arith

          add-up : (k q : ℕ) → q ≡ 2 * hidden → suc k * hidden + hidden ≡ k * hidden + q
          add-up k q e = omega arith

      none : q < 2 * hidden → k ≡ 0 → (size amount - digits) * hidden + amount / 2 ^ (size amount - digits) ≡ k * hidden + q
      none g z =
          let e : amount ≡ q = ap (λ (i : ℕ). q * 2 ^ i) z ∙ mul-one q in
          at 0 q (zero_of (size amount) (size-le amount digits (subst (λ (i : ℕ). i < 2 ^ digits) (sym e) g))) (div-one amount ∙ e) ∙ last k q z
        where
          zero_of : (z : ℕ) → z ≤ digits → z - digits ≡ 0
          zero_of z h = omega arith

          last : (k q : ℕ) → k ≡ 0 → 0 * hidden + q ≡ k * hidden + q
          last k q e = omega arith

-- ---- what is kept, and its pattern
abbrev pattern_of : ℕ → ℕ → ℕ
pattern_of q k = cond (ltb (q * 2 ^ k) (overflow binary64)) (k * hidden + q) infinity

units-bits : (s : Bool) (q k : ℕ) → q ≤ 2 * hidden → (0 < k → hidden ≤ q) → to_bits binary64 (units binary64 s q k) ≡ cond s sign_bit 0 + pattern_of q k
unfolding units
units-bits s q k h l = go (ltb (q * 2 ^ k) (overflow binary64)) (ltb→lt (q * 2 ^ k) (overflow binary64)) (is_true (ltb (q * 2 ^ k) (overflow binary64)))
  where
    go : (b : Bool) → (T b → q * 2 ^ k < overflow binary64) → (T (ltb (q * 2 ^ k) (overflow binary64)) → ltb (q * 2 ^ k) (overflow binary64) ≡ true)
        → to_bits binary64 (cond b (odd (suc digits) s q k smallest) (inf s)) ≡ cond s sign_bit 0 + cond b (k * hidden + q) infinity
    go true t f =
        let a = q * 2 ^ k in
        to_bits_is (odd (suc digits) s q k smallest) s a (subst (λ (v : Float). HasValue v s a unit) (ap (λ (b : Bool). cond b (odd (suc digits) s q k smallest) (inf s)) (f (lt→ltb a (overflow binary64) (t tt)))) (units_val binary64 s q k (t tt)))
        ∙ add_assoc (cond s sign_bit 0) ((size a - digits) * hidden) (a / 2 ^ (size a - digits))
        ∙ ap (λ (z : ℕ). cond s sign_bit 0 + z) (field q k h l)
    go false t f = unfold to_bits in refl

kept-le : (p n den : ℕ) → kept p n den ≤ 2 ^ p
kept-le p n den =
    let k = drop p n den in
    let u = den * 2 ^ k in
    le_trans (nearest-le (n / u) (compare (n % u * 2) u)) (subst (λ (x : ℕ). x < 2 ^ p) (div-div-eq-div-mul n den (2 ^ k)) (kept-lt p (n / den)))

-- the double that num / den rounds to, by its pattern
pub round-pattern : (s : Bool) (num den : ℕ) → round binary64 s num den ≡ of_bits binary64 (cond s sign_bit 0 + pattern_of (kept digits (num * unit) den) (drop digits (num * unit) den))
round-pattern s num den =
    let n = num * unit in
    sym (of_bits-to_bits binary64 (round binary64 s num den) (round-fits binary64 s num den))
    ∙ ap (λ (w : Float). of_bits binary64 (to_bits binary64 w)) (round_is binary64 s num den)
    ∙ ap (of_bits binary64) (units-bits s (kept digits n den) (drop digits n den) (kept-le digits n den) (kept-ge digits n den (lit< tt)))

-- ---- how the pattern goes on to an infinity's
at_top : (q k : ℕ) → q ≤ 2 * hidden → k < fields → overflow binary64 ≤ q * 2 ^ k → infinity ≡ k * hidden + q
at_top q k h l g =
    let i : fields ≤ suc k = less k (pow_le_back (smallest + suc (emax binary64)) (digits + k) (le_trans g (le_trans (mul-le-mul_right (2 ^ k) h) (le_of_eq (sym (pow-add 2 digits k)))))) in
    let j : 2 * hidden ≤ q = le_of_mul-le-mul_right {k = 2 ^ k} (le_trans (le_of_eq (sym (pow-add 2 digits k))) (le_trans (pow_mono (more k l)) g)) (pow_pos k) in
    sums q k h l i j
  where
    less : (k : ℕ) → smallest + suc (emax binary64) ≤ digits + k → fields ≤ suc k
    less k h = omega arith

    more : (k : ℕ) → k < fields → digits + k ≤ smallest + suc (emax binary64)
    more k h = omega arith

    sums : (q k : ℕ) → q ≤ 2 * hidden → k < fields → fields ≤ suc k → 2 * hidden ≤ q → infinity ≡ k * hidden + q
    sums q k a b c d = omega arith

below_top : (q k : ℕ) → q ≤ 2 * hidden → k < fields → pattern_of q k ≡ k * hidden + q
below_top q k h l = go (ltb (q * 2 ^ k) (overflow binary64)) (nltb→le (q * 2 ^ k) (overflow binary64))
  where
    go : (b : Bool) → (T (not b) → overflow binary64 ≤ q * 2 ^ k) → cond b (k * hidden + q) infinity ≡ k * hidden + q
    go true f = refl
    go false f = at_top q k h l (f tt)

past_top : (q k : ℕ) → hidden ≤ q → fields ≤ k → pattern_of q k ≡ infinity
past_top q k h l = cond_no (ltb (q * 2 ^ k) (overflow binary64)) (k * hidden + q) infinity (le→nltb (q * 2 ^ k) (overflow binary64) (le_trans (le_trans (pow_mono (a k l)) (le_of_eq (pow-add 2 (digits - 1) k))) (mul-le-mul_right (2 ^ k) h)))
  where
    a : (k : ℕ) → fields ≤ k → smallest + suc (emax binary64) ≤ digits - 1 + k
    a k h = omega arith

-- ---- what is dropped and kept of n * 2 ^ e over 2 ^ (scale + word), for an n of a whole word
module _ (n e : ℕ) (lo : 2 ^ 63 ≤ n) (hi : n < 2 ^ 64) where
  abbrev den : ℕ
  den = 2 ^ (scale + word)

  -- the place of the whole part's leading digit
  abbrev lead : ℕ
  lead = e + 63 - unit_place

  -- in smallest values
  abbrev whole : ℕ
  whole = n * 2 ^ e * unit

  upper : whole < 2 ^ (64 + e + smallest)
  upper = shl_lt (64 + e) smallest (shl_lt 64 e hi)

  lower : 2 ^ (63 + e + smallest) ≤ whole
  lower = le_trans (le_of_eq (pow-add 2 (63 + e) smallest ∙ ap (λ (z : ℕ). z * unit) (pow-add 2 63 e))) (mul-le-mul_right unit (mul-le-mul_right (2 ^ e) lo))

  -- one place for each power from `normal_from` on
  drop-is : drop digits whole den ≡ e - normal_from
  drop-is = go (leb normal_from e) (leb→le normal_from e) (nleb→lt normal_from e)
    where
      go : (b : Bool) → (T b → normal_from ≤ e) → (T (not b) → e < normal_from) → drop digits whole den ≡ e - normal_from
      go true h k = count (size (whole / den)) e (h tt) (size_is (whole / den) lead
          ((le-div_iff_mul-le (pow_pos (scale + word))).1 (le_trans (le_of_eq (sym (pow-add 2 lead (scale + word)) ∙ same-pow (a e (h tt)))) lower))
          ((div-lt_iff_lt-mul (pow_pos (scale + word))).1 (lt_of_lt_of_le upper (le_of_eq (same-pow (b e (h tt)) ∙ pow-add 2 (suc lead) (scale + word))))))
        where
          a : (e : ℕ) → normal_from ≤ e → e + 63 - unit_place + (scale + word) ≡ 63 + e + smallest
          a e h = omega arith

          b : (e : ℕ) → normal_from ≤ e → 64 + e + smallest ≡ suc (e + 63 - unit_place) + (scale + word)
          b e h = omega arith

          count : (z e : ℕ) → normal_from ≤ e → z ≡ suc (e + 63 - unit_place) → z - digits ≡ e - normal_from
          count z e h k = omega arith
      go false h k = count (size (whole / den)) e (k tt) (size-le (whole / den) digits ((div-lt_iff_lt-mul (pow_pos (scale + word))).1 (lt_of_lt_of_le upper (le_trans (pow_mono (a e (k tt))) (le_of_eq (pow-add 2 digits (scale + word)))))))
        where
          a : (e : ℕ) → e < normal_from → 64 + e + smallest ≤ digits + (scale + word)
          a e h = omega arith

          count : (z e : ℕ) → e < normal_from → z ≤ digits → z - digits ≡ e - normal_from
          count z e h k = omega arith

  -- n shifted right by what brings its last place to the last one kept
  kept-is : (d : ℕ) → e + d ≡ unit_place + (e - normal_from) → kept digits whole den ≡ closest n (2 ^ d)
  kept-is d h =
      let k = e - normal_from in
      ap (λ (j : ℕ). closest whole (den * 2 ^ j)) drop-is
      ∙ closest_same whole (den * 2 ^ k) n (2 ^ d) (mul-pos (pow_pos (scale + word)) (pow_pos k)) (pow_pos d)
      (times₃ n e smallest d ∙ ap (λ (z : ℕ). n * z) (same-pow (a e d h) ∙ pow-add 2 (scale + word) k))
    where
      a : (e d : ℕ) → e + d ≡ unit_place + (e - normal_from) → e + smallest + d ≡ scale + word + (e - normal_from)
      a e d h = omega arith

  closest-le : (d : ℕ) → excess ≤ d → closest n (2 ^ d) ≤ 2 * hidden
  closest-le d h =
      le_trans (nearest-le (n / 2 ^ d) (compare (n % 2 ^ d * 2) (2 ^ d)))
      ((div-lt_iff_lt-mul (pow_pos d)).1 (lt_of_lt_of_le hi (le_trans (pow_mono (a d h)) (le_of_eq (pow-add 2 digits d)))))
    where
      a : (d : ℕ) → excess ≤ d → 64 ≤ digits + d
      a d h = omega arith

  closest-ge : hidden ≤ closest n (2 ^ excess)
  closest-ge = le_trans ((le-div_iff_mul-le (pow_pos excess)).1 lo) (nearest-ge (n / 2 ^ excess) (compare (n % 2 ^ excess * 2) (2 ^ excess)))

-- ---- the pattern of m * 2 ^ p over 2 ^ scale
zeros : (s : Bool) → round binary64 s 0 (2 ^ scale) ≡ of_bits binary64 (cond s sign_bit 0 + 0)
unfolding round of_bits
zeros true = refl
zeros false = refl

pub pattern-zero : (m p : ℕ) → m ≡ 0 → Pattern m p 0
pattern-zero m p e = record { value = λ s. ap (λ (z : ℕ). round binary64 s z (2 ^ scale)) (ap (λ (z : ℕ). z * 2 ^ p) e ∙ zero-mul (2 ^ p)) ∙ zeros s; small = lit≤ tt }

-- z moves m's leading digit to the top of the word, and e is what is left of the power, with a word's digits more
module _ (m p z : ℕ) (lo : 2 ^ 63 ≤ m * 2 ^ z) (hi : m * 2 ^ z < 2 ^ 64) (fine : z ≤ p + word) where
  abbrev n : ℕ
  n = m * 2 ^ z

  abbrev e : ℕ
  e = p + word - z

  moved : (s : Bool) → round binary64 s (m * 2 ^ p) (2 ^ scale) ≡ round binary64 s (n * 2 ^ e) (2 ^ (scale + word))
  moved s = round_same binary64 s (m * 2 ^ p) (2 ^ scale) (n * 2 ^ e) (2 ^ (scale + word)) (pow_pos scale) (pow_pos (scale + word)) (times₂ m p (scale + word) ∙ ap (λ (i : ℕ). m * i) (same-pow (a p z fine)) ∙ sym (times₃ m z e scale))
    where
      a : (p z : ℕ) → z ≤ p + word → p + (scale + word) ≡ z + (p + word - z) + scale
      a p z h = omega arith

  by : (d r : ℕ) → e + d ≡ unit_place + (e - normal_from) → pattern_of (closest n (2 ^ d)) (e - normal_from) ≡ r → r ≤ infinity → Pattern m p r
  by d r h f k = record {
    value = λ s.
        moved s
        ∙ round-pattern s (n * 2 ^ e) (2 ^ (scale + word))
        ∙ ap (λ (i : ℕ). of_bits binary64 (cond s sign_bit 0 + i)) (ap₂ pattern_of (kept-is n e lo hi d h) (drop-is n e lo hi) ∙ f);
    small = k;
  }

  -- with the digits shifted right by d, to the last place kept
  pub pattern-finite : (d : ℕ) → e < infinite_from → e + d ≡ unit_place + (e - normal_from) → Pattern m p ((e - normal_from) * hidden + closest n (2 ^ d))
  pattern-finite d h k =
      let q = closest n (2 ^ d) in
      let most : q ≤ 2 * hidden = closest-le n e lo hi d (a e d k) in
      by d ((e - normal_from) * hidden + q) k (below_top q (e - normal_from) most (b e h)) (c q (e - normal_from) most (b e h))
    where
      a : (e d : ℕ) → e + d ≡ unit_place + (e - normal_from) → excess ≤ d
      a e d h = omega arith

      b : (e : ℕ) → e < infinite_from → e - normal_from < fields
      b e h = omega arith

      c : (q k : ℕ) → q ≤ 2 * hidden → k < fields → k * hidden + q ≤ infinity
      c q k x y = omega arith

  pub pattern-infinite : infinite_from ≤ e → Pattern m p infinity
  pattern-infinite h = by excess infinity (a e h) (past_top (closest n (2 ^ excess)) (e - normal_from) (closest-ge n e lo hi) (b e h)) (le_refl infinity)
    where
      a : (e : ℕ) → infinite_from ≤ e → e + excess ≡ unit_place + (e - normal_from)
      a e h = omega arith

      b : (e : ℕ) → infinite_from ≤ e → fields ≤ e - normal_from
      b e h = omega arith

-- ---- it is no NaN's, with either sign
pub pattern-no-nan : (s : Bool) (r : ℕ) → r ≤ infinity → T (not (nan_bits binary64 (cond s sign_bit 0 + r)))
pattern-no-nan s r h = subst (λ (t : Bool). T (not t)) (sym (nan_bits_above binary64 (cond s sign_bit 0 + r))) (le→nltb infinity ((cond s sign_bit 0 + r) % sign_bit) (go s))
  where
    go : (s : Bool) → (cond s sign_bit 0 + r) % sign_bit ≤ infinity
    go true = omega arith
    go false = omega arith
