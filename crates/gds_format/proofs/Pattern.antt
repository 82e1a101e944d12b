-- A pattern's sign, exponent and fraction, its eight bytes, and what they are worth. Assumes nothing.
use mathlib.Core.Path.{◌≡◌, refl, sym, ap, ap₂, ◌∙◌, subst}
use mathlib.Core.Bool.{Bool, true, false, cond}
use Prim.Native.Nat.{ℕ, zero, suc, ◌+◌, ◌-◌, ◌*◌, ◌/◌, ◌%◌, ◌^◌, ◌≤◌, ◌<◌}
use native.Mathlib.Nat.{le_trans, le_of_eq, lt_of_lt_of_le, lt_of_le_of_lt, mul-le-mul_right, mul-le-mul_left, mul-one, mul_assoc, mul-div_cancel}
use native.Mathlib.Omega.{arith}
use lib.Arith.{lt→nleb}
use lib.Dec.{T, leb, le→leb, lit<}
use lib.IntN.{ℤ, pos, nat_abs, ◌-ℤ◌}
use lib.Ieee.{Float, size, fits, binary64, to_bits}
use lib.Ieee.Bits.{is_true as on, is_false as off}
use lib.Ieee.Digits.{size-lt, size-le}
use lib.Ieee.Scale.{finite}
use lib.Pow.{pow-add, pow_pos, pow_mono, shl_lt}
use Rattle.big_endian.specs.Big.{bytes_of}
use Rattle.big_endian.proofs.BigLaws.{number-bytes_of, length-bytes_of}
use Rattle.big_endian.proofs.BytesLaws.{bytes-bytes_of}
use Rattle.binary64.specs.code.Parts.{PartsOf}
use Rattle.binary64.specs.Value.{size_of, signed}
use Rattle.binary64.proofs.PartsLaws.{parts-zero, parts-suc, power-under, power-over}
use Rattle.binary64.proofs.Powers.{pow_lt_back}
use Rattle.gds_format.specs.Real8.{real8_value, min_magnitude, max_magnitude, binary_exponent, floor_mod, exponent_bits, significand, pattern}
use Rattle.gds_format.specs.Faithful.{Normalized}
use Rattle.gds_format.proofs.Exponent.{bits_is, mod-is, same-exponent}

-- ---- how many digits a number has that is made by a shift

pub size-shifted : (v a b k : ℕ) → 2 ^ a ≤ v → v < 2 ^ b → (a + k < size (v * 2 ^ k)) × (size (v * 2 ^ k) ≤ b + k)
size-shifted v a b k lo hi = (
  pow_lt_back (a + k) (size (v * 2 ^ k)) (lt_of_le_of_lt (le_trans (le_of_eq (pow-add 2 a k)) (mul-le-mul_right (2 ^ k) lo)) (size-lt (v * 2 ^ k))),
  size-le (v * 2 ^ k) (b + k) (shl_lt b k hi),
)

-- ---- a magnitude of n units between the limits: 53 digits m, the last of which stands for 2 ^ j units

pub record Between (n m j : ℕ) : Type 0 where
  pub is : n ≡ m * 2 ^ j
  pub lo : 2 ^ 52 ≤ m
  pub hi : m < 2 ^ 53
  pub least : 762 ≤ j
  pub most : j < 1274

-- the exponent's seven bits, and the remainder that shifts the digits
abbrev pub bits : ℕ → ℕ
bits j = (j - 762) / 4

abbrev pub shift : ℕ → ℕ
shift j = (j - 762) % 4

module _ (n m j : ℕ) (b : Between n m j) where
  digits : size n ≡ 53 + j
  digits = ap size b.is ∙ go (size (m * 2 ^ j)) (size-shifted m 52 53 j b.lo b.hi).0 (size-shifted m 52 53 j b.lo b.hi).1
    where
      go : (z : ℕ) → 52 + j < z → z ≤ 53 + j → z ≡ 53 + j
      go z h k = omega arith

  exponent-is : binary_exponent n ≡ pos j -ℤ pos 1022
  exponent-is = ap (λ (z : ℕ). pos z -ℤ pos 1075) digits ∙ same-exponent j

  significand-is : significand n ≡ m
  significand-is = ap₂ (λ (x z : ℕ). x / 2 ^ z) b.is (ap (λ (z : ℕ). z - 53) digits ∙ less j) ∙ mul-div_cancel m (pow_pos j)
    where
      less : (j : ℕ) → 53 + j - 53 ≡ j
      less j = omega arith

  -- as the code has it, and as plain numbers
  pub pattern-is : (s : Bool) → pattern s n ≡ cond s (2 ^ 63) 0 + exponent_bits (pos j -ℤ pos 1022) * 2 ^ 56 + m * 2 ^ floor_mod (pos j -ℤ pos 1022) 4
  pattern-is s = ap₂ (λ (e : ℤ) (d : ℕ). cond s (2 ^ 63) 0 + exponent_bits e * 2 ^ 56 + d * 2 ^ floor_mod e 4) exponent-is significand-is

  pub bits_are : exponent_bits (pos j -ℤ pos 1022) ≡ bits j
  bits_are = ap nat_abs (bits_is j b.least)

  pub fraction-is : m * 2 ^ floor_mod (pos j -ℤ pos 1022) 4 ≡ m * 2 ^ shift j
  fraction-is = ap (λ (t : ℕ). m * 2 ^ t) (mod-is j b.least)

  pub fields-are : (s : Bool) → pattern s n ≡ cond s (2 ^ 63) 0 + bits j * 2 ^ 56 + m * 2 ^ shift j
  fields-are s = pattern-is s ∙ ap₂ (λ (k v : ℕ). cond s (2 ^ 63) 0 + k * 2 ^ 56 + v) bits_are fraction-is

  pub bits_small : bits j < 128
  bits_small = go j b.least b.most
    where
      go : (j : ℕ) → 762 ≤ j → j < 1274 → (j - 762) / 4 < 128
      go j h l = omega arith

  pub leads : 2 ^ 52 ≤ m * 2 ^ shift j
  leads = le_trans b.lo (le_trans (le_of_eq (sym (mul-one m))) (mul-le-mul_left m (pow_pos (shift j))))

  pub room : m * 2 ^ shift j < 2 ^ 56
  room = lt_of_lt_of_le (shl_lt 53 (shift j) b.hi) (pow_mono (go (j - 762)))
    where
      go : (i : ℕ) → 53 + i % 4 ≤ 56
      go i = omega arith

  worth-is : n ≡ m * 2 ^ shift j * 2 ^ (4 * bits j + 762)
  worth-is =
      b.is ∙ ap (λ (i : ℕ). m * 2 ^ i) (go j b.least) ∙ ap (λ (z : ℕ). m * z) (pow-add 2 (shift j) (4 * bits j + 762)) ∙ sym (mul_assoc m (2 ^ shift j) (2 ^ (4 * bits j + 762)))
    where
      go : (j : ℕ) → 762 ≤ j → j ≡ (j - 762) % 4 + (4 * ((j - 762) / 4) + 762)
      go j h = omega arith

-- ---- the bytes of a pattern with the sign s, the exponent's bits k and the fraction v

module _ (s : Bool) (k v : ℕ) (k-few : k < 128) (leads : 2 ^ 52 ≤ v) (room : v < 2 ^ 56) where
  abbrev p : ℕ
  p = cond s (2 ^ 63) 0 + k * 2 ^ 56 + v

  first : p / 256 ^ 7 % 256 ≡ cond s 128 0 + k
  first = go s
    where
      go : (s : Bool) → (cond s (2 ^ 63) 0 + k * 2 ^ 56 + v) / 256 ^ 7 % 256 ≡ cond s 128 0 + k
      go true = omega arith
      go false = omega arith

  others : p % 256 ^ 7 ≡ v
  others = go s
    where
      go : (s : Bool) → (cond s (2 ^ 63) 0 + k * 2 ^ 56 + v) % 256 ^ 7 ≡ v
      go true = omega arith
      go false = omega arith

  sign_bit : (s : Bool) → leb 128 (cond s 128 0 + k) ≡ s
  sign_bit true = on (leb 128 (128 + k)) (le→leb 128 (128 + k) (omega arith))
  sign_bit false = off (leb 128 (0 + k)) (lt→nleb 128 (0 + k) (omega arith))

  exponent-bits : (s : Bool) → (cond s 128 0 + k) % 128 ≡ k
  exponent-bits true = omega arith
  exponent-bits false = omega arith

  pub value-is : real8_value (bytes_of 8 p) ≡ signed s (v * 2 ^ (4 * k + 762))
  unfolding real8_value
  value-is =
      ap₂ (λ (c m : ℕ). signed (leb 128 c) (m * 2 ^ (4 * (c % 128) + 762))) first (number-bytes_of 7 p ∙ others)
      ∙ ap₂ (λ (b : Bool) (e : ℕ). signed b (v * 2 ^ (4 * e + 762))) (sign_bit s) (exponent-bits s)

  pub normalized : Normalized (bytes_of 8 p)
  normalized = record { bytes = bytes-bytes_of 8 p; eight = length-bytes_of 8 p; leading = go s }
    where
      go : (s : Bool) → (cond s (2 ^ 63) 0 + k * 2 ^ 56 + v) / 256 ^ 6 % 256 / 16 ≡ 0 → ⊥
      go true e = omega arith
      go false e = omega arith

-- ---- the pattern of a magnitude between the limits is worth it, and is normalized

module _ (n m j : ℕ) (b : Between n m j) (s : Bool) where
  pub pattern-worth : real8_value (bytes_of 8 (pattern s n)) ≡ signed s n
  pattern-worth =
      ap (λ (p : ℕ). real8_value (bytes_of 8 p)) (fields-are n m j b s)
      ∙ value-is s (bits j) (m * 2 ^ shift j) (bits_small n m j b) (leads n m j b) (room n m j b)
      ∙ ap (signed s) (sym (worth-is n m j b))

  pub pattern-normalized : Normalized (bytes_of 8 (pattern s n))
  pattern-normalized = subst (λ (p : ℕ). Normalized (bytes_of 8 p)) (sym (fields-are n m j b s)) (normalized s (bits j) (m * 2 ^ shift j) (bits_small n m j b) (leads n m j b) (room n m j b))

-- ---- a double between the limits

pub parts-between : (x : Float) (s : Bool) (m j : ℕ) → PartsOf x s m j → min_magnitude ≤ size_of x → size_of x < max_magnitude → Between (size_of x) m j
parts-between x s m j p h k =
    let least : 762 ≤ j = power-over x s m j 762 p h in
    record { is = p.size; lo = p.lead (some j least); hi = p.digits; least = least; most = power-under x s m j 1274 p (lit< tt) k }
  where
    some : (j : ℕ) → 762 ≤ j → 0 < j
    some j l = omega arith

pub record Digits (n : ℕ) : Type 0 where
  pub digits : ℕ
  pub power : ℕ
  pub between : Between n digits power

pub double-between : (x : Float) → T (fits binary64 x) → T (finite x) → min_magnitude ≤ size_of x → size_of x < max_magnitude → Digits (size_of x)
double-between x F f h k = go (to_bits binary64 x % 2 ^ 63 / 2 ^ 52) refl
  where
    of_parts : (s : Bool) (m j : ℕ) → PartsOf x s m j → Digits (size_of x)
    of_parts s m j p = record { digits = m; power = j; between = parts-between x s m j p h k }

    go : (i : ℕ) → to_bits binary64 x % 2 ^ 63 / 2 ^ 52 ≡ i → Digits (size_of x)
    go zero e = of_parts _ _ _ (parts-zero x F f e)
    go (suc i) e = of_parts _ _ _ (parts-suc x F f (λ z. absurd (no i (sym e ∙ z))))
      where
        no : (i : ℕ) → suc i ≡ 0 → ⊥
        no i e = omega arith
