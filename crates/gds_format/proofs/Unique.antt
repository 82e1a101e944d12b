-- What eight bytes with a non-zero leading hex digit can be worth, and that their worth determines them. Assumes nothing.
use mathlib.Core.Path.{◌≡◌, refl, sym, ap, ap₂, ◌∙◌, subst}
use mathlib.Core.List.{List, [], ◌∷◌}
use mathlib.Core.Bool.{Bool, true, false, not}
use Prim.Native.Nat.{ℕ, zero, suc, ◌+◌, ◌*◌, ◌/◌, ◌%◌, ◌^◌, ◌≤◌, ◌<◌}
use native.Mathlib.Nat.{le_trans, le_of_eq, lt_of_lt_of_le, mul-le-mul_right, mul-le-mul_left, lt_irrefl, pos_of_ne-zero, eq_of_mul-eq-mul_right}
use native.Mathlib.Omega.{arith}
use lib.Dec.{T, leb, leb→le, nleb→lt}
use lib.IntN.{nat_abs, pos-ne-negsuc}
use lib.ListN.{length}
use lib.Pow.{pow-add, pow_pos, pow_mono, shl_lt}
use lib.Ieee.{size}
use Rattle.big_endian.specs.Big.{number}
use Rattle.big_endian.proofs.BigLaws.{number_lt}
use Rattle.binary64.specs.Value.{signed}
use Rattle.binary64.proofs.Signed.{signed-abs}
use Rattle.gds_format.specs.Real8.{real8_value, min_magnitude, max_magnitude}
use Rattle.gds_format.specs.Faithful.{Normalized, NormalizedUnique}
use Rattle.big_endian.proofs.BytesLaws.{Below, below-is, number-once}
use Rattle.gds_format.proofs.Pattern.{size-shifted}

-- ---- the fields of normalized bytes

fraction-leads : (c : ℕ) (m : List ℕ) → Normalized (c ∷ m) → 2 ^ 52 ≤ number m
fraction-leads c [] h = absurd (h.leading refl)
fraction-leads c (a ∷ m) h = go a (256 ^ length m) r.rest (number (a ∷ m)) (ap (λ (i : ℕ). 256 ^ i) (six (length m) h.eight)) r.is h.leading
  where
    r : Below a m
    r = below-is a m (λ i. h.bytes (suc (suc i)))

    six : (i : ℕ) → suc (suc i) ≡ 8 → i ≡ 6
    six i e = omega arith

    go : (a p z v : ℕ) → p ≡ 256 ^ 6 → v ≡ a * p + z → (a / 16 ≡ 0 → ⊥) → 2 ^ 52 ≤ v
    go a p z v e f g = lead (f ∙ ap (λ (q : ℕ). a * q + z) e)
      where
        lead : v ≡ a * 256 ^ 6 + z → 2 ^ 52 ≤ v
        lead k = omega (arith, some)
          where
            some : 1 ≤ a / 16
            some = pos_of_ne-zero g

module _ (c : ℕ) (m : List ℕ) (h : Normalized (c ∷ m)) where
  fraction-room : number m < 2 ^ 56
  fraction-room = subst (λ (i : ℕ). number m < 256 ^ i) (seven (length m) h.eight) (number_lt m (λ i. h.bytes (suc i)))
    where
      seven : (i : ℕ) → suc i ≡ 8 → i ≡ 7
      seven i e = omega arith

  worth-least : min_magnitude ≤ number m * 2 ^ (4 * (c % 128) + 762)
  worth-least =
      le_trans (le_of_eq (pow-add 2 52 762))
      (le_trans (mul-le-mul_right (2 ^ 762) (fraction-leads c m h)) (mul-le-mul_left (number m) (pow_mono {i = 762} {j = 4 * (c % 128) + 762} (omega arith))))

  worth-most : number m * 2 ^ (4 * (c % 128) + 762) < max_magnitude
  worth-most = lt_of_lt_of_le (shl_lt 56 (4 * (c % 128) + 762) fraction-room) (pow_mono {i = 56 + (4 * (c % 128) + 762)} {j = 1326} (omega arith))

-- ---- the worth of normalized bytes lies between the limits

worth-abs : (c : ℕ) (m : List ℕ) → nat_abs (real8_value (c ∷ m)) ≡ number m * 2 ^ (4 * (c % 128) + 762)
unfolding real8_value
worth-abs c m = signed-abs (leb 128 c) (number m * 2 ^ (4 * (c % 128) + 762))

no_bytes : {X : Type 0} → Normalized [] → X
no_bytes h = absurd (h.leading refl)

pub normalized-least : (b : List ℕ) → Normalized b → min_magnitude ≤ nat_abs (real8_value b)
normalized-least [] h = no_bytes h
normalized-least (c ∷ m) h = subst (λ (z : ℕ). min_magnitude ≤ z) (sym (worth-abs c m)) (worth-least c m h)

pub normalized-most : (b : List ℕ) → Normalized b → nat_abs (real8_value b) < max_magnitude
normalized-most [] h = no_bytes h
normalized-most (c ∷ m) h = subst (λ (z : ℕ). z < max_magnitude) (sym (worth-abs c m)) (worth-most c m h)

-- ---- and determines them

-- the exponent, from the number of digits
exponent-once : (v w e f : ℕ) → 2 ^ 52 ≤ v → v < 2 ^ 56 → 2 ^ 52 ≤ w → w < 2 ^ 56 → v * 2 ^ (4 * e + 762) ≡ w * 2 ^ (4 * f + 762) → e ≡ f
exponent-once v w e f a b c d h =
    let p = size-shifted v 52 56 (4 * e + 762) a b in
    let q = size-shifted w 52 56 (4 * f + 762) c d in
    go (size (v * 2 ^ (4 * e + 762))) (size (w * 2 ^ (4 * f + 762))) (ap size h) p.0 p.1 q.0 q.1
  where
    go : (y z : ℕ) → y ≡ z → 52 + (4 * e + 762) < y → y ≤ 56 + (4 * e + 762) → 52 + (4 * f + 762) < z → z ≤ 56 + (4 * f + 762) → e ≡ f
    go y z h a b c d = omega arith

fraction-once : (v w e f : ℕ) → e ≡ f → v * 2 ^ (4 * e + 762) ≡ w * 2 ^ (4 * f + 762) → v ≡ w
fraction-once v w e f p h = eq_of_mul-eq-mul_right (2 ^ (4 * f + 762)) (pow_pos (4 * f + 762)) v w (ap (λ (i : ℕ). v * 2 ^ (4 * i + 762)) (sym p) ∙ h)

sign-once : (s t : Bool) (a b : ℕ) → 0 < a → signed s a ≡ signed t b → s ≡ t
sign-once true true a b A h = refl
sign-once true false zero b A h = absurd (lt_irrefl 0 A)
sign-once true false (suc a) b A h = absurd (pos-ne-negsuc b a (sym h))
sign-once false true a zero A h = absurd (lt_irrefl 0 (subst (λ (z : ℕ). 0 < z) (ap nat_abs h) A))
sign-once false true a (suc b) A h = absurd (pos-ne-negsuc a b h)
sign-once false false a b A h = refl

first-once : (c d : ℕ) → c < 256 → d < 256 → leb 128 c ≡ leb 128 d → c % 128 ≡ d % 128 → c ≡ d
first-once c d h k s e = go (leb 128 c) (leb 128 d) s (leb→le 128 c) (nleb→lt 128 c) (leb→le 128 d) (nleb→lt 128 d)
  where
    go : (x y : Bool) → x ≡ y → (T x → 128 ≤ c) → (T (not x) → c < 128) → (T y → 128 ≤ d) → (T (not y) → d < 128) → c ≡ d
    go true true q f g i j = omega (arith, f tt, i tt)
    go false false q f g i j = omega (arith, g tt, j tt)
    go true false q f g i j = absurd (subst T q tt)
    go false true q f g i j = absurd (subst T (sym q) tt)

pub unique : NormalizedUnique
unfolding real8_value
unique [] b h k e = no_bytes h
unique (c ∷ m) [] h k e = no_bytes k
unique (c ∷ m) (d ∷ n) h k e =
    let v = number m * 2 ^ (4 * (c % 128) + 762) in
    let same : v ≡ number n * 2 ^ (4 * (d % 128) + 762) = sym (worth-abs c m) ∙ ap nat_abs e ∙ worth-abs d n in
    let exponents : c % 128 ≡ d % 128 = exponent-once (number m) (number n) (c % 128) (d % 128) (fraction-leads c m h) (fraction-room c m h) (fraction-leads d n k) (fraction-room d n k) same in
    let fractions : number m ≡ number n = fraction-once (number m) (number n) (c % 128) (d % 128) exponents same in
    let signs : leb 128 c ≡ leb 128 d = sign-once (leb 128 c) (leb 128 d) v (number n * 2 ^ (4 * (d % 128) + 762)) (lt_of_lt_of_le (pow_pos 814) (worth-least c m h)) e in
    ap₂ (λ (x : ℕ) (s : List ℕ). x ∷ s) (first-once c d (h.bytes 0) (k.bytes 0) signs exponents)
    (number-once m n (λ i. h.bytes (suc i)) (λ i. k.bytes (suc i)) (lengths (length m) (length n) h.eight k.eight) fractions)
  where
    lengths : (i j : ℕ) → suc i ≡ 8 → suc j ≡ 8 → i ≡ j
    lengths i j a b = omega arith
