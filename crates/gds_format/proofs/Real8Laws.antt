-- The encoder is faithful: what it answers is worth the double, and it refuses exactly what has no encoding. Assumes nothing.
use mathlib.Core.Path.{◌≡◌, refl, sym, ap, ◌∙◌, subst}
use mathlib.Core.Logic.{inl, inr}
use mathlib.Core.Option.{none, some}
use mathlib.Core.List.{List}
use mathlib.Core.Bool.{Bool, true, false, not, cond}
use Prim.Native.Nat.{ℕ, ◌≤◌, ◌<◌}
use native.Mathlib.Nat.{lt_irrefl, lt_of_lt_of_le}
use native.Mathlib.Omega.{arith}
use lib.Dec.{T, ltb, eqb, ltb→lt, nltb→le, eqb→eq, T_not}
use lib.IntN.{pos, nat_abs}
use lib.ListN.{length}
use lib.Ieee.{Float, fits, binary64}
use lib.Ieee.Scale.{finite}
use lib.Pow.{pow_pos}
use Rattle.big_endian.specs.Big.{bytes_of}
use Rattle.big_endian.proofs.BigLaws.{length-bytes_of}
use Rattle.binary64.specs.Value.{size_of, negative, scaled}
use Rattle.binary64.proofs.Signed.{scaled-abs, scaled-zero}
use Rattle.std.specs.Prelude.{Ok, Err}
use Rattle.gds_format.specs.declared.GdsReal8Error.TheVariants.{NonFinite, MagnitudeTooSmall, MagnitudeTooLarge}
use Rattle.gds_format.specs.Real8.{real8_value, min_magnitude, max_magnitude, pattern, Encoding, encoded, encode_magnitude, encoding, values_of, real8}
use Rattle.gds_format.specs.Faithful.{Normalized, Encodable, Zero, OutOfLimits, Faithful, EncodesReal, EncoderFaithful}
use Rattle.gds_format.proofs.Pattern.{double-between, pattern-worth, pattern-normalized}
use Rattle.gds_format.proofs.Unique.{normalized-least, normalized-most}

-- ---- the answer, by the four tests

abbrev pub answered : Float → Bool → Bool → Bool → Bool → Encoding
answered x f z s l =
    cond f (cond z (encoded 0) (cond s (Err MagnitudeTooSmall) (cond l (encoded (pattern (negative x) (size_of x))) (Err MagnitudeTooLarge)))) (Err NonFinite)

pub encoding-is : (x : Float) (f z s l : Bool) → finite x ≡ f → eqb (size_of x) 0 ≡ z → ltb (size_of x) min_magnitude ≡ s → ltb (size_of x) max_magnitude ≡ l
    → answered x f z s l ≡ encoding x
unfolding encoding encode_magnitude
encoding-is x f z s l a b c d = sym (λ i. answered x (a i) (b i) (c i) (d i))

-- the five answers, and what holds at each
data Answer (x : Float) : Encoding → Type 0 where
  not_finite : T (not (finite x)) → Answer x (Err NonFinite)
  zeros : T (finite x) → size_of x ≡ 0 → Answer x (encoded 0)
  too_small : T (finite x) → (size_of x ≡ 0 → ⊥) → size_of x < min_magnitude → Answer x (Err MagnitudeTooSmall)
  between : T (finite x) → min_magnitude ≤ size_of x → size_of x < max_magnitude → Answer x (encoded (pattern (negative x) (size_of x)))
  too_large : T (finite x) → max_magnitude ≤ size_of x → Answer x (Err MagnitudeTooLarge)

answer : (x : Float) → Answer x (encoding x)
answer x = subst (λ (e : Encoding). Answer x e) (encoding-is x (finite x) (eqb n 0) (ltb n min_magnitude) (ltb n max_magnitude) refl refl refl refl)
    (go (finite x) (eqb n 0) (ltb n min_magnitude) (ltb n max_magnitude) (λ t. t) (λ t. t) (eqb→eq n 0) (λ t e. T_not (eqb n 0) t (subst (λ (k : ℕ). T (eqb k 0)) (sym e) tt)) (ltb→lt n min_magnitude) (nltb→le n min_magnitude) (ltb→lt n max_magnitude) (nltb→le n max_magnitude))
  where
    n : ℕ
    n = size_of x

    go : (f z s l : Bool) → (T f → T (finite x)) → (T (not f) → T (not (finite x))) → (T z → size_of x ≡ 0) → (T (not z) → size_of x ≡ 0 → ⊥)
        → (T s → size_of x < min_magnitude) → (T (not s) → min_magnitude ≤ size_of x) → (T l → size_of x < max_magnitude) → (T (not l) → max_magnitude ≤ size_of x) → Answer x (answered x f z s l)
    go false z s l a b c d e f g h = not_finite (b tt)
    go true true s l a b c d e f g h = zeros (a tt) (c tt)
    go true false true l a b c d e f g h = too_small (a tt) (d tt) (e tt)
    go true false false true a b c d e f g h = between (a tt) (f tt) (g tt)
    go true false false false a b c d e f g h = too_large (a tt) (h tt)

-- ---- the double and its size

not-zero : (x : Float) → (size_of x ≡ 0 → ⊥) → Zero x → ⊥
not-zero x n e = n (sym (scaled-abs x) ∙ ap nat_abs e)

some_size : (n : ℕ) → min_magnitude ≤ n → n ≡ 0 → ⊥
some_size n h e = lt_irrefl 0 (lt_of_lt_of_le (pow_pos 814) (subst (λ (z : ℕ). min_magnitude ≤ z) e h))

some_back : {A : Type 0} {a b : A} → some a ≡ some b → a ≡ b
some_back e = cc

none-some : {A X : Type 0} {a : A} → none ≡ some a → X
none-some e = let z : ◌≡◌ {A = ℕ} 0 1 = cc in absurd (omega arith)

-- ---- what is accepted

zero-value : real8_value (bytes_of 8 0) ≡ pos 0
unfolding real8_value
zero-value = refl

pub real8-finite : (x : Float) (b : List ℕ) → real8 x ≡ some b → T (finite x)
unfolding real8
real8-finite x b = go (encoding x) (answer x)
  where
    go : (o : Encoding) → Answer x o → (values_of o).bytes ≡ some b → T (finite x)
    go _ (not_finite n) e = none-some e
    go _ (zeros f z) e = f
    go _ (too_small f z l) e = f
    go _ (between f h k) e = f
    go _ (too_large f h) e = f

real8-eight : (x : Float) (b : List ℕ) → real8 x ≡ some b → length b ≡ 8
unfolding real8
real8-eight x b = go (encoding x)
  where
    go : (o : Encoding) → (values_of o).bytes ≡ some b → length b ≡ 8
    go (Err r) e = none-some e
    go (Ok r) e = ap length (sym (some_back e)) ∙ length-bytes_of 8 r.pattern

module _ (x : Float) (F : T (fits binary64 x)) where
  between-worth : T (finite x) → min_magnitude ≤ size_of x → size_of x < max_magnitude → real8_value (bytes_of 8 (pattern (negative x) (size_of x))) ≡ scaled x
  unfolding scaled
  between-worth f h k = let d = double-between x F f h k in pattern-worth (size_of x) d.digits d.power d.between (negative x)

  between-normalized : T (finite x) → min_magnitude ≤ size_of x → size_of x < max_magnitude → Normalized (bytes_of 8 (pattern (negative x) (size_of x)))
  between-normalized f h k = let d = double-between x F f h k in pattern-normalized (size_of x) d.digits d.power d.between (negative x)

  value : (b : List ℕ) → real8 x ≡ some b → real8_value b ≡ scaled x
  unfolding real8
  value b = go (encoding x) (answer x)
    where
      go : (o : Encoding) → Answer x o → (values_of o).bytes ≡ some b → real8_value b ≡ scaled x
      go _ (not_finite n) e = none-some e
      go _ (zeros f z) e = ap real8_value (sym (some_back e)) ∙ zero-value ∙ sym (scaled-zero x z)
      go _ (too_small f z l) e = none-some e
      go _ (between f h k) e = ap real8_value (sym (some_back e)) ∙ between-worth f h k
      go _ (too_large f h) e = none-some e

  zero-bytes : T (finite x) → Zero x → real8 x ≡ some (bytes_of 8 0)
  unfolding real8
  zero-bytes f z = go (encoding x) (answer x)
    where
      none_left : size_of x ≡ 0
      none_left = sym (scaled-abs x) ∙ ap nat_abs z

      go : (o : Encoding) → Answer x o → (values_of o).bytes ≡ some (bytes_of 8 0)
      go _ (not_finite n) = absurd (T_not (finite x) n f)
      go _ (zeros g e) = refl
      go _ (too_small g n l) = absurd (n none_left)
      go _ (between g h k) = absurd (some_size (size_of x) h none_left)
      go _ (too_large g h) = absurd (lt_irrefl 0 (lt_of_lt_of_le (pow_pos 1326) (subst (λ (n : ℕ). max_magnitude ≤ n) none_left h)))

  leading : (b : List ℕ) → real8 x ≡ some b → (Zero x → ⊥) → Normalized b
  unfolding real8
  leading b e z = go (encoding x) (answer x) e
    where
      go : (o : Encoding) → Answer x o → (values_of o).bytes ≡ some b → Normalized b
      go _ (not_finite n) e = none-some e
      go _ (zeros f n) e = absurd (z (scaled-zero x n))
      go _ (too_small f n l) e = none-some e
      go _ (between f h k) e = subst Normalized (some_back e) (between-normalized f h k)
      go _ (too_large f h) e = none-some e

  -- ---- what is refused

  outside : T (finite x) → real8 x ≡ none → (size_of x ≡ 0 → ⊥) × OutOfLimits x
  unfolding real8
  outside f = go (encoding x) (answer x)
    where
      go : (o : Encoding) → Answer x o → (values_of o).bytes ≡ none → (size_of x ≡ 0 → ⊥) × OutOfLimits x
      go _ (not_finite n) e = absurd (T_not (finite x) n f)
      go _ (zeros g n) e = none-some (sym e)
      go _ (too_small g n l) e = (n, inl l)
      go _ (between g h k) e = none-some (sym e)
      go _ (too_large g h) e = ((λ z. lt_irrefl 0 (lt_of_lt_of_le (pow_pos 1326) (subst (λ (n : ℕ). max_magnitude ≤ n) z h))), inr h)

  -- what equals normalized bytes lies between the limits
  inside : Encodable x → OutOfLimits x → ⊥
  inside c (inl l) = lt_irrefl (size_of x) (lt_of_lt_of_le l (subst (λ (n : ℕ). min_magnitude ≤ n) (ap nat_abs c.equal ∙ scaled-abs x) (normalized-least c.bytes c.normalized)))
  inside c (inr h) = lt_irrefl (size_of x) (lt_of_lt_of_le (subst (λ (n : ℕ). n < max_magnitude) (ap nat_abs c.equal ∙ scaled-abs x) (normalized-most c.bytes c.normalized)) h)

  -- what is refused wherever it is not accepted
  refused-unless : (Zero x → ⊥) → (T (finite x) → min_magnitude ≤ size_of x → size_of x < max_magnitude → ⊥) → real8 x ≡ none
  unfolding real8
  refused-unless z n = go (encoding x) (answer x)
    where
      go : (o : Encoding) → Answer x o → (values_of o).bytes ≡ none
      go _ (not_finite m) = refl
      go _ (zeros f e) = absurd (z (scaled-zero x e))
      go _ (too_small f m l) = refl
      go _ (between f h k) = absurd (n f h k)
      go _ (too_large f h) = refl

  crossing : OutOfLimits x → min_magnitude ≤ size_of x → size_of x < max_magnitude → ⊥
  crossing (inl l) h k = lt_irrefl (size_of x) (lt_of_lt_of_le l h)
  crossing (inr g) h k = lt_irrefl (size_of x) (lt_of_lt_of_le k g)

  faithful-to : Faithful x (real8 x)
  faithful-to = record {
    accepted = λ b e. (real8-finite x b e, value b e);
    zeros = zero-bytes;
    leading = leading;
    refused = λ f e. (not-zero x (outside f e).0, (λ c. inside c (outside f e).1));
    refuses = λ z n. refused-unless z (λ f h k. n (record { bytes = bytes_of 8 (pattern (negative x) (size_of x)); normalized = between-normalized f h k; equal = between-worth f h k }));
    outside = λ f e. (outside f e).1;
    limits = λ z o. refused-unless z (λ f. crossing o);
  }

pub faithful : EncoderFaithful
faithful = faithful-to

-- what is promised of an answer that the tests gave
pub encodes : (x : Float) {r : Encoding} → T (fits binary64 x) → r ≡ encoding x → EncodesReal x (values_of r)
unfolding real8
encodes x F e = record { answer = ap values_of e; faithful = subst (λ (y : Encoding). Faithful x (values_of y).bytes) (sym e) (faithful x F) }

-- the bytes of a double are worth the double, and are eight
pub real8-worth : (x : Float) (b : List ℕ) → T (fits binary64 x) → real8 x ≡ some b → (real8_value b ≡ scaled x) × (length b ≡ 8)
real8-worth x b F e = (value x F b e, real8-eight x b e)
