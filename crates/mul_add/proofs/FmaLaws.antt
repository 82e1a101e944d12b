-- What the fused multiply-add comes to. Where x or y is not finite, or x * y is zero, it is a product and then a sum, each rounded (`fma-wild`, `fma-zero`). Where z alone is not finite, it is z (`fma-addend`).
-- Where z is zero and x * y is not, it is x * y (`fma-plain`). Otherwise it is a sum of two fractions, by the sizes and signs of x, y and z (`fma-parts`). Assumes nothing.
use mathlib.Core.Path.{◌≡◌, refl, sym, ap, ap₂, ◌∙◌}
use mathlib.Core.Logic.{◌⊎◌, inl, inr}
use mathlib.Core.Bool.{Bool, true, false, ◌&&◌, cond}
use Prim.Native.Nat.{ℕ, ◌*◌, ◌<◌}
use native.Mathlib.Nat.{zero-mul, mul-zero, mul_comm, mul_assoc, mul-one, one-mul, mul_left_comm, mul_right_comm, mul-pos, mul-mul-mul_comm, eq_of_mul-eq-mul_right}
use lib.IntN.{pos}
use lib.Dec.{T, eqb, lit<}
use lib.Pow.{pow_pos}
use lib.Ieee.{Float, nan, inf, fin, Format, binary64, low, unlike, round, sum, add, mul, fits}
use lib.Ieee.Positive.{num, den, den_pos}
use lib.Ieee.Scale.{round_same, finite}
use Rattle.binary64.specs.Value.{unit, size_of, negative}
use Rattle.binary64.specs.Fma.{none, endless, plus, fma}
use Rattle.binary64.proofs.ValueLaws.{exact}
use Rattle.binary64.proofs.AbsLaws.{round-zero}
use Rattle.mul_add.proofs.SumLaws.{sum_same, sum-nothing}

-- ---- not finite
-- an infinite product, or none
wild : (f : Format) (b s : Bool) (z : Float) → plus f (cond b none (endless s)) z ≡ add f (cond b nan (inf s)) z
unfolding plus add
wild f true s z = refl
wild f false s nan = refl
wild f false s (inf u) = refl
wild f false s (fin u k g) = refl

pub fma-wild : (f : Format) (x y z : Float) → (T (finite x && finite y) → ⊥) → fma f x y z ≡ add f (mul f x y) z
unfolding fma add mul
fma-wild f nan y z n = refl
fma-wild f (inf s) nan z n = refl
fma-wild f (inf s) (inf t) z n = wild f false (unlike s t) z
fma-wild f (inf s) (fin t m d) z n = wild f (eqb m 0) (unlike s t) z
fma-wild f (fin s m e) nan z n = refl
fma-wild f (fin s m e) (inf t) z n = wild f (eqb m 0) (unlike s t) z
fma-wild f (fin s m e) (fin t k d) z n = absurd (n tt)

pub fma-addend : (f : Format) (x y z : Float) → T (finite x) → T (finite y) → (T (finite z) → ⊥) → fma f x y z ≡ z
unfolding fma
fma-addend f nan y z a b n = absurd a
fma-addend f (inf s) y z a b n = absurd a
fma-addend f (fin s m e) nan z a b n = absurd b
fma-addend f (fin s m e) (inf t) z a b n = absurd b
fma-addend f (fin s m e) (fin t k d) nan a b n = refl
fma-addend f (fin s m e) (fin t k d) (inf u) a b n = refl
fma-addend f (fin s m e) (fin t k d) (fin u l g) a b n = absurd (n tt)

-- ---- finite, by numerators and denominators
fma-is : (f : Format) (x y z : Float) → T (finite x) → T (finite y) → T (finite z)
    → fma f x y z ≡ sum f (unlike (negative x) (negative y)) (num x * num y * den z) (negative z) (num z * (den x * den y)) (den x * den y * den z)
unfolding fma negative
fma-is f nan y z a b c = absurd a
fma-is f (inf s) y z a b c = absurd a
fma-is f (fin s m e) nan z a b c = absurd b
fma-is f (fin s m e) (inf t) z a b c = absurd b
fma-is f (fin s m e) (fin t k d) nan a b c = absurd c
fma-is f (fin s m e) (fin t k d) (inf u) a b c = absurd c
fma-is f (fin s m e) (fin t k d) (fin u l g) a b c = refl

mul_is : (f : Format) (x y : Float) → T (finite x) → T (finite y) → mul f x y ≡ round f (unlike (negative x) (negative y)) (num x * num y) (den x * den y)
unfolding mul negative
mul_is f nan y a b = absurd a
mul_is f (inf s) y a b = absurd a
mul_is f (fin s m e) nan a b = absurd b
mul_is f (fin s m e) (inf t) a b = absurd b
mul_is f (fin s m e) (fin t n d) a b = refl

add-zero-is : (f : Format) (s : Bool) (z : Float) → T (finite z) → add f (fin s 0 (pos 0)) z ≡ sum f s (0 * 1 * den z) (negative z) (num z * 1) (1 * den z)
unfolding add negative
add-zero-is f s nan c = absurd c
add-zero-is f s (inf t) c = absurd c
add-zero-is f s (fin t n d) c = refl

-- ---- zero
no-num : (x : Float) → T (fits binary64 x) → size_of x ≡ 0 → num x ≡ 0
no-num x X e = eq_of_mul-eq-mul_right unit (pow_pos (low binary64)) (num x) 0 (sym (exact x X) ∙ ap (λ (z : ℕ). z * den x) e ∙ zero-mul (den x) ∙ sym (zero-mul unit))

-- ---- finite, by sizes
module _ (x y z : Float) (X : T (fits binary64 x)) (Y : T (fits binary64 y)) (Z : T (fits binary64 z)) (a : T (finite x)) (b : T (finite y)) (c : T (finite z)) where
  abbrev s : Bool
  s = unlike (negative x) (negative y)

  units-pos : 0 < unit * unit
  units-pos = mul-pos (pow_pos (low binary64)) (pow_pos (low binary64))

  -- x * y by the sizes
  product-size : num x * num y * (unit * unit) ≡ size_of x * size_of y * (den x * den y)
  product-size = mul-mul-mul_comm (num x) (num y) unit unit ∙ ap₂ (λ (p q : ℕ). p * q) (sym (exact x X)) (sym (exact y Y)) ∙ mul-mul-mul_comm (size_of x) (den x) (size_of y) (den y)

  fma-sizes : fma binary64 x y z ≡ sum binary64 s (size_of x * size_of y) (negative z) (size_of z * unit) (unit * unit)
  fma-sizes =
      fma-is binary64 x y z a b c
      ∙ sum_same binary64 s (negative z) (num x * num y * den z) (num z * (den x * den y)) (den x * den y * den z) (size_of x * size_of y) (size_of z * unit) (unit * unit)
      (mul-pos (mul-pos (den_pos x) (den_pos y)) (den_pos z)) units-pos
      (one (num x * num y) (den z) (unit * unit) (size_of x * size_of y) (den x * den y) product-size)
      (two (num z) (den x * den y) (den z) (size_of z) unit (exact z Z))
    where
      one : (n g u p d : ℕ) → n * u ≡ p * d → n * g * u ≡ p * (d * g)
      one n g u p d h = mul_right_comm n g u ∙ ap (λ (i : ℕ). i * g) h ∙ mul_assoc p d g

      two : (n d g p u : ℕ) → p * g ≡ n * u → n * d * (u * u) ≡ p * u * (d * g)
      two n d g p u h = left n d u ∙ ap (λ (i : ℕ). i * (u * d)) (sym h) ∙ right p u d g
        where
          left : (n d u : ℕ) → n * d * (u * u) ≡ n * u * (u * d)
          left n d u = simp (mul_assoc, mul_comm, mul_left_comm)

          right : (p u d g : ℕ) → p * g * (u * d) ≡ p * u * (d * g)
          right p u d g = simp (mul_assoc, mul_comm, mul_left_comm)

  -- and with the signs as they are read from the patterns
  pub fma-parts : (p q r : Bool) → negative x ≡ p → negative y ≡ q → negative z ≡ r → (v : Float) → v ≡ sum binary64 (unlike p q) (size_of x * size_of y) r (size_of z * unit) (unit * unit) → v ≡ fma binary64 x y z
  fma-parts p q r i j k v h =
      h
      ∙ sym (ap₂ (λ (m n : Bool). sum binary64 (unlike m n) (size_of x * size_of y) r (size_of z * unit) (unit * unit)) i j)
      ∙ sym (ap (λ (n : Bool). sum binary64 s (size_of x * size_of y) n (size_of z * unit) (unit * unit)) k)
      ∙ sym fma-sizes

  no-product : (size_of x ≡ 0) ⊎ (size_of y ≡ 0) → num x * num y ≡ 0
  no-product (inl e) = ap (λ (i : ℕ). i * num y) (no-num x X e) ∙ zero-mul (num y)
  no-product (inr e) = ap (λ (i : ℕ). num x * i) (no-num y Y e) ∙ mul-zero (num x)

  pub fma-zero : (size_of x ≡ 0) ⊎ (size_of y ≡ 0) → fma binary64 x y z ≡ add binary64 (mul binary64 x y) z
  fma-zero e =
      let none : num x * num y ≡ 0 = no-product e in
      let D = mul-pos (den_pos x) (den_pos y) in
      fma-is binary64 x y z a b c
      ∙ ap (λ (i : ℕ). sum binary64 s (i * den z) (negative z) (num z * (den x * den y)) (den x * den y * den z)) none
      ∙ sum_same binary64 s (negative z) (0 * den z) (num z * (den x * den y)) (den x * den y * den z) (0 * 1 * den z) (num z * 1) (1 * den z) (mul-pos D (den_pos z)) (mul-pos (lit< tt) (den_pos z))
      (ap (λ (i : ℕ). i * (1 * den z)) (zero-mul (den z)) ∙ zero-mul (1 * den z) ∙ sym (ap (λ (i : ℕ). i * (den x * den y * den z)) (zero-mul (den z)) ∙ zero-mul (den x * den y * den z)))
      (shuffle (num z) (den x * den y) (den z))
      ∙ sym (add-zero-is binary64 s z c)
      ∙ sym (ap (λ (v : Float). add binary64 v z) (mul_is binary64 x y a b ∙ ap (λ (i : ℕ). round binary64 s i (den x * den y)) none ∙ round-zero s (den x * den y) D))
    where
      shuffle : (n d g : ℕ) → n * d * (1 * g) ≡ n * 1 * (d * g)
      shuffle n d g = ap (λ (i : ℕ). n * d * i) (one-mul g) ∙ mul_assoc n d g ∙ ap (λ (i : ℕ). i * (d * g)) (sym (mul-one n))

  pub fma-plain : size_of z ≡ 0 → 0 < size_of x * size_of y → fma binary64 x y z ≡ mul binary64 x y
  fma-plain e h =
      fma-sizes
      ∙ ap (λ (i : ℕ). sum binary64 s (size_of x * size_of y) (negative z) i (unit * unit)) (ap (λ (i : ℕ). i * unit) e ∙ zero-mul unit)
      ∙ sum-nothing binary64 s (negative z) (size_of x * size_of y) (unit * unit) h
      ∙ sym (mul_is binary64 x y a b ∙ round_same binary64 s (num x * num y) (den x * den y) (size_of x * size_of y) (unit * unit) (mul-pos (den_pos x) (den_pos y)) units-pos product-size)
