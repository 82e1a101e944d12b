-- Under floor nothing that is converted lies above its physical value but 0, and under ceiling nothing below: the statements of specs/Side. Assumes nothing.
use mathlib.Core.Path.{◌≡◌, refl, sym, ap, ◌∙◌, subst}
use mathlib.Core.Logic.{◌⊎◌, inl, inr}
use mathlib.Core.Bool.{Bool, true, false, cond}
use mathlib.Core.List.{[]}
use Prim.Native.Nat.{ℕ, zero, suc}
use lib.Dec.{T}
use lib.IntN.{ℤ, pos, ◌*ℤ◌, zero-*ℤ}
use lib.Signed.{◌≤ℤ◌, ◌<ℤ◌, clash_ℤ}
use lib.Ieee.{Float, fin, binary64, round, div, of_int, fits}
use lib.Ieee.Fits.{of_int-fits, div-fits}
use lib.Ieee.Positive.{positive}
use lib.Ieee.Scale.{finite}
use lib.Ieee as Ieee
use Rattle.binary64.specs.Value.{unit, size_of, half_up, negative, signed, scaled, round_away, floor_of, ceil_of}
use Rattle.binary64.specs.Step.{ordered_bits, ordered, one_step, nearest_double}
use Rattle.binary64.proofs.Order.{both-orders, below→signed}
use Rattle.binary64.proofs.Quotient.{quotient-sign}
use Rattle.binary64.proofs.Compare.{less→le}
use Rattle.binary64.proofs.Same.{same-or-zeros, zero_is}
use Rattle.binary64.proofs.StepLaws.{step-self}
use Rattle.binary64.proofs.Exact.{is_finite, int_is}
use Rattle.binary64.proofs.QuotientSide.{floor-under, ceil-over, int-scaled, quotient-under, quotient-over}
use Rattle.conversion.specs.declared.GdsRoundingPolicy.TheVariants.{Floor, Ceil}
use Rattle.conversion.specs.Convert.{in_range, on_grid, rounded, counts}
use Rattle.conversion.specs.Side.{Above, Below, FloorNeverAbove, CeilingNeverBelow}
use Rattle.conversion.proofs.DeviationLaws.{counts-far}
use Rattle.conversion.proofs.MadeLaws.{made_yields}
use Rattle.conversion.proofs.ConvertLaws.{value-passed}
use Rattle.conversion.proofs.WholeLaws.{small}

-- the two zeros are one step apart
zeros-beside : (t u : Bool) → one_step (fin t 0 (pos 0)) (fin u 0 (pos 0)) ≡ true
unfolding one_step ordered ordered_bits Ieee.to_bits Ieee.size
zeros-beside true true = refl
zeros-beside true false = refl
zeros-beside false true = refl
zeros-beside false false = refl

-- doubles that are the same whole number of units are within one step
level-beside : (x y : Float) → T (fits binary64 x) → T (fits binary64 y) → T (finite x) → T (finite y) → scaled x ≡ scaled y → one_step x y ≡ true
level-beside x y X Y f g e = elim (same-or-zeros x y X Y f g e) [
  | inl s ↦ subst (λ (z : Float). one_step x z ≡ true) s (step-self x)
  | inr z ↦ ap (λ (u : Float). one_step u y) (zero_is x X f z.0) ∙ ap (one_step (fin (negative x) 0 (pos 0))) (zero_is y Y g z.1) ∙ zeros-beside (negative x) (negative y)
]

-- what snaps to q lies within one step of it, but for what snaps to −0
snapped-beside : (s : Float) (q : ℤ) → on_grid s ≡ true → round_away s ≡ q → (one_step s (of_int binary64 q) ≡ true) ⊎ ((q ≡ pos 0) × (negative s ≡ true))
unfolding on_grid nearest_double round_away Ieee.of_int
snapped-beside s q g e = go (negative s) (half_up (size_of s)) refl g e
  where
    near : (z : ℤ) (y : Float) → of_int binary64 z ≡ y → one_step s y ≡ true → z ≡ q → one_step s (of_int binary64 q) ≡ true
    near z y h k e = subst (λ (x : ℤ). one_step s (of_int binary64 x) ≡ true) e (ap (one_step s) h ∙ k)

    go : (t : Bool) (n : ℕ) → negative s ≡ t → one_step s (round binary64 t n 1) ≡ true → signed t n ≡ q → (one_step s (of_int binary64 q) ≡ true) ⊎ ((q ≡ pos 0) × (negative s ≡ true))
    go false n h k e = inl (near (pos n) (round binary64 false n 1) refl k e)
    go true zero h k e = inr (sym e, h)
    go true (suc n) h k e = inl (near (signed true (suc n)) (round binary64 true (suc n) 1) refl k e)

-- a p with a minus sign is no more than 0
no_more : (p : Float) → negative p ≡ true → scaled p ≤ℤ pos 0
unfolding scaled
no_more p h = subst (λ (t : Bool). signed t (size_of p) ≤ℤ pos 0) (sym h) (below→signed true false (size_of p) 0 tt)

module _ (d p : Float) (q : ℤ) (D : T (fits binary64 d)) (b : T (positive d)) (P : T (fits binary64 p)) (c : T (counts d p q)) where
  abbrev s : Float
  s = div binary64 p d

  abbrev y : Float
  y = of_int binary64 q

  -- s is not q itself
  apart : T (finite s) → T (in_range q) → scaled s ≤ℤ scaled y → scaled y ≤ℤ scaled s → ⊥
  apart f r h k = counts-far d p q c (level-beside s y (div-fits binary64 p d) (of_int-fits binary64 q) f (is_finite (int_is q (small q r))) (both-orders (scaled s) (scaled y) h k))

  module _ (v : T (finite p)) (f : T (finite s)) (r : T (in_range q)) where
    floor-above : (t : Bool) → on_grid s ≡ t → cond t (round_away s) (floor_of s) ≡ q → Above d p q → q ≡ pos 0
    floor-above true g e a = elim (snapped-beside s q g e) [
      | inl k ↦ absurd (counts-far d p q c k)
      | inr z ↦ z.0
    ]
    floor-above false g e a =
        absurd (apart f r (quotient-under q (small q r) p d P D v b f (less→le (scaled p) (q *ℤ scaled d) a))
        (subst (λ (z : ℤ). z ≤ℤ scaled s) (sym (int-scaled q (small q r))) (subst (λ (z : ℤ). (z *ℤ pos unit) ≤ℤ scaled s) e (floor-under s))))

    ceil-below : (t : Bool) → on_grid s ≡ t → cond t (round_away s) (ceil_of s) ≡ q → Below d p q → ⊥
    ceil-below true g e a = elim (snapped-beside s q g e) [
      | inl k ↦ counts-far d p q c k
      | inr z ↦ clash_ℤ (subst (λ (x : ℤ). (x *ℤ scaled d) <ℤ scaled p) z.0 a) (subst (λ (x : ℤ). scaled p ≤ℤ x) (sym (zero-*ℤ (scaled d))) (no_more p (sym (quotient-sign p d P D v b f) ∙ z.1)))
    ]
    ceil-below false g e a =
        apart f r
        (subst (λ (z : ℤ). scaled s ≤ℤ z) (sym (int-scaled q (small q r))) (subst (λ (z : ℤ). scaled s ≤ℤ (z *ℤ pos unit)) e (ceil-over s)))
        (quotient-over q (small q r) p d P D v b f (less→le (q *ℤ scaled d) (scaled p) a))

pub floor-never-above : FloorNeverAbove
unfolding rounded
floor-never-above d p q D b P e c a =
    let k = value-passed Floor d p q (record { log = []; is = e }) in
    floor-above d p q D b P c k.physical k.quotient k.ranged (on_grid (div binary64 p d)) refl (made_yields k.rounds) a

pub ceiling-never-below : CeilingNeverBelow
unfolding rounded
ceiling-never-below d p q D b P e c a =
    let k = value-passed Ceil d p q (record { log = []; is = e }) in
    ceil-below d p q D b P c k.physical k.quotient k.ranged (on_grid (div binary64 p d)) refl (made_yields k.rounds) a
