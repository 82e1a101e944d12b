-- Whether a deviation counts. Assumes nothing.
use mathlib.Core.Path.{◌≡◌, refl, ap, ◌∙◌, subst}
use mathlib.Core.Bool.{Bool, true, false, not, ◌&&◌}
use mathlib.Core.List.{[], ◌∷◌}
use lib.Dec.{T}
use lib.IntN.{ℤ}
use lib.Ieee.{Float, binary64, lt, div, of_int, of_bits}
use lib.Ieee.Fits.{and_l, and_r}
use Rattle.binary64.specs.Value.{abs, zero64}
use Rattle.binary64.specs.Step.{one_step}
use Rattle.conversion.specs.declared.Deviation.{Deviation}
use Rattle.conversion.specs.Made.{made, pure}
use Rattle.conversion.specs.Convert.{Spot, difference, counts, deviations}

-- 0.0 as the code has it
pub zero_is : of_bits binary64 0 ≡ zero64
unfolding of_bits
zero_is = refl

-- ---- what counts is above 0 in magnitude, and s and q are more than one step apart

module _ (d p : Float) (q : ℤ) (c : T (counts d p q)) where
  pub counts-above : T (lt zero64 (abs (difference d p q)))
  unfolding counts
  counts-above = and_l (lt zero64 (abs (difference d p q))) (not (one_step (div binary64 p d) (of_int binary64 q))) c

  pub counts-far : one_step (div binary64 p d) (of_int binary64 q) ≡ true → ⊥
  unfolding counts
  counts-far e = subst (λ (t : Bool). T (not t)) e (and_r (lt zero64 (abs (difference d p q))) (not (one_step (div binary64 p d) (of_int binary64 q))) c)

-- ---- whether it counts; x is the difference, and a its magnitude

module _ (d p : Float) (q : ℤ) (x : Float) (w : x ≡ difference d p q) (a : Float) (v : a ≡ abs x) where
  tests : (t u : Bool) → lt (of_bits binary64 0) a ≡ t → one_step (div binary64 p d) (of_int binary64 q) ≡ u → counts d p q ≡ t && not u
  unfolding counts
  tests t u h k = rw (← k, ← h, v, w, zero_is)

  none : counts d p q ≡ false → (at : Spot) (z : ℤ) → z ≡ q → pure z ≡ made q (deviations d at p q)
  unfolding deviations
  none h at z f = ap (λ (y : ℤ). pure y) f ∙ rw h

  -- nothing above 0
  pub counts-level : lt (of_bits binary64 0) a ≡ false → (at : Spot) (z : ℤ) → z ≡ q → pure z ≡ made q (deviations d at p q)
  counts-level h = none (tests false _ h refl)

  -- s and q are one step apart, or less
  pub counts-beside : one_step (div binary64 p d) (of_int binary64 q) ≡ true → (at : Spot) (z : ℤ) → z ≡ q → pure z ≡ made q (deviations d at p q)
  counts-beside k = none (tests _ true refl k ∙ off (lt (of_bits binary64 0) a))
    where
      off : (t : Bool) → t && false ≡ false
      off true = refl
      off false = refl

  pub counts_some : lt (of_bits binary64 0) a ≡ true → one_step (div binary64 p d) (of_int binary64 q) ≡ false → (at : Spot) (z : ℤ) → z ≡ q
      → made z (record { field = at.field; axis = at.axis; place = at.place; physical = p; database = z; error = x } ∷ []) ≡ made q (deviations d at p q)
  unfolding deviations
  counts_some h k at z f = ap (λ (y : ℤ). made y (dev y x ∷ [])) f ∙ ap (λ (y : Float). made q (dev q y ∷ [])) w ∙ rw (tests true false h k)
    where
      dev : ℤ → Float → Deviation
      dev y e = record { field = at.field; axis = at.axis; place = at.place; physical = p; database = y; error = e }
