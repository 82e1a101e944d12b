-- The counts of one place more, and their sum. Assumes nothing.
use mathlib.Core.Path.{◌≡◌, refl, sym, ◌∙◌}
use mathlib.Core.Bool.{Bool, cond}
use Prim.Native.Nat.{ℕ, zero, suc, ◌+◌}
use native.Mathlib.Omega.{arith}
use native.Mathlib.Numerals.{add-one}
use lib.Ieee.{Float}
use Rattle.conversion.specs.declared.GdsRoundingPolicy.{GdsRoundingPolicy}
use Rattle.conversion.specs.Field.{point_field, no_axis}
use Rattle.conversion.specs.Convert.{Spot, convert_physical}
use Rattle.conversion.specs.Points.{spot}
use Rattle.survey.specs.declared.Placed.{Placed}
use Rattle.survey.specs.declared.Placed.TheVariants as P
use Rattle.survey.specs.Places.{place_at, placed, placed_at, count_of, is_clean, is_due, is_refused, counted, Together}

-- ---- one place more

module _ (policy : GdsRoundingPolicy) (d pitch : Float) (i : ℕ) where
  pub record Next (p : Placed) : Type 0 where
    pub clean : (counted policy d pitch (i + 1)).clean ≡ (counted policy d pitch i).clean + cond (is_clean p) 1 0
    pub due : (counted policy d pitch (i + 1)).due ≡ (counted policy d pitch i).due + cond (is_due p) 1 0
    pub refused : (counted policy d pitch (i + 1)).refused ≡ (counted policy d pitch i).refused + cond (is_refused p) 1 0

  count_next : (f : Placed → Bool) (p : Placed) → placed_at policy d pitch i ≡ p → count_of (λ j. f (placed_at policy d pitch j)) (i + 1) ≡ count_of (λ j. f (placed_at policy d pitch j)) i + cond (f p) 1 0
  unfolding count_of
  count_next f p e = rw (add-one, e)

  -- p is what the code found at place i
  pub next : (p : Placed) → ((at : Spot) → p ≡ placed (convert_physical policy d at (place_at pitch i))) → (q : Placed) → p ≡ q → Next q
  unfolding counted placed_at
  next p h q e =
      let g : placed_at policy d pitch i ≡ q = sym (h (spot point_field no_axis 0)) ∙ e in
      record { clean = count_next is_clean q g; due = count_next is_due q g; refused = count_next is_refused q g }

-- ---- the sum

pub one_each : (p : Placed) → cond (is_clean p) 1 0 + cond (is_due p) 1 0 + cond (is_refused p) 1 0 ≡ 1
one_each P.Clean = refl
one_each P.Due = refl
one_each P.Refused = refl

pub together : Together
unfolding counted count_of
together policy d pitch zero = refl
together policy d pitch (suc n) = omega (arith, together policy d pitch n, one_each (placed_at policy d pitch n))
