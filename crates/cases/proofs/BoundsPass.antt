-- What is answered of two bounds is as known; and what the promise of `convert_bounds` gives whoever keeps it. Assumes nothing.
use mathlib.Core.Path.{◌≡◌, refl, subst}
use mathlib.Core.List.{List, [], ◌∷◌}
use mathlib.Core.Option.{some}
use Prim.Native.Nat.{ℕ}
use native.Mathlib.Omega.{arith}
use lib.Dec.{T}
use lib.Ieee.{Float, binary64, of_bits, fits, le}
use Rattle.refusal.specs.declared.Refusal.TheVariants as R
use Rattle.conversion.specs.declared.GdsRoundingPolicy.{GdsRoundingPolicy}
use Rattle.conversion.specs.declared.GdsRoundingPolicy.TheVariants.{ErrorIfOffGrid}
use Rattle.conversion.specs.Made.{refused}
use Rattle.conversion.specs.Policy.{policy_of}
use Rattle.conversion.specs.Convert.{database_value}
use Rattle.bounds.specs.Range.{Range, convert_bounds, Reached, Between, Spans, SpansOne}
use Rattle.bounds.specs.Answer.{answer_of, Values, values_of}
use Rattle.bounds.specs.Bounds.{ConvertsBounds}
use Rattle.cases.specs.Doubles.{one, two}
use Rattle.cases.specs.Bounds.{Row, limits, orders, ranges}
use Rattle.cases.proofs.Open.{opened}

-- ---- the rows

-- what the definitions say of a row's bounds
abbrev pub found : List Row → List Row
found [] = []
found (r ∷ rs) =
    record {
      policy = r.policy;
      unit = r.unit;
      lower = r.lower;
      upper = r.upper;
      says = values_of (answer_of (convert_bounds r.policy (of_bits binary64 r.unit) (of_bits binary64 r.lower) (of_bits binary64 r.upper)));
    }
    ∷ found rs

pub limits-hold : found limits ≡ limits
unfolding opened limits
limits-hold = refl

pub orders-hold : found orders ≡ orders
unfolding opened orders
orders-hold = refl

pub ranges-hold : found ranges ≡ ranges
unfolding opened ranges
ranges-hold = refl

-- ---- what the promise says, of every policy, unit and pair of ends

module _ (n : ℕ) (policy : GdsRoundingPolicy) (d lower upper : Float) (v : Values) (named : policy_of n ≡ some policy) (h : ConvertsBounds n d lower upper v) (z : v.number ≡ 0) where
  abbrev range : Range
  range = record { least = v.least; greatest = v.greatest }

  promised : Spans policy d lower upper range
  promised = let s = h.spans z in subst (λ (p : GdsRoundingPolicy). Spans p d lower upper range) (let e = s.named in cc) s.spans

  pub least-reached : Reached policy d lower upper v.least
  least-reached = promised.least

  pub greatest-reached : Reached policy d lower upper v.greatest
  greatest-reached = promised.greatest

  pub each-between : (x : Float) → T (fits binary64 x) → T (le lower x) → T (le x upper) → Between policy d x range
  each-between = promised.all

  -- whoever else finds the least and the greatest value finds these
  pub the_values : SpansOne → (r : Range) → Spans policy d lower upper r → r ≡ range
  the_values one r s = one policy d lower upper r range s promised

-- ---- no double of the range is refused: strict spans nothing from 1 to 2, since it refuses 1.5

abbrev one_and_half : Float
one_and_half = of_bits binary64 0x3ff8000000000000

off-grid : database_value ErrorIfOffGrid (of_bits binary64 one) one_and_half ≡ refused R.OffGrid
unfolding opened
off-grid = refl

pub strict-spans-none : (r : Range) → Spans ErrorIfOffGrid (of_bits binary64 one) (of_bits binary64 one) (of_bits binary64 two) r → ⊥
unfolding opened fits
strict-spans-none r h = let e = (h.all one_and_half tt tt tt).is in let f = off-grid in let z : ◌≡◌ {A = ℕ} 0 1 = cc in omega arith
