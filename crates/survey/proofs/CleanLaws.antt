-- Places that are never disturbed: the first, which is 0 or -0, and those of a pitch that is a whole number of units exactly. Assumes nothing.
use mathlib.Core.Path.{◌≡◌, sym, ap, ◌∙◌, subst}
use mathlib.Core.Bool.{false}
use Prim.Native.Nat.{ℕ, zero, suc, ◌*◌, ◌^◌, ◌≤◌, ◌<◌}
use native.Mathlib.Nat.{le_trans, le_of_eq, le_of_lt, mul_assoc, mul-one, mul-le-mul_left, mul-pos, zero-lt-suc}
use lib.Dec.{T, lt→ltb, lit≤}
use lib.IntN.{pos}
use lib.Ieee.{Float, binary64, round, fits}
use lib.Ieee.Positive.{positive, positive-finite, first_pos}
use lib.Ieee.Scale.{finite}
use Rattle.binary64.specs.Value.{unit, size_of}
use Rattle.binary64.proofs.Quotient.{positive-sign}
use Rattle.binary64.proofs.Exact.{Is, is_finite, int_is, none-times, none-by}
use Rattle.binary64.proofs.TimesBack.{times-size, size-pos, there_and_back}
use Rattle.conversion.specs.Convert.{on_grid}
use Rattle.conversion.specs.Field.{point_field, no_axis}
use Rattle.conversion.specs.Points.{spot}
use Rattle.conversion.proofs.WholeLaws.{convert-beside, convert-whole}
use Rattle.survey.specs.Places.{place_at, placed, placed_at, FirstClean, MultipleClean}

first-is : (pitch : Float) → T (finite pitch) → Is (place_at pitch 0) (pos 0)
first-is pitch f = none-times (int_is (pos 0) (lit≤ tt)) pitch f

pub first-clean : FirstClean
unfolding placed_at
first-clean policy d pitch b f =
    let p = first-is pitch f in
    ap placed (convert-whole d (place_at pitch 0) (pos 0) tt (spot point_field no_axis 0) policy (is_finite p) (none-by p d b))

-- place i is i m times d, rounded
module _ (d pitch : Float) (m i : ℕ) (X : T (fits binary64 pitch)) (c : T (positive pitch)) (e : size_of pitch ≡ m * size_of d) (l : i * m < 2 ^ 31) where
  factor : 0 < m
  factor = first_pos m (size_of d) (subst (λ (n : ℕ). 0 < n) e (size-pos pitch X c))

  place-small : i ≤ 2 ^ 53
  place-small = le_trans (le_of_eq (sym (mul-one i))) (le_trans (mul-le-mul_left i factor) (le_trans (le_of_lt l) (lit≤ tt)))

  place_is : place_at pitch i ≡ round binary64 false (i * m * size_of d) unit
  place_is = times-size i place-small pitch X (positive-finite pitch c) (positive-sign pitch c) ∙ ap (λ (n : ℕ). round binary64 false n unit) (ap (λ (n : ℕ). i * n) e ∙ sym (mul_assoc i m (size_of d)))

pub multiple-clean : MultipleClean
unfolding placed_at on_grid
multiple-clean policy d pitch m zero D X b c e l f = first-clean policy d pitch b (positive-finite pitch c)
multiple-clean policy d pitch m (suc i) D X b c e l f =
    let v = suc i * m in
    let p = place_at pitch (suc i) in
    let k = there_and_back v (mul-pos (zero-lt-suc i) (factor d pitch m (suc i) X c e l)) (le_of_lt l) d p D b f (place_is d pitch m (suc i) X c e l) in
    ap placed (convert-beside d p (pos v) (lt→ltb v (2 ^ 31) l) (spot point_field no_axis 0) k.step policy f k.finite-is k.snaps k.rounds)
