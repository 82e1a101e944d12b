-- `gds_format::Real8::encode` meets its contract: each of its tests is the definition's. Assumes nothing.
use mathlib.Core.Path.{◌≡◌, refl, sym, ◌∙◌, subst}
use mathlib.Core.Bool.{Bool, true, false}
use lib.Dec.{T, ltb}
use lib.Ieee.{Float, binary64, fits, of_bits, eq}
use lib.Ieee.Scale.{finite}
use Rattle.std.proofs.Common.{arith}
use Rattle.std.proofs.lemmas.Bool.Decides.{nat_tests}
use Rattle.binary64.specs.Value.{size_of, negative}
use Rattle.gds_format.specs.Real8.{min_magnitude, max_magnitude, values_of}
use Rattle.gds_format.specs.Faithful.{EncodesReal}
use Rattle.gds_format.proofs.Magnitude.{zero_test}
use Rattle.gds_format.proofs.Real8Laws.{answered, encoding-is, encodes}
use Rattle.gds_format.proofs.Real8.encode.Goals as goal

-- the answer that the tests give, of a finite x
by-tests : (x : Float) (z s l : Bool) → T (fits binary64 x) → finite x ≡ true → eq x (of_bits binary64 0) ≡ z → ltb (size_of x) min_magnitude ≡ s → ltb (size_of x) max_magnitude ≡ l
    → EncodesReal x (values_of (answered x true z s l))
by-tests x z s l F f e h k = encodes x F (encoding-is x true z s l f (sym (zero_test x F (subst T (sym f) tt)) ∙ e) h k)

pub returns-then-not-is_finite : goal.returns-then-not-is_finite
returns-then-not-is_finite c = encodes _ (subst T (sym c.well_formed.0.1) tt) (encoding-is c.args.x false _ _ _ (cc) refl refl refl)

pub returns-then-x : goal.returns-then-x
returns-then-x c = by-tests c.args.x true _ _ (subst T (sym c.well_formed.0.1) tt) (cc) c.if-x.true refl refl

-- the size of each of `Real8`'s limits is computed, and is the definition's
pub magnitude_below-requires-clause-limit_finite : goal.magnitude_below-requires-clause-limit_finite
unfolding of_bits
magnitude_below-requires-clause-limit_finite c = tt

pub magnitude_below-requires-clause-limit_positive : goal.magnitude_below-requires-clause-limit_positive
unfolding of_bits negative
magnitude_below-requires-clause-limit_positive c = refl

pub returns-then-magnitude_below : goal.returns-then-magnitude_below
unfolding of_bits size_of
returns-then-magnitude_below c = by-tests c.args.x false true _ (subst T (sym c.well_formed.0.1) tt) (cc) c.if-x.false (sym c.magnitude_below.ensures ∙ c.if-magnitude_below.true) refl

pub magnitude_below-requires-2-clause-limit_finite : goal.magnitude_below-requires-2-clause-limit_finite
unfolding of_bits
magnitude_below-requires-2-clause-limit_finite c = tt

pub magnitude_below-requires-2-clause-limit_positive : goal.magnitude_below-requires-2-clause-limit_positive
unfolding of_bits negative
magnitude_below-requires-2-clause-limit_positive c = refl

pub normalized_pattern-pattern-requires-clause-min_magnitude_bound : goal.normalized_pattern-pattern-requires-clause-min_magnitude_bound
unfolding of_bits size_of
normalized_pattern-pattern-requires-clause-min_magnitude_bound c = grind (arith, nat_tests)

pub normalized_pattern-pattern-requires-clause-x_bound : goal.normalized_pattern-pattern-requires-clause-x_bound
unfolding of_bits size_of
normalized_pattern-pattern-requires-clause-x_bound c = grind (arith, nat_tests)

pub returns-then-magnitude_below-2 : goal.returns-then-magnitude_below-2
unfolding of_bits size_of
returns-then-magnitude_below-2 c =
    rw c.normalized_pattern-pattern.ensures
    (by-tests c.args.x false false true (subst T (sym c.well_formed.0.1) tt) (cc) c.if-x.false (sym c.magnitude_below.ensures ∙ c.if-magnitude_below.false) (sym c.magnitude_below-2.ensures ∙ c.if-magnitude_below-2.true))

pub returns : goal.returns
unfolding of_bits size_of
returns c =
    by-tests c.args.x false false false (subst T (sym c.well_formed.0.1) tt) (cc) c.if-x.false (sym c.magnitude_below.ensures ∙ c.if-magnitude_below.false) (sym c.magnitude_below-2.ensures ∙ c.if-magnitude_below-2.false)
