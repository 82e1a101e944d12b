-- Each way out of the code is the definition's, and the values of a range span it. Assumes nothing.
use mathlib.Core.Path.{◌≡◌, refl, sym, ap, ◌∙◌}
use mathlib.Core.Bool.{true, false, ◌&&◌}
use Prim.Native.Nat.{ℕ}
use native.Mathlib.Omega.{arith}
use Rattle.std.specs.Prelude.{Result, Ok, Err}
use lib.Dec.{T}
use lib.IntN.{ℤ}
use lib.Ieee.{Float, binary64, fits}
use lib.Ieee.Scale.{finite}
use Rattle.refusal.specs.declared.Refusal.{Refusal}
use Rattle.refusal.specs.declared.Refusal.TheVariants as R
use Rattle.refusal.proofs.NumberLaws.{number-above}
use Rattle.conversion.specs.declared.GdsRoundingPolicy.{GdsRoundingPolicy}
use Rattle.conversion.specs.Made.{Made, refused, made, pure, ◌>>=◌}
use Rattle.conversion.specs.Policy.{caller_policy}
use Rattle.conversion.specs.Convert.{database_value}
use Rattle.conversion.proofs.MadeLaws.{Yields, no-yield, made_yields, steps, need-on, need-off, refused-on, pure-on}
use Rattle.conversion.proofs.PolicyLaws.{Caller, unnamed, no_unit, passes, caller}
use Rattle.bounds.specs.declared.DatabaseRange.{DatabaseRange}
use Rattle.bounds.specs.Range.{Range, admitted, range_of, convert_bounds}
use Rattle.bounds.specs.Answer.{answer_of, values_of}
use Rattle.bounds.specs.Bounds.{SpansFor, ConvertsBounds}
use Rattle.bounds.proofs.SpansLaws.{range-spans}

-- ---- the ends, in the order of their checks; v and w are the answers of their conversions

module _ (policy : GdsRoundingPolicy) (d lo hi : Float) where
  pub not_finite : finite lo && finite hi ≡ false → Err R.NotFinite ≡ answer_of (range_of policy d lo hi)
  unfolding range_of
  not_finite h = sym (ap answer_of (need-off (finite lo && finite hi) R.NotFinite _ h))

  module _ (f : finite lo && finite hi ≡ true) where
    pub not-admitted : admitted policy lo hi ≡ false → Err R.Bounds ≡ answer_of (range_of policy d lo hi)
    unfolding range_of
    not-admitted h = sym (ap answer_of (need-on (finite lo && finite hi) R.NotFinite _ f ∙ need-off (admitted policy lo hi) R.Bounds _ h))

    module _ (h : admitted policy lo hi ≡ true) where
      abbrev with-upper : ℤ → Made Range
      with-upper a = database_value policy d hi >>= λ b. pure (record { least = a; greatest = b })

      ends : (database_value policy d lo >>= with-upper) ≡ range_of policy d lo hi
      unfolding range_of
      ends = sym (need-on (finite lo && finite hi) R.NotFinite _ f ∙ need-on (admitted policy lo hi) R.Bounds _ h)

      pub lower-refused : (r : Refusal) → refused r ≡ database_value policy d lo → Err r ≡ answer_of (range_of policy d lo hi)
      lower-refused r k = ap answer_of (refused-on (database_value policy d lo) with-upper r k ∙ ends)

      module _ (a : ℤ) (k : pure a ≡ database_value policy d lo) where
        after_lower : with-upper a ≡ range_of policy d lo hi
        after_lower = pure-on (database_value policy d lo) with-upper a k ∙ ends

        pub upper-refused : (r : Refusal) → refused r ≡ database_value policy d hi → Err r ≡ answer_of (range_of policy d lo hi)
        upper-refused r j = ap answer_of (refused-on (database_value policy d hi) (λ b. pure (record { least = a; greatest = b })) r j ∙ after_lower)

        pub range-is : (b : ℤ) → pure b ≡ database_value policy d hi → Ok (record { least = a; greatest = b }) ≡ answer_of (range_of policy d lo hi)
        range-is b j = ap answer_of (pure-on (database_value policy d hi) (λ b. pure (record { least = a; greatest = b })) b j ∙ after_lower)

-- ---- the caller's checks before them

module _ (n : ℕ) (d lo hi : Float) where
  pub caller-stop : (r : Refusal) → refused r ≡ caller_policy n d → Err r ≡ answer_of (convert_bounds n d lo hi)
  unfolding convert_bounds
  caller-stop r h = ap answer_of (refused-on (caller_policy n d) (λ p. range_of p d lo hi) r h)

  pub caller-on : (p : GdsRoundingPolicy) → pure p ≡ caller_policy n d → answer_of (range_of p d lo hi) ≡ answer_of (convert_bounds n d lo hi)
  unfolding convert_bounds
  caller-on p h = ap answer_of (pure-on (caller_policy n d) (λ p. range_of p d lo hi) p h)

  -- ---- the promise

  module _ (D : T (fits binary64 d)) (L : T (fits binary64 lo)) (H : T (fits binary64 hi)) where
    spans-under : (r : Range) (m : Made GdsRoundingPolicy) → Caller n d m → (p : GdsRoundingPolicy) → Yields m p → Yields (range_of p d lo hi) r → SpansFor n d lo hi r
    spans-under r m (unnamed e) p y z = no-yield y
    spans-under r m (no_unit q e f) p y z = no-yield y
    spans-under r m (passes q e f) p y z = record { policy = q; named = e; spans = range-spans q d lo hi r D f L H (rw (made_yields y) z) }

    spans-for : (r : Range) → Yields (convert_bounds n d lo hi) r → SpansFor n d lo hi r
    unfolding convert_bounds
    spans-for r y = let k = steps y in spans-under r (caller_policy n d) (caller n d) k.value k.first k.then

    spans-at : (m : Made Range) → convert_bounds n d lo hi ≡ m → (values_of (answer_of m)).number ≡ 0 → SpansFor n d lo hi (record { least = (values_of (answer_of m)).least; greatest = (values_of (answer_of m)).greatest })
    spans-at (refused r) e z = let h = number-above r in absurd (omega arith)
    spans-at (made r vs) e z = spans-for r (record { log = vs; is = e })

    pub converts : (a : Result DatabaseRange Refusal) → a ≡ answer_of (convert_bounds n d lo hi) → ConvertsBounds n d lo hi (values_of a)
    converts a e = record { answer = ap values_of e; spans = rw e (spans-at (convert_bounds n d lo hi) refl) }
