-- What `convert_bounds` promises of its answer, in numbers (document 02, request 11). Assumes nothing.
use Rattle.std.specs.Prelude.{◌≡◌, ℕ, Float}
use Rattle.std.proofs.Math.Option.{some}
use Rattle.conversion.specs.declared.GdsRoundingPolicy.{GdsRoundingPolicy}
use Rattle.conversion.specs.Policy.{policy_of}
use Rattle.bounds.specs.Range.{Range, convert_bounds, Spans}
use Rattle.bounds.specs.Answer.{answer_of, Values, values_of}

-- the number n names a policy, under which the range is spanned
pub record SpansFor (n : ℕ) (d lower upper : Float) (r : Range) : Type 0 where
  pub policy : GdsRoundingPolicy
  pub named : policy_of n ≡ some policy
  pub spans : Spans policy d lower upper r

pub record ConvertsBounds (policy : ℕ) (d lower upper : Float) (v : Values) : Type 0 where
  -- the answer is the definition's
  pub answer : v ≡ values_of (answer_of (convert_bounds policy d lower upper))
  -- and where it is a range, its values are the least and the greatest
  pub spans : v.number ≡ 0 → SpansFor policy d lower upper (record { least = v.least; greatest = v.greatest })
