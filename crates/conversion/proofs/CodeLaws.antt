-- The code's answers: what `?` hands on. Assumes nothing.
use mathlib.Core.Path.{◌≡◌, ap}
use Rattle.std.specs.Prelude.{Result, Ok, Err, IsErrAnd}
use Rattle.refusal.specs.declared.Refusal.{Refusal}
use Rattle.conversion.specs.declared.Conversion.{Conversion}
use Rattle.conversion.specs.Made.{refused}
use Rattle.conversion.specs.Convert.{Spot}
use Rattle.conversion.specs.code.Answer.{made_of, outcome}

-- it is the refusal that it met
module _ (r : Refusal) where
  pub handed-on : {A : Type 0} (w : Result A Refusal) → IsErrAnd w (λ x. x ≡ r) → made_of w ≡ refused r
  handed-on (Err x) e = ap refused e
  handed-on (Ok a) e = absurd e

  pub outcome-on : (at : Spot) (w : Result Conversion Refusal) → IsErrAnd w (λ x. x ≡ r) → outcome at w ≡ refused r
  outcome-on at (Err x) e = ap refused e
  outcome-on at (Ok a) e = absurd e
