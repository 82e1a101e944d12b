-- The rounding policy by its number, and the caller's first two checks (document 01, "Input" and "Who can cause which refusal"). Assumes nothing.
use Rattle.std.specs.Prelude.{cond, ℕ, eqb, Float}
use Rattle.std.proofs.Math.Option.{Option, none, some}
use Rattle.std.specs.Float.Ieee.Positive.{positive}
use Rattle.refusal.specs.declared.Refusal.TheVariants as R
use Rattle.conversion.specs.declared.GdsRoundingPolicy.{GdsRoundingPolicy}
use Rattle.conversion.specs.declared.GdsRoundingPolicy.TheVariants.{Nearest, Floor, Ceil, ErrorIfOffGrid}
use Rattle.conversion.specs.Made.{Made, refused, pure, need, ◌>>=◌, ◌>>◌}

-- "the policy (0 nearest, 1 floor, 2 ceiling, 3 strict)"
unfoldable pub policy_of : ℕ → Option GdsRoundingPolicy
policy_of n =
    cond (eqb n 0) (some Nearest)
    (cond (eqb n 1) (some Floor)
    (cond (eqb n 2) (some Ceil)
    (cond (eqb n 3) (some ErrorIfOffGrid)
    none)))

abbrev pub max_policy : ℕ
max_policy = 3

-- "1 policy above 3"
abbrev pub named : Option GdsRoundingPolicy → Made GdsRoundingPolicy
named none = refused R.Policy
named (some policy) = pure policy

-- "Caller, first: 1 policy above 3; 2 d not finite and positive": the policy, where both have passed
unfoldable pub caller_policy : ℕ → Float → Made GdsRoundingPolicy
caller_policy n d = do
  policy ← named (policy_of n)
  need (positive d) R.DatabaseUnit
  pure policy
