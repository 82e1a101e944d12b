-- `GdsRoundingPolicy::try_from` meets its contract: no number above 3 has a policy. Assumes nothing.
use native.Mathlib.Omega.{arith}
use Rattle.conversion.specs.Policy.{policy_of}
use Rattle.conversion.proofs.PolicyLaws.{policy-none}
use Rattle.conversion.proofs.GdsRoundingPolicyTryFromU8.try_from.Goals as goal

pub returns-in-0 : goal.returns-in-0
unfolding policy_of
returns-in-0 c = rw c.in-0.is

pub returns-in-1 : goal.returns-in-1
unfolding policy_of
returns-in-1 c = rw c.in-1.is

pub returns-in-2 : goal.returns-in-2
unfolding policy_of
returns-in-2 c = rw c.in-2.is

pub returns-in-3 : goal.returns-in-3
unfolding policy_of
returns-in-3 c = rw c.in-3.is

pub returns-in_default : goal.returns-in_default
returns-in_default c = rw (policy-none c.args.n (omega arith))
