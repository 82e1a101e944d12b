-- `conversion::caller_policy` meets its contract: the policy by its number, and then the database unit. Assumes nothing.
use mathlib.Core.Path.{sym, ◌∙◌}
use lib.Ieee.Positive.{positive}
use Rattle.refusal.specs.declared.Refusal.TheVariants as R
use Rattle.conversion.specs.Made.{pure}
use Rattle.conversion.specs.Policy.{policy_of, named, caller_policy}
use Rattle.conversion.proofs.MadeLaws.{need-on, need-off, refused-on, pure-on}
use Rattle.conversion.proofs.CodeLaws.{handed-on}
use Rattle.conversion.proofs.caller_policy.Goals as goal

pub returns-in_err-policy : goal.returns-in_err-policy
unfolding caller_policy
returns-in_err-policy c =
    let r = c.in_err-policy.field-0.0 in
    handed-on r c.from_residual.result c.from_residual.ensures.1 ∙ refused-on (named (policy_of c.args.n)) _ r c.in_err-policy.ensures

pub returns-then-is_positive : goal.returns-then-is_positive
unfolding caller_policy
returns-then-is_positive c =
    let p = c.in_ok-policy.policy in
    sym (need-on (positive c.args.d) R.DatabaseUnit (pure p) (sym c.is_positive.ensures ∙ c.if-is_positive.true)) ∙ pure-on (named (policy_of c.args.n)) _ p c.in_ok-policy.ensures

pub returns-else-is_positive : goal.returns-else-is_positive
unfolding caller_policy
returns-else-is_positive c =
    let p = c.in_ok-policy.policy in
    sym (need-off (positive c.args.d) R.DatabaseUnit (pure p) (sym c.is_positive.ensures ∙ c.if-is_positive.false)) ∙ pure-on (named (policy_of c.args.n)) _ p c.in_ok-policy.ensures
