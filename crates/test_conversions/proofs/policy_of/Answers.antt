-- `test_conversions::policy_of` meets its contract: a number that has a policy has the definition's, and every other is strict. Assumes nothing.
use mathlib.Core.Path.{◌≡◌, refl, ap, ◌∙◌}
use mathlib.Core.Bool.{Bool, true, false, cond}
use mathlib.Core.Option.{none, some}
use lib.Dec.{eqb}
use Rattle.std.specs.Prelude.{Result, Ok, Err}
use Rattle.std.specs.Result.{result_unwrap_or}
use Rattle.refusal.specs.declared.Refusal.{Refusal}
use Rattle.conversion.specs.declared.GdsRoundingPolicy.{GdsRoundingPolicy}
use Rattle.conversion.specs.declared.GdsRoundingPolicy.TheVariants.{Nearest, Floor, Ceil, ErrorIfOffGrid}
use Rattle.conversion.specs.Made.{Made, refused, made}
use Rattle.conversion.specs.Policy as Policy
use Rattle.conversion.specs.Policy.{named}
use Rattle.conversion.specs.code.Answer.{made_of}
use Rattle.test_conversions.proofs.policy_of.Goals as goal

abbrev or_strict : Made GdsRoundingPolicy → GdsRoundingPolicy
or_strict (refused r) = ErrorIfOffGrid
or_strict (made p vs) = p

taken : (r : Result GdsRoundingPolicy Refusal) (m : Made GdsRoundingPolicy) → made_of r ≡ m → result_unwrap_or r ErrorIfOffGrid ≡ or_strict m
taken (Ok p) m e = ap or_strict e
taken (Err x) m e = ap or_strict e

by_number : (a b c d : Bool) → or_strict (named (cond a (some Nearest) (cond b (some Floor) (cond c (some Ceil) (cond d (some ErrorIfOffGrid) none))))) ≡ cond a Nearest (cond b Floor (cond c Ceil ErrorIfOffGrid))
by_number true b c d = refl
by_number false true c d = refl
by_number false false true d = refl
by_number false false false true = refl
by_number false false false false = refl

pub returns : goal.returns
unfolding Policy.policy_of
returns c =
    let n = c.args.n in
    c.unwrap_or.ensures ∙ taken c.try_from.result _ c.try_from.ensures ∙ by_number (eqb n 0) (eqb n 1) (eqb n 2) (eqb n 3)
