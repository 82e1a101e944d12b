-- Policies by their numbers, and the caller's first two checks: which of the two refuses, or what has passed. Assumes nothing.
use mathlib.Core.Path.{◌≡◌, refl, sym, ap, ◌∙◌}
use mathlib.Core.Bool.{Bool, true, false}
use mathlib.Core.Option.{Option, none, some}
use Prim.Native.Nat.{ℕ, ◌<◌}
use native.Mathlib.Omega.{arith}
use borrow.Author.Tests.{ne_eqb}
use lib.Dec.{T}
use lib.Ieee.{Float}
use lib.Ieee.Positive.{positive}
use Rattle.std.specs.Prelude.{Result, Ok, Err}
use Rattle.refusal.specs.declared.Refusal.{Refusal}
use Rattle.refusal.specs.declared.Refusal.TheVariants as R
use Rattle.conversion.specs.declared.GdsRoundingPolicy.{GdsRoundingPolicy}
use Rattle.conversion.specs.Made.{Made, refused, pure, need, ◌>>=◌, ◌>>◌}
use Rattle.conversion.specs.Policy.{policy_of, max_policy, named, caller_policy}
use Rattle.conversion.specs.code.Answer.{made_of}
use Rattle.conversion.proofs.MadeLaws.{need-on, need-off, pure_then, refused-then, refused-on, pure-on}

-- no policy has a number above 3
pub policy-none : (n : ℕ) → max_policy < n → policy_of n ≡ none
unfolding policy_of
policy-none n h = rw (ne_eqb n 0 (λ z. omega arith), ne_eqb n 1 (λ z. omega arith), ne_eqb n 2 (λ z. omega arith), ne_eqb n 3 (λ z. omega arith))

module _ (n : ℕ) (d : Float) where
  pub caller-unnamed : policy_of n ≡ none → caller_policy n d ≡ refused R.Policy
  unfolding caller_policy
  caller-unnamed e = ap (λ (x : Option GdsRoundingPolicy). named x >>= λ p. need (positive d) R.DatabaseUnit >> pure p) e ∙ refused-then R.Policy _

  module _ (p : GdsRoundingPolicy) (e : policy_of n ≡ some p) where
    caller-named : caller_policy n d ≡ need (positive d) R.DatabaseUnit >> pure p
    unfolding caller_policy
    caller-named = ap (λ (x : Option GdsRoundingPolicy). named x >>= λ p. need (positive d) R.DatabaseUnit >> pure p) e ∙ pure_then p _

    pub caller-with : positive d ≡ true → caller_policy n d ≡ pure p
    caller-with h = caller-named ∙ need-on (positive d) R.DatabaseUnit (pure p) h

    pub caller-unit : positive d ≡ false → caller_policy n d ≡ refused R.DatabaseUnit
    caller-unit h = caller-named ∙ need-off (positive d) R.DatabaseUnit (pure p) h

-- the three ways that it goes
pub data Caller (n : ℕ) (d : Float) : Made GdsRoundingPolicy → Type 0 where
  unnamed : policy_of n ≡ none → Caller n d (refused R.Policy)
  no_unit : (p : GdsRoundingPolicy) → policy_of n ≡ some p → (T (positive d) → ⊥) → Caller n d (refused R.DatabaseUnit)
  passes : (p : GdsRoundingPolicy) → policy_of n ≡ some p → T (positive d) → Caller n d (pure p)

pub caller : (n : ℕ) (d : Float) → Caller n d (caller_policy n d)
caller n d = go (policy_of n) refl (positive d) refl
  where
    go : (x : Option GdsRoundingPolicy) → policy_of n ≡ x → (t : Bool) → positive d ≡ t → Caller n d (caller_policy n d)
    go none e t f = rw (caller-unnamed n d e) (unnamed e)
    go (some p) e true f = rw (caller-with n d p e f) (passes p e (rw f tt))
    go (some p) e false f = rw (caller-unit n d p e f) (no_unit p e (λ h. rw f at h))

-- by the code's answer v: what comes of the checks and the step f that follows them
module _ {A : Type 0} (n : ℕ) (d : Float) (f : GdsRoundingPolicy → Made A) (v : Result GdsRoundingPolicy Refusal) (h : made_of v ≡ caller_policy n d) where
  pub caller-refused : (r : Refusal) → v ≡ Err r → refused r ≡ caller_policy n d >>= f
  caller-refused r e = refused-on (caller_policy n d) f r (sym (ap made_of e) ∙ h)

  pub caller-policy : (policy : GdsRoundingPolicy) → v ≡ Ok policy → f policy ≡ caller_policy n d >>= f
  caller-policy policy e = pure-on (caller_policy n d) f policy (sym (ap made_of e) ∙ h)
