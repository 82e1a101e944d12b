-- Each way out of the code is the definition's, and the counts of a survey make n. Assumes nothing.
use mathlib.Core.Path.{◌≡◌, refl, sym, ap, ◌∙◌}
use mathlib.Core.Bool.{true, false}
use Prim.Native.Nat.{ℕ, ◌+◌}
use native.Mathlib.Omega.{arith}
use Rattle.std.specs.Prelude.{Result, Ok, Err}
use lib.Ieee.{Float}
use lib.Ieee.Scale.{finite}
use Rattle.refusal.specs.declared.Refusal.{Refusal}
use Rattle.refusal.specs.declared.Refusal.TheVariants as R
use Rattle.refusal.proofs.NumberLaws.{number-above}
use Rattle.conversion.specs.declared.GdsRoundingPolicy.{GdsRoundingPolicy}
use Rattle.conversion.specs.Made.{Made, refused, made, pure}
use Rattle.conversion.specs.Policy.{caller_policy}
use Rattle.conversion.proofs.MadeLaws.{Yields, made_yields, steps, checked, need-on, need-off, refused-on, pure-on}
use Rattle.survey.specs.declared.Counts.{Counts}
use Rattle.survey.specs.Places.{counted, places_fit, survey_of, survey_pitch}
use Rattle.survey.specs.Answer.{answer_of, values_of}
use Rattle.survey.specs.Survey.{SurveysPitch}
use Rattle.survey.proofs.PlaceLaws.{together}

-- ---- the number of places, then the pitch

module _ (policy : GdsRoundingPolicy) (d pitch : Float) (n : ℕ) where
  pub not-fitting : places_fit n ≡ false → Err R.SurveyCount ≡ answer_of (survey_of policy d pitch n)
  unfolding survey_of
  not-fitting h = sym (ap answer_of (need-off (places_fit n) R.SurveyCount _ h))

  module _ (f : places_fit n ≡ true) where
    pub not_finite : finite pitch ≡ false → Err R.NotFinite ≡ answer_of (survey_of policy d pitch n)
    unfolding survey_of
    not_finite h = sym (ap answer_of (need-on (places_fit n) R.SurveyCount _ f ∙ need-off (finite pitch) R.NotFinite _ h))

    pub counts-are : finite pitch ≡ true → (k : Counts) → k ≡ counted policy d pitch n → Ok k ≡ answer_of (survey_of policy d pitch n)
    unfolding survey_of
    counts-are h k e = ap Ok e ∙ sym (ap answer_of (need-on (places_fit n) R.SurveyCount _ f ∙ need-on (finite pitch) R.NotFinite _ h))

-- ---- the caller's checks before them

module _ (m : ℕ) (d pitch : Float) (n : ℕ) where
  pub caller-stop : (r : Refusal) → refused r ≡ caller_policy m d → Err r ≡ answer_of (survey_pitch m d pitch n)
  unfolding survey_pitch
  caller-stop r h = ap answer_of (refused-on (caller_policy m d) (λ p. survey_of p d pitch n) r h)

  pub caller-on : (p : GdsRoundingPolicy) → pure p ≡ caller_policy m d → answer_of (survey_of p d pitch n) ≡ answer_of (survey_pitch m d pitch n)
  unfolding survey_pitch
  caller-on p h = ap answer_of (pure-on (caller_policy m d) (λ p. survey_of p d pitch n) p h)

  -- ---- the promise

  sum-at : (k : Counts) → Yields (survey_pitch m d pitch n) k → k.clean + k.due + k.refused ≡ n
  unfolding survey_pitch survey_of
  sum-at k y =
      let s = steps y in
      let c = checked _ (checked {t = places_fit n} R.SurveyCount s.then).then in
      let e : counted s.value d pitch n ≡ k = made_yields c.then in
      rw e at (together s.value d pitch n)

  sum_by : (x : Made Counts) → survey_pitch m d pitch n ≡ x → (values_of (answer_of x)).number ≡ 0 → (values_of (answer_of x)).clean + (values_of (answer_of x)).due + (values_of (answer_of x)).refused ≡ n
  sum_by (refused r) e z = let h = number-above r in absurd (omega arith)
  sum_by (made k vs) e z = sum-at k (record { log = vs; is = e })

  pub surveys : (a : Result Counts Refusal) → a ≡ answer_of (survey_pitch m d pitch n) → SurveysPitch m d pitch n (values_of a)
  surveys a e = record { answer = ap values_of e; together = rw e (sum_by (survey_pitch m d pitch n) refl) }
