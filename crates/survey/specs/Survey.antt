-- What `survey_pitch` promises of its answer, in numbers (document 02, request 12). Assumes nothing.
use Rattle.std.specs.Prelude.{◌≡◌, ℕ, ◌+◌, Float}
use Rattle.survey.specs.Places.{survey_pitch}
use Rattle.survey.specs.Answer.{answer_of, Values, values_of}

pub record SurveysPitch (policy : ℕ) (d pitch : Float) (n : ℕ) (v : Values) : Type 0 where
  -- the answer is the definition's: each count is the number of places for which conversion gives that answer
  pub answer : v ≡ values_of (answer_of (survey_pitch policy d pitch n))
  -- "together they make n"
  pub together : v.number ≡ 0 → v.clean + v.due + v.refused ≡ n
