-- `survey::survey_pitch` meets its contract: the caller's checks, then the survey. Assumes nothing.
use mathlib.Core.Path.{ap, ◌∙◌}
use lib.Ieee.{Float}
use Rattle.std.proofs.lemmas.Result.{err_from_is_err_and}
use Rattle.survey.specs.Places.{survey_of}
use Rattle.survey.specs.Answer.{answer_of}
use Rattle.survey.proofs.SurveyLaws.{caller-stop, caller-on, surveys}
use Rattle.survey.proofs.survey_pitch.Goals as goal

pub returns-in_err-converter : goal.returns-in_err-converter
returns-in_err-converter c =
    let a = c.args in
    let e = err_from_is_err_and c.from_residual.result c.from_residual.ensures.1 in
    surveys a.policy a.d a.pitch a.n _ (cc (e.1, e.2, caller-stop a.policy a.d a.pitch a.n c.in_err-converter.field-0.0 c.in_err-converter.ensures.policy))

pub returns : goal.returns
returns c =
    let a = c.args in
    let v = c.in_ok-converter.converter in
    surveys a.policy a.d a.pitch a.n _ (c.survey_of.ensures ∙ ap (λ (d : Float). answer_of (survey_of v.policy d a.pitch a.n)) c.in_ok-converter.ensures.unit ∙ caller-on a.policy a.d a.pitch a.n v.policy c.in_ok-converter.ensures.policy)
