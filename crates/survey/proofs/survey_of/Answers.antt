-- `survey::survey_of` meets its contract: each check in turn (SurveyLaws). Assumes nothing.
use Rattle.survey.proofs.SurveyLaws.{not-fitting, not_finite, counts-are}
use Rattle.survey.proofs.survey_of.Goals as goal

pub returns-then-not-fits : goal.returns-then-not-fits
returns-then-not-fits c =
    let a = c.args in
    not-fitting a.converter.policy a.converter.d a.pitch a.n (cc)

-- that the number fits is told by what is known there, whichever test stands first
pub returns-then-not-finite : goal.returns-then-not-finite
returns-then-not-finite c =
    let a = c.args in
    not_finite a.converter.policy a.converter.d a.pitch a.n (cc) (cc)

pub returns : goal.returns
returns c =
    let a = c.args in
    counts-are a.converter.policy a.converter.d a.pitch a.n (cc) (cc) _ c.count_places.ensures
