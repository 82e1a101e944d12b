-- `bounds::convert_bounds` meets its contract: the caller's checks, then the range. Assumes nothing.
use mathlib.Core.Path.{sym, ap, ◌∙◌, subst}
use lib.Dec.{T}
use lib.Ieee.{Float}
use Rattle.std.proofs.lemmas.Result.{err_from_is_err_and}
use Rattle.bounds.specs.Range.{range_of}
use Rattle.bounds.specs.Answer.{answer_of}
use Rattle.bounds.proofs.BoundsLaws.{caller-stop, caller-on, converts}
use Rattle.bounds.proofs.convert_bounds.Goals as goal

-- d and the two ends are doubles, so the definition's answer keeps the promise
pub returns-in_err-converter : goal.returns-in_err-converter
returns-in_err-converter c =
    let a = c.args in
    let e = err_from_is_err_and c.from_residual.result c.from_residual.ensures.1 in
    converts a.policy a.d a.lower a.upper (subst T (sym c.well_formed.1.0.1) tt) (subst T (sym c.well_formed.1.1.0.1) tt) (subst T (sym c.well_formed.1.1.1.0.1) tt) _
    (cc (e.1, e.2, caller-stop a.policy a.d a.lower a.upper c.in_err-converter.field-0.0 c.in_err-converter.ensures.policy))

pub returns : goal.returns
returns c =
    let a = c.args in
    let v = c.in_ok-converter.converter in
    converts a.policy a.d a.lower a.upper (subst T (sym c.well_formed.1.0.1) tt) (subst T (sym c.well_formed.1.1.0.1) tt) (subst T (sym c.well_formed.1.1.1.0.1) tt) _
    (c.range_of.ensures ∙ ap (λ (d : Float). answer_of (range_of v.policy d a.lower a.upper)) c.in_ok-converter.ensures.unit ∙ caller-on a.policy a.d a.lower a.upper v.policy c.in_ok-converter.ensures.policy)
