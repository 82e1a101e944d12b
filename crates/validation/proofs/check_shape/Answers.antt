-- `check_shape` meets its contract: each way out. Assumes nothing.
use mathlib.Core.Path.{sym, ◌∙◌}
use Rattle.validation.proofs.CheckLaws.{count-stops, counted}
use Rattle.validation.proofs.check_shape.Goals as goal

pub returns-then-not-within : goal.returns-then-not-within
returns-then-not-within c =
    let a = c.args in
    count-stops a.least a.count a.most a.layer a.datatype (sym c.within.ensures ∙ c.if-not-within.true)

pub returns : goal.returns
returns c =
    let a = c.args in
    c.check_layer_and_type.ensures ∙ sym (counted a.least a.count a.most a.layer a.datatype (sym c.within.ensures ∙ c.if-not-within.false))
