-- `forms::given` meets its contract where the coordinate is absent. Assumes nothing.
use mathlib.Core.Path.{sym, ◌∙◌}
use Rattle.forms.proofs.CoordinateLaws.{given-absent}
use Rattle.forms.proofs.given.Goals as goal

pub returns-else-not-is_absent : goal.returns-else-not-is_absent
returns-else-not-is_absent c =
    rw c.if-not-is_absent.false (given-absent c.args.b.now c.args.at c.requires (sym c.is_absent.ensures ∙ c.if-not-is_absent.false))
