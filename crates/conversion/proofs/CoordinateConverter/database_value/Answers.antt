-- `CoordinateConverter::database_value` meets its contract: where p is not finite the quotient is not either. Assumes nothing.
use mathlib.Core.Path.{◌≡◌, sym, ◌∙◌}
use mathlib.Core.Bool.{true}
use lib.Ieee.{binary64, div}
use lib.Ieee.Scale.{finite}
use Rattle.conversion.proofs.AnswerLaws.{value-finite, value-infinite}
use Rattle.conversion.proofs.CoordinateConverter.database_value.Goals as goal

pub returns-then-is_finite : goal.returns-then-is_finite
returns-then-is_finite c =
    let is_finite : finite (div binary64 c.args.p c.args.self.d) ≡ true = sym c.is_finite.ensures ∙ c.if-is_finite.true in
    let a = c.args in c.grid_value.ensures ∙ value-finite a.self.policy a.self.d a.p is_finite

pub returns-else-is_finite : goal.returns-else-is_finite
returns-else-is_finite c = let a = c.args in value-infinite a.self.policy a.self.d a.p (sym c.is_finite.ensures ∙ c.if-is_finite.false)
