-- `CoordinateConverter::convert_unit` meets its contract: an integer in the unit d passes, a unit that is not positive is refused, and every other coordinate is converted. Assumes nothing.
use mathlib.Core.Path.{◌≡◌, sym, ap, ◌∙◌}
use mathlib.Core.Option.{none}
use lib.Ieee.Positive.{positive}
use mir.Val.{SFits}
use mir.Syntax.{w32}
use mir.ValLaws.{to_z-of_z}
use Rattle.units.specs.Physical.{units_of, physical, passed}
use Rattle.conversion.specs.Convert.{convert_physical}
use Rattle.conversion.proofs.AnswerLaws.{unit-passes, integer-stays, float-stays, by-source, by-positive}
use borrow.Author.Rules.{rules}
use Rattle.conversion.proofs.CoordinateConverter.convert_unit.Goals as goal
use Rattle.conversion.proofs.CoordinateConverter.convert_unit.Goals.{in-Integer+else-units-d, in_default}

pub returns-then-units-d : goal.returns-then-units-d
returns-then-units-d c =
    let a = c.args in
    let f : SFits w32 c.in-Integer.value = search rules in
    λ at. unit-passes a.self.policy a.self.d at a.u c.in-Integer.value _ c.in-Integer.units c.in-Integer.is (to_z-of_z w32 c.in-Integer.value f) c.if-units-d.true

pub returns-then-is_positive : goal.returns-then-is_positive
returns-then-is_positive c =
    let same : c.match-u.u ≡ c.args.u = elim c.match-u.branch [ in-Integer+else-units-d w ↦ w.u-is ∙ sym w.in-Integer.is | in_default w ↦ w.u-is ] in
    let stays : passed c.args.self.d c.args.u ≡ none = let a = c.args in elim c.match-u.branch [ in-Integer+else-units-d w ↦ integer-stays a.self.d a.u w.in-Integer.value w.in-Integer.units w.in-Integer.is w.if-units-d.false | in_default w ↦ float-stays a.self.d a.u w.in_default.field-0 w.in_default.field-1 w.in_default.is ] in
    let units : units_of c.args.u ≡ c.units.result = sym (c.units.ensures ∙ ap units_of same) in
    let a = c.args in
    λ at. c.convert_physical.ensures at
    ∙ ap (convert_physical a.self.policy a.self.d at) (c.absolute_value.ensures ∙ ap physical same)
    ∙ by-positive a.self.policy a.self.d at a.u stays (ap positive units ∙ sym c.is_positive.ensures ∙ c.if-is_positive.true)

pub returns-else-is_positive : goal.returns-else-is_positive
returns-else-is_positive c =
    let stays : passed c.args.self.d c.args.u ≡ none = let a = c.args in elim c.match-u.branch [ in-Integer+else-units-d w ↦ integer-stays a.self.d a.u w.in-Integer.value w.in-Integer.units w.in-Integer.is w.if-units-d.false | in_default w ↦ float-stays a.self.d a.u w.in_default.field-0 w.in_default.field-1 w.in_default.is ] in
    let same : c.match-u.u ≡ c.args.u = elim c.match-u.branch [ in-Integer+else-units-d w ↦ w.u-is ∙ sym w.in-Integer.is | in_default w ↦ w.u-is ] in
    let units : units_of c.args.u ≡ c.units.result = sym (c.units.ensures ∙ ap units_of same) in
    let a = c.args in
    λ at. by-source a.self.policy a.self.d at a.u stays (ap positive units ∙ sym c.is_positive.ensures ∙ c.if-is_positive.false)
