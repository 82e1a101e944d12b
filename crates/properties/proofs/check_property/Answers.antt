-- Each way out. Assumes nothing.
use mathlib.Core.Path.{◌≡◌, sym, ◌∙◌}
use mathlib.Core.Bool.{true}
use borrow.Author.Tests.{lt-leb, le-leb}
use Rattle.refusal.specs.declared.Refusal.TheVariants as R
use Rattle.cell.specs.Limits.{within, min_attribute, max_attribute}
use Rattle.cell.specs.Write.{attribute_and_length}
use Rattle.conversion.proofs.MadeLaws.{first_stops, second-stops, both-pass}
use Rattle.properties.proofs.check_property.Goals as goal

pub returns-then-not-admitted : goal.returns-then-not-admitted
unfolding attribute_and_length
returns-then-not-admitted c = first_stops _ _ R.Attribute R.StringLength (sym c.within-admitted.ensures ∙ c.if-not-admitted.true)

-- that the attribute has passed is told by what is known there, whichever test stands first
pub returns-then-not-short : goal.returns-then-not-short
unfolding attribute_and_length
returns-then-not-short c =
    let admitted : within min_attribute c.args.attribute max_attribute ≡ true = cc in
    second-stops _ _ R.Attribute R.StringLength admitted (lt-leb _ _ c.if-not-short.true)

pub returns : goal.returns
unfolding attribute_and_length
returns c = both-pass _ _ R.Attribute R.StringLength (sym c.within-admitted.ensures ∙ c.if-not-admitted.false) (le-leb _ _ c.if-not-short.false)
