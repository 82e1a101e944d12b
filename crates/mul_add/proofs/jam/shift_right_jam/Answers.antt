-- `shift_right_jam` meets its contract. Assumes nothing.
use mathlib.Core.Path.{◌∙◌}
use Rattle.mul_add.proofs.WideLaws.{jam-shifts, jam-all}
use Rattle.mul_add.proofs.jam.shift_right_jam.Goals as goal

pub returns-then-d : goal.returns-then-d
returns-then-d c = c.stick.ensures ∙ jam-shifts c.args.n c.args.d c.ranges.n.fits

pub returns-else-d : goal.returns-else-d
returns-else-d c = jam-all c.args.n c.args.d c.requires c.ranges.n.fits c.if-d.false
