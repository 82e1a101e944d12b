-- `path::put_extent` meets its contract. Assumes nothing.
use Rattle.path.proofs.LengthLaws.{extent_at}
use Rattle.path.proofs.put_extent.Goals as goal

pub returns : goal.returns
returns c =
    extent_at c.args.extent
    c.put_opt_long_at-a1.ensures
    c.put_opt_long_at-a2.ensures
    c.put_opt_long_at.ensures
