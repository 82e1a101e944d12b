-- `reference::put_corners_at` meets its contract: a head, then three points. Assumes nothing.
use Rattle.reference.proofs.RecordLaws.{corners-placed}
use Rattle.reference.proofs.put_corners_at.Goals as goal

pub returns : goal.returns
returns c = corners-placed c.args.c c.put_head_at-a.ensures.wrote c.put_point-a0.ensures c.put_point-a1.ensures c.put_point.ensures
