-- `coordinate::put_xy_at` meets its contract: a head, then the point. Assumes nothing.
use mathlib.Core.Path.{refl}
use mathlib.Core.List.{[], ◌∷◌}
use Rattle.conversion.specs.code.Answer.{grid_point_of}
use Rattle.stream.specs.Records.{xy_record}
use Rattle.records.proofs.RecordLaws.{record-at}
use Rattle.coordinate.proofs.put_xy_at.Goals as goal

pub returns : goal.returns
returns c = record-at (xy_record (grid_point_of c.args.p ∷ [])) 12 refl c.put_head_at-a.ensures.wrote c.put_point.ensures
