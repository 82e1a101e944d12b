-- A head, and no data. Assumes nothing.
use Rattle.records.proofs.RecordLaws.{empty-at}
use Rattle.records.proofs.put_empty_at.Goals as goal

pub returns : goal.returns
returns c = empty-at c.args.code c.put_head_at.ensures.wrote
