-- A head, then the two numbers. Assumes nothing.
use mathlib.Core.Path.{refl}
use Rattle.stream.specs.Records.{colrow_record}
use Rattle.big_endian.proofs.BufferLaws.{then_at}
use Rattle.records.proofs.RecordLaws.{record-at}
use Rattle.records.proofs.put_colrow_at.Goals as goal

pub returns : goal.returns
returns c =
    record-at (colrow_record c.args.columns c.args.rows) 8 refl c.put_head_at-a.ensures.wrote (then_at c.put_u16_at-b.ensures c.put_u16_at.ensures)
