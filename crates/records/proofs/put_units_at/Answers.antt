-- A head, then the two reals. Assumes nothing.
use mathlib.Core.Path.{refl}
use Rattle.stream.specs.Library.{units_record}
use Rattle.big_endian.specs.Big.{bytes_of}
use Rattle.big_endian.proofs.BufferLaws.{then_at}
use Rattle.records.proofs.RecordLaws.{record-at}
use Rattle.records.proofs.put_units_at.Goals as goal

pub returns : goal.returns
returns c =
    record-at (units_record (bytes_of 8 c.args.user) (bytes_of 8 c.args.database)) 20 refl c.put_head_at-a.ensures.wrote (then_at c.put_u64_at-b.ensures c.put_u64_at.ensures)
