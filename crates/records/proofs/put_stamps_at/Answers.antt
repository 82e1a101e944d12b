-- A head, then the numbers' bytes. Assumes nothing.
use native.Mathlib.Omega.{arith}
use Rattle.records.specs.code.Bytes.{stamped}
use Rattle.records.proofs.RecordLaws.{record-at}
use Rattle.records.proofs.put_stamps_at.Goals as goal

pub returns : goal.returns
returns c =
    record-at (stamped c.args.code c.args.stamps.now) 28 (omega arith) c.put_head_at-a.ensures.wrote c.put_bytes_at.ensures.wrote
