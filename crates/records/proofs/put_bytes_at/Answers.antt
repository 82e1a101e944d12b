-- Bytes as they are. Assumes nothing.
use mathlib.Core.Path.{refl}
use Rattle.records.proofs.RecordLaws.{placed}
use Rattle.records.proofs.put_bytes_at.Goals as goal

pub returns : goal.returns
returns c = placed c.put_bytes_at.ensures refl
