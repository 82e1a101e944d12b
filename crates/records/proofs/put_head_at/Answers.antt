-- Three numbers in a row. Assumes nothing.
use mathlib.Core.Path.{refl}
use Rattle.big_endian.proofs.BufferLaws.{then_at, same_bytes}
use Rattle.records.proofs.RecordLaws.{placed, byte-is}
use Rattle.records.proofs.put_head_at.Goals as goal

pub returns : goal.returns
returns c =
    placed
    (then_at c.put_u16_at-a.ensures
    (then_at (same_bytes (byte-is c.args.code c.ranges.code.fits) c.put_u8_at-b.ensures)
    (same_bytes (byte-is c.args.data_type c.ranges.data_type.fits) c.put_u8_at.ensures)))
    refl
