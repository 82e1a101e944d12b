-- `Entry::put_place` meets its contract: six numbers in a row. Assumes nothing.
use Rattle.big_endian.proofs.BufferLaws.{then_at}
use Rattle.conversion.proofs.Entry.put_place.Goals as goal

pub returns : goal.returns
returns c =
    then_at (then_at (then_at (then_at (then_at c.put_u32_at-a.ensures c.put_u8_at-b.ensures) c.put_u8_at-c.ensures) c.put_u8_at-d.ensures) c.put_u16_at-e.ensures) c.put_u32_at.ensures
