-- `test_bytes::put_number` meets its contract. Assumes nothing.
use Rattle.big_endian.proofs.BufferLaws.{then_at}
use Rattle.test_bytes.proofs.put_number.Goals as goal

pub returns : goal.returns
returns c = then_at c.put_u8_at-at.ensures c.put_u8_at.ensures
