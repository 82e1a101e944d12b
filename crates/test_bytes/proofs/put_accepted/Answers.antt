-- `test_bytes::put_accepted` meets its contract: the front, the bytes, the entries. Assumes nothing.
use Rattle.big_endian.proofs.BufferLaws.{then_at}
use Rattle.test_bytes.proofs.put_accepted.Goals as goal

pub returns : goal.returns
returns c =
    then_at (then_at c.put_front-a.ensures.wrote c.put_bytes_at-b.ensures.wrote) c.put_bytes_at.ensures.wrote
