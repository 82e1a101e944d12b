-- `test_bytes::put_refused` meets its contract. Assumes nothing.
use Rattle.big_endian.proofs.BufferLaws.{then_at}
use Rattle.test_bytes.specs.Bytes.{refused_bytes}
use Rattle.test_bytes.proofs.put_refused.Goals as goal

pub returns : goal.returns
unfolding refused_bytes
returns c = then_at c.put_number-at.ensures c.put_place.ensures
