-- `test_bytes::put_library_refused` meets its contract. Assumes nothing.
use Rattle.big_endian.proofs.BufferLaws.{then_at}
use Rattle.test_bytes.specs.Bytes.{library_refused_bytes}
use Rattle.test_bytes.proofs.put_library_refused.Goals as goal

pub returns : goal.returns
unfolding library_refused_bytes
returns c = then_at c.put_number-a.ensures (then_at c.put_place-b.ensures c.put_place.ensures)
