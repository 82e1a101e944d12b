-- `test_bytes::put_front` meets its contract. Assumes nothing.
use Rattle.big_endian.proofs.BufferLaws.{then_at, same_bytes}
use Rattle.test_bytes.proofs.BytesLaws.{front-is, front_length}
use Rattle.records.proofs.RecordLaws.{placed}
use Rattle.test_bytes.proofs.put_front.Goals as goal

pub returns : goal.returns
returns c =
    placed (same_bytes (front-is c.args.size c.args.entries c.to_bits.result c.args.greatest c.to_bits.ensures) (then_at c.put_u8_at-a.ensures (then_at c.put_u32_at-b.ensures (then_at c.put_u32_at-c.ensures c.put_u64_at.ensures))))
    (front_length c.args.size c.args.entries c.args.greatest)
