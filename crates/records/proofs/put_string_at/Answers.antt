-- A head, the string, and after an odd one a zero byte. Assumes nothing.
use Rattle.records.proofs.RecordLaws.{string-even, string-odd}
use Rattle.records.proofs.put_string_at.Goals as goal

pub returns-then-n-eq0 : goal.returns-then-n-eq0
returns-then-n-eq0 c =
    string-even c.args.code c.args.s.now c.if-n-eq0.true c.put_head_at-a.ensures.wrote c.put_bytes_at-b.ensures.wrote

pub returns : goal.returns
returns c =
    string-odd c.args.code c.args.s.now c.if-n-eq0.false c.put_head_at-a.ensures.wrote c.put_bytes_at-b.ensures.wrote c.put_u8_at.ensures
