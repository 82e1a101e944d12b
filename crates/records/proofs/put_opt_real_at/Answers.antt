-- The number's bytes are the record's. Assumes nothing.
use Rattle.stream.specs.Records.{real_record}
use Rattle.big_endian.specs.Big.{bytes_of}
use Rattle.records.proofs.RecordLaws.{opt-map}
use Rattle.records.proofs.put_opt_real_at.Goals as goal

pub returns : goal.returns
returns c = rw (opt-map (real_record c.args.code) (bytes_of 8) c.args.pattern) c.put_opt_at.ensures
