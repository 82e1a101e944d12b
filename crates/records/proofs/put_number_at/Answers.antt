-- A head, then the number. Assumes nothing.
use mathlib.Core.Path.{◌∙◌}
use native.Mathlib.Omega.{arith}
use Rattle.records.specs.code.Bytes.{record_of}
use Rattle.records.proofs.RecordLaws.{record-at}
use Rattle.records.proofs.put_number_at.Goals as goal

pub put_head_at-a-requires : goal.put_head_at-a-requires
put_head_at-a-requires g c = omega (arith, g.met.N.Number.record_length c.args.v)

pub returns : goal.returns
returns g c =
    rw (← c.RECORD.ensures)
    (record-at (record_of c.args.code c.args.data_type (g.N.Number.bytes c.args.v)) c.RECORD.result (c.RECORD.ensures ∙ g.met.N.Number.record_length c.args.v) c.put_head_at-a.ensures.wrote c.put_at.ensures)
