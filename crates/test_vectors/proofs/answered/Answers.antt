-- `test_vectors::answered` meets its contract. Assumes nothing.
use Rattle.test_vectors.proofs.CaseLaws.{answered-is}
use Rattle.test_vectors.proofs.answered.Goals as goal

pub returns : goal.returns
returns c =
    answered-is c.args.cases.now
    c.args.at
    c.u32_at-n.result
    c.u32_at-m.result
    c.u8_at-job.result
    c.u8_at-policy.result
    c.put_answer-end.result c.double_at-d.result
    _ _ c.same.result c.u32_at-n.ensures
    c.u32_at-m.ensures
    c.u8_at-job.ensures
    c.u8_at-policy.ensures
    c.double_at-d.ensures
    c.put_answer-end.ensures c.same.ensures.0
    c.same.ensures.1
