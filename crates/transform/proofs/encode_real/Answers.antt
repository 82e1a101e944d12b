-- The encoder refuses, or gives a pattern. Assumes nothing.
use Rattle.std.proofs.lemmas.Result.{err_from_is_err_and}
use Rattle.conversion.specs.Made.{◌>>=◌}
use Rattle.gds_format.specs.Real8.{real8}
use Rattle.cell.specs.Write.{encodable, write_real}
use Rattle.transform.proofs.encode_real.Goals as goal

pub returns-in_err-encode : goal.returns-in_err-encode
unfolding write_real encodable real8 ◌>>=◌
returns-in_err-encode c =
    let e = err_from_is_err_and c.from_residual.result c.from_residual.ensures.1 in
    rw (e.1, e.2, ← c.encode.ensures.answer, c.in_err-encode.was, write_real, encodable)

pub returns : goal.returns
unfolding write_real encodable real8 ◌>>=◌
returns c = rw (← c.encode.ensures.answer, c.in_ok-encode.was, write_real, encodable)
