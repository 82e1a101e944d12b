-- `write_library::measure_library` meets its contract: the caller's checks, then the library. Assumes nothing.
use mathlib.Core.Path.{sym, ap, ◌∙◌}
use Rattle.std.proofs.lemmas.Result.{err_from_is_err_and}
use Rattle.library.specs.Answer.{answer_of}
use Rattle.write_library.proofs.CallLaws.{call-stop, sheet-size, library-is, measures}
use Rattle.write_library.proofs.measure_library.Goals as goal

pub measure_file-requires : goal.measure_file-requires
measure_file-requires c = sheet-size _ _ _ c.in_ok-policy.ensures

pub returns-in_err-policy : goal.returns-in_err-policy
returns-in_err-policy c =
    let e = err_from_is_err_and c.from_residual.result c.from_residual.ensures.1 in
    measures (rw (e.1, e.2) (ap answer_of (sym (call-stop _ _ _ c.in_err-policy.ensures))))

pub returns : goal.returns
returns c = measures (c.measure_file.ensures.value ∙ ap answer_of (sym (library-is _ _ _ c.in_ok-policy.ensures)))
