-- Measured first; then a refusal with nothing written, or the file and its report (LibraryLaws). Assumes nothing.
use native.Mathlib.Omega.{arith}
use Rattle.std.proofs.lemmas.Result.{err_from_is_err_and}
use Rattle.write_library.proofs.LibraryLaws.{measured, file-fits, file-refused, output-short, report-short, file-written}
use Rattle.write_library.proofs.write_file.Goals as goal

pub returns-in_err-accepted : goal.returns-in_err-accepted
returns-in_err-accepted c =
    let e = err_from_is_err_and c.from_residual.result c.from_residual.ensures.1 in
    rw (e.1, e.2) (file-refused c.args.out.now c.args.report.now c.in_err-accepted.field-0.0 c.in_err-accepted.ensures.value)

pub returns-then-out-accepted : goal.returns-then-out-accepted
returns-then-out-accepted c =
    rw c.into.ensures (output-short c.args.out.now c.args.report.now (measured _ _ _ c.in_ok-accepted.accepted c.in_ok-accepted.ensures.value) (omega arith))

pub returns-then-report-accepted : goal.returns-then-report-accepted
returns-then-report-accepted c =
    rw c.into-then-report-accepted.ensures (report-short c.args.out.now c.args.report.now (measured _ _ _ c.in_ok-accepted.accepted c.in_ok-accepted.ensures.value) (omega arith) (omega arith))

pub put_file-requires : goal.put_file-requires
put_file-requires c = file-fits (measured _ _ _ c.in_ok-accepted.accepted c.in_ok-accepted.ensures.value) (omega arith) (omega arith)

pub returns : goal.returns
returns c =
    file-written c.args.out.now c.args.report.now (measured _ _ _ c.in_ok-accepted.accepted c.in_ok-accepted.ensures.value) (omega arith) (omega arith) c.put_file.ensures
