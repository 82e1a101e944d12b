-- The caller's checks, then what follows them (CallLaws, LibraryLaws). Assumes nothing.
use native.Mathlib.Omega.{arith}
use Rattle.std.proofs.lemmas.Result.{err_from_is_err_and}
use Rattle.big_endian.specs.Big.{Bytes}
use Rattle.write_library.proofs.CallLaws.{call-stop, sheet-size, library-is}
use Rattle.write_library.proofs.LibraryLaws.{library-refused, library-written}
use Rattle.write_library.proofs.write_library.Goals as goal

pub write_file-requires : goal.write_file-requires
write_file-requires c = sheet-size _ _ _ c.in_ok-policy.ensures

pub returns-in_err-policy : goal.returns-in_err-policy
returns-in_err-policy c =
    let sheet-bytes : Bytes c.args.sheet.now = λ i. omega (arith, c.shared_slice_known-1.given i) in
    let a = c.args in
    let e = err_from_is_err_and c.from_residual.result c.from_residual.ensures.1 in
    rw (e.1, e.2) (library-refused a.out.now a.report.now c.well_formed.1.0.1 sheet-bytes (call-stop _ _ _ c.in_err-policy.ensures))

pub returns : goal.returns
returns c =
    let sheet-bytes : Bytes c.args.sheet.now = λ i. omega (arith, c.shared_slice_known-1.given i) in
    let a = c.args in
    library-written a.out.now a.report.now c.well_formed.1.0.1 sheet-bytes (library-is _ _ _ c.in_ok-policy.ensures) c.write_file.ensures
