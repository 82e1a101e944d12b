-- The caller's checks, then what follows them (CallLaws, CellLaws). Assumes nothing.
use borrow.Author.Rules.{rules}
use Rattle.std.proofs.lemmas.Result.{err_from_is_err_and}
use Rattle.big_endian.specs.Big.{Bytes}
use Rattle.write_cell.proofs.CallLaws.{call-stop, sheet-size, cell-is}
use Rattle.write_cell.proofs.CellLaws.{cell-refused, cell-written}
use Rattle.write_cell.proofs.write_cell.Goals as goal

pub write_sheet-requires : goal.write_sheet-requires
write_sheet-requires c =
    let a = c.args in
    sheet-size a.policy a.d a.sheet.now c.in_ok-policy.ensures

pub returns-in_err-policy : goal.returns-in_err-policy
returns-in_err-policy c =
    let a = c.args in
    let sheet-bytes : Bytes a.sheet.now = λ i. let f = c.type_inv.sheet i in search rules in
    let e = err_from_is_err_and c.from_residual.result c.from_residual.ensures.1 in
    rw (e.1, e.2) (cell-refused a.out.now a.report.now c.well_formed.1.0.1 sheet-bytes (call-stop a.policy a.d a.sheet.now c.in_err-policy.field-0.0 c.in_err-policy.ensures))

pub returns : goal.returns
returns c =
    let a = c.args in
    let sheet-bytes : Bytes a.sheet.now = λ i. let f = c.type_inv.sheet i in search rules in
    cell-written a.out.now a.report.now c.well_formed.1.0.1 sheet-bytes (cell-is a.policy a.d a.sheet.now c.in_ok-policy.ensures) c.write_sheet.ensures
