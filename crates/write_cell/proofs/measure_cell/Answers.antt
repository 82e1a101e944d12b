-- `write_cell::measure_cell` meets its contract: the caller's checks, then the sheet. Assumes nothing.
use mathlib.Core.Path.{sym, ap, ◌∙◌}
use Rattle.std.proofs.lemmas.Result.{err_from_is_err_and}
use Rattle.cell.specs.Answer.{answer_of}
use Rattle.write_cell.proofs.CallLaws.{call-stop, sheet-size, cell-is, measures}
use Rattle.write_cell.proofs.measure_cell.Goals as goal

pub measure_sheet-requires : goal.measure_sheet-requires
measure_sheet-requires c =
    let a = c.args in
    sheet-size a.policy a.d a.sheet.now c.in_ok-policy.ensures

pub returns-in_err-policy : goal.returns-in_err-policy
returns-in_err-policy c =
    let a = c.args in
    let r = c.in_err-policy.field-0.0 in
    let e = err_from_is_err_and c.from_residual.result c.from_residual.ensures.1 in
    rw (e.1, e.2) (measures (ap answer_of (sym (call-stop a.policy a.d a.sheet.now r c.in_err-policy.ensures))))

pub returns : goal.returns
returns c =
    let a = c.args in
    measures (c.measure_sheet.ensures.value ∙ ap answer_of (sym (cell-is a.policy a.d a.sheet.now c.in_ok-policy.ensures)))
