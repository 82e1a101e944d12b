-- `check_call` meets its contract: 1 and 2, then 3. Assumes nothing.
use mathlib.Core.Path.{sym, ◌∙◌}
use Rattle.conversion.proofs.CodeLaws.{handed-on}
use Rattle.cell.proofs.CallLaws.{call-refused, call_long, call-with}
use Rattle.validation.proofs.check_call.Goals as goal

pub returns-in_err-rounding : goal.returns-in_err-rounding
returns-in_err-rounding c =
    let a = c.args in
    let r = c.in_err-rounding.field-0.0 in
    handed-on r c.from_residual.result c.from_residual.ensures.1 ∙ sym (call-refused a.policy a.d a.sheet.now r (sym c.in_err-rounding.ensures))

pub returns-then-sheet-gt-MAX_SHEET_LENGTH : goal.returns-then-sheet-gt-MAX_SHEET_LENGTH
returns-then-sheet-gt-MAX_SHEET_LENGTH c =
    let a = c.args in
    sym (call_long a.policy a.d a.sheet.now c.in_ok-rounding.rounding (sym c.in_ok-rounding.ensures) c.if-sheet-gt-MAX_SHEET_LENGTH.true)

pub returns : goal.returns
returns c =
    let a = c.args in
    sym (call-with a.policy a.d a.sheet.now c.in_ok-rounding.rounding (sym c.in_ok-rounding.ensures) c.if-sheet-gt-MAX_SHEET_LENGTH.false)
