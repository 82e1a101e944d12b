-- Measured first; then a refusal with nothing written, or the structure and its report (CellLaws). Assumes nothing.
use mathlib.Core.Path.{◌≡◌}
use native.Mathlib.Omega.{arith}
use borrow.Author.Rules.{rules}
use Rattle.std.specs.Prelude.{Err}
use Rattle.std.proofs.lemmas.Result.{err_from_is_err_and}
use Rattle.cell.specs.Cell as Cell
use Rattle.cell.specs.Answer.{answer_of}
use Rattle.write_cell.proofs.CellLaws.{measured, structure-fits, sheet-refused, output-short, report-short, sheet-written}
use Rattle.write_cell.proofs.write_sheet.Goals as goal

pub returns-in_err-accepted : goal.returns-in_err-accepted
returns-in_err-accepted c =
    let a = c.args in
    let e = err_from_is_err_and c.from_residual.result c.from_residual.ensures.1 in
    let told : Err c.in_err-accepted.field-0.0 ≡ answer_of (Cell.write_sheet a.converter.policy a.converter.d a.sheet.now) = search rules in
    rw (e.1, e.2) (sheet-refused a.out.now a.report.now c.in_err-accepted.field-0.0 told)

-- that the output is long enough is told by what is known there, whichever test stands first
pub returns-then-report-size : goal.returns-then-report-size
returns-then-report-size c =
    let a = c.args in
    let m = measured a.converter.policy a.converter.d a.sheet.now c.in_ok-accepted.accepted (search rules) in
    report-short a.out.now a.report.now m (omega arith) c.if-report-size.true (search rules)

pub returns-then-out-accepted : goal.returns-then-out-accepted
returns-then-out-accepted c =
    let a = c.args in
    let m = measured a.converter.policy a.converter.d a.sheet.now c.in_ok-accepted.accepted (search rules) in
    output-short a.out.now a.report.now m c.if-out-accepted.true (search rules)

pub put_structure-requires : goal.put_structure-requires
put_structure-requires c =
    let a = c.args in
    structure-fits (measured a.converter.policy a.converter.d a.sheet.now c.in_ok-accepted.accepted (search rules)) c.if-out-accepted.false c.if-report-size.false

pub returns : goal.returns
returns c =
    let a = c.args in
    let m = measured a.converter.policy a.converter.d a.sheet.now c.in_ok-accepted.accepted (search rules) in
    sheet-written a.out.now a.report.now m c.if-out-accepted.false c.if-report-size.false c.put_structure.ensures
