-- The pairs, block 0, then the cells in turn (FileLaws). Assumes nothing.
use mathlib.Core.Path.{◌≡◌}
use mathlib.Core.Bool.{false}
use native.Mathlib.Omega.{arith}
use borrow.Author.Rules.{rules}
use lib.Dec.{T}
use lib.Ieee.Bits.{is_true}
use Rattle.std.proofs.lemmas.Result.{err_from_is_err_and}
use Rattle.refusal.specs.declared.Refusal.TheVariants as R
use Rattle.sheet.specs.Blocks.{pairs_fit}
use Rattle.sheet.proofs.CountLaws.{pairs-count}
use Rattle.write_library.proofs.FileLaws.{pairs-stop, head-stop, cells-through}
use Rattle.write_library.proofs.measure_file.Goals as goal

pub returns-in_err-sheet-clause-value : goal.returns-in_err-sheet-clause-value
returns-in_err-sheet-clause-value c =
    let a = c.args in
    let e = err_from_is_err_and c.from_residual.result c.from_residual.ensures.1 in
    let f : pairs_fit a.sheet.now ≡ false = search rules in
    let r : c.in_err-sheet.field-0.0 ≡ R.LibraryForm = search rules in
    rw (e.1, e.2, r) (pairs-stop a.converter.policy a.converter.d a.sheet.now f)

pub block-requires : goal.block-requires
block-requires c =
    let f : T (pairs_fit c.in_ok-sheet.sheet) = search rules in
    let p = (pairs-count c.in_ok-sheet.sheet f).least in
    omega arith

pub returns-in_err-head-clause-value : goal.returns-in_err-head-clause-value
returns-in_err-head-clause-value c =
    let a = c.args in
    let s = c.in_ok-sheet.sheet in
    let f : T (pairs_fit s) = search rules in
    let i : s ≡ a.sheet.now = search rules in
    let e = err_from_is_err_and c.from_residual-in_err-head.result c.from_residual-in_err-head.ensures.1 in
    rw (e.1, e.2, ← i) (head-stop a.converter.policy a.converter.d s (is_true (pairs_fit s) f) c.block.ensures c.in_err-head.field-0.0 c.in_err-head.ensures)

pub returns-clause-value : goal.returns-clause-value
returns-clause-value c =
    let a = c.args in
    let s = c.in_ok-sheet.sheet in
    let f : T (pairs_fit s) = search rules in
    let i : s ≡ a.sheet.now = search rules in
    rw (← i) (cells-through a.converter.policy a.converter.d s (is_true (pairs_fit s) f) c.block.ensures c.in_ok-head.head c.in_ok-head.ensures c.measure_cells.ensures.value)
