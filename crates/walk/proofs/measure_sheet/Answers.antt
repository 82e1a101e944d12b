-- `walk::measure_sheet` meets its contract: pairs, head, elements, and the sum of their bytes. Assumes nothing.
use mathlib.Core.Path.{◌≡◌}
use mathlib.Core.Bool.{false}
use native.Mathlib.Omega.{arith}
use borrow.Author.Rules.{rules}
use lib.Dec.{T}
use Rattle.refusal.specs.declared.Refusal.TheVariants as R
use Rattle.sheet.specs.Blocks.{pairs_fit}
use Rattle.sheet.proofs.CountLaws.{pairs-count}
use Rattle.std.proofs.lemmas.Result.{err_from_is_err_and}
use Rattle.walk.proofs.SheetLaws.{pairs-stop, head-stop, elements-stop, sheet-through}
use Rattle.walk.proofs.measure_sheet.Goals as goal

pub block-requires : goal.block-requires
block-requires c =
    let f : T (pairs_fit c.in_ok-sheet.sheet) = search rules in
    let p = (pairs-count c.in_ok-sheet.sheet f).least in
    omega arith

pub returns-in_err-sheet-clause-value : goal.returns-in_err-sheet-clause-value
returns-in_err-sheet-clause-value c =
    let e = err_from_is_err_and c.from_residual.result c.from_residual.ensures.1 in
    let f : pairs_fit c.args.sheet.now ≡ false = search rules in
    let g : c.in_err-sheet.field-0.0 ≡ R.Pairs = search rules in
    rw (e.1, e.2, g) (pairs-stop c.args.converter.policy c.args.converter.d c.args.sheet.now f)

pub returns-in_err-front-clause-value : goal.returns-in_err-front-clause-value
returns-in_err-front-clause-value c =
    let p = c.args.converter in
    let s = c.in_ok-sheet.sheet in
    let same : s ≡ c.args.sheet.now = search rules in
    let fit : T (pairs_fit s) = search rules in
    let e = err_from_is_err_and c.from_residual-in_err-front.result c.from_residual-in_err-front.ensures.1 in
    rw (e.1, e.2, ← same) (head-stop p.policy p.d s fit c.block.result.now c.block.ensures c.in_err-front.field-0.0 c.in_err-front.ensures.value)

pub returns-in_err-totals-clause-value : goal.returns-in_err-totals-clause-value
returns-in_err-totals-clause-value c =
    let p = c.args.converter in
    let s = c.in_ok-sheet.sheet in
    let same : s ≡ c.args.sheet.now = search rules in
    let fit : T (pairs_fit s) = search rules in
    let e = err_from_is_err_and c.from_residual-in_err-totals.result c.from_residual-in_err-totals.ensures.1 in
    rw (e.1, e.2, ← same) (elements-stop p.policy p.d s fit c.block.result.now c.block.ensures c.in_ok-front.front c.in_ok-front.ensures.value c.in_err-totals.field-0.0 c.in_err-totals.ensures.value)

pub returns-clause-value : goal.returns-clause-value
returns-clause-value c =
    let p = c.args.converter in
    let s = c.in_ok-sheet.sheet in
    let same : s ≡ c.args.sheet.now = search rules in
    let fit : T (pairs_fit s) = search rules in
    rw (← same) (sheet-through p.policy p.d s fit c.block.result.now c.block.ensures c.in_ok-front.front c.in_ok-front.ensures.value c.in_ok-totals.totals c.in_ok-totals.ensures.value)
