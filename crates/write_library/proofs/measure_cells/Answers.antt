-- `write_library::measure_cells` meets its contract. Assumes nothing.
use mathlib.Core.Path.{sym, ap, ◌∙◌}
use Prim.Native.Nat.{◌+◌}
use native.Mathlib.Omega.{arith}
use lib.ListN.{length}
use borrow.Author.Rules.{rules}
use Rattle.std.proofs.lemmas.Result.{err_from_is_err_and}
use Rattle.conversion.proofs.DeviationLaws.{zero_is}
use Rattle.sheet.proofs.CountLaws.{block_within}
use Rattle.write_library.proofs.CellsLaws.{InCell, told-small, left, left-start, left-stop, left-turn, left_end}
use Rattle.write_library.proofs.measure_cells.Goals as goal

pub measure_sheet-requires : goal.measure_sheet-requires
measure_sheet-requires c =
    let l = block_within c.args.sheet.now (c.loop-cell.cell-counter + 1) in
    let e = ap length c.block.ensures in
    let p = c.requires.sheet_len_bound in
    omega arith

pub returns-in_err-told-clause-value : goal.returns-in_err-told-clause-value
returns-in_err-told-clause-value c =
    let l = c.loop-cell in
    let a = c.args in
    let i : InCell l.cell-counter c.measure_sheet.result c.map_err.result = search rules in
    let e = err_from_is_err_and c.from_residual.result c.from_residual.ensures.1 in
    rw (e.1, e.2) (sym (l.invariant.rest ∙ left-stop a.converter.policy a.converter.d a.sheet.now c.cell_count-cells.result l.cell-counter l.length l.entries l.greatest c.loop-cell-test.true c.block.ensures c.measure_sheet.ensures.value i c.in_err-told.was))

pub overflow_add-length : goal.overflow_add-length
overflow_add-length c =
    let p = c.cell_count-cells.ensures.few in
    let h = c.loop-cell-test.true in
    let o = c.loop-cell.invariant.small in
    let i : InCell c.loop-cell.cell-counter c.measure_sheet.result c.map_err.result = search rules in
    let q = (told-small c.loop-cell.cell-counter c.measure_sheet.result i c.in_ok-told.was c.measure_sheet.ensures.answer_small).0 in
    record { fits = omega arith }

pub overflow_add-entries : goal.overflow_add-entries
overflow_add-entries c =
    let p = c.cell_count-cells.ensures.few in
    let h = c.loop-cell-test.true in
    let o = c.loop-cell.invariant.few in
    let i : InCell c.loop-cell.cell-counter c.measure_sheet.result c.map_err.result = search rules in
    let q = (told-small c.loop-cell.cell-counter c.measure_sheet.result i c.in_ok-told.was c.measure_sheet.ensures.answer_small).1 in
    record { fits = omega arith }

pub loop-cell-init : goal.loop-cell-init
loop-cell-init c =
    let a = c.args in
    let f = c.requires.front_le_max_front_length in
    let m = c.cell_count-cells.result in
    record {
      small = omega arith;
      few = omega arith;
      rest = left-start a.converter.policy a.converter.d a.sheet.now m a.front c.cell_count-cells.ensures.value
          ∙ ap (left a.converter.policy a.converter.d a.sheet.now m 0 a.front 0) (sym zero_is);
    }

pub loop-cell-preserved : goal.loop-cell-preserved
loop-cell-preserved c =
    let l = c.loop-cell in
    let v = l.invariant in
    let a = c.args in
    let m = c.cell_count-cells.result in
    let t = c.in_ok-told.told in
    let i : InCell l.cell-counter c.measure_sheet.result c.map_err.result = search rules in
    let q = told-small l.cell-counter c.measure_sheet.result i c.in_ok-told.was c.measure_sheet.ensures.answer_small in
    let small = v.small in
    let few = v.few in
    let longest = q.0 in
    let most-told = q.1 in
    record {
      small = omega arith;
      few = omega arith;
      rest = v.rest
          ∙ left-turn a.converter.policy a.converter.d a.sheet.now m l.cell-counter l.length l.entries l.greatest c.loop-cell-test.true c.block.ensures c.measure_sheet.ensures.value i c.in_ok-told.was
          ∙ ap (left a.converter.policy a.converter.d a.sheet.now m (l.cell-counter + 1) (l.length + t.length) (l.entries + t.entries)) (sym c.larger-greatest.ensures);
    }

pub returns-clause-value : goal.returns-clause-value
returns-clause-value c =
    let l = c.loop-cell in
    let a = c.args in
    sym (l.invariant.rest ∙ left_end a.converter.policy a.converter.d a.sheet.now c.cell_count-cells.result l.cell-counter l.length l.entries l.greatest c.loop-cell-test.false)
