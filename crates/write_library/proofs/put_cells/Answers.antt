-- Every cell in turn: what is left stands at the places reached (PutLaws). Assumes nothing.
use native.Mathlib.Omega.{arith}
use Rattle.write_library.proofs.PutLaws.{turns-start, turns-end, out-same, report-same, turn-place, turn-report, turn-fits, turn_end, turn-noted, turn-next}
use Rattle.write_library.proofs.put_cells.Goals as goal

pub loop-cell-init : goal.loop-cell-init
loop-cell-init c = turns-start c.cell_count-cells.ensures.few c.cell_count-cells.ensures.value c.requires

pub slice_bounds-put_cell-count : goal.slice_bounds-put_cell-count
slice_bounds-put_cell-count c = turn-place c.loop-cell.invariant c.loop-cell-test.true c.block-b.ensures

pub slice_bounds-put_cell-count-in-loop-cell : goal.slice_bounds-put_cell-count-in-loop-cell
slice_bounds-put_cell-count-in-loop-cell c = turn-report c.loop-cell.invariant c.loop-cell-test.true c.block-b.ensures

pub put_cell-ends-requires : goal.put_cell-ends-requires
put_cell-ends-requires c = turn-fits c.loop-cell.invariant c.loop-cell-test.true c.block-b.ensures

pub overflow_add-to : goal.overflow_add-to
overflow_add-to c =
    let v = c.loop-cell.invariant in
    let e = turn_end v c.loop-cell-test.true c.block-b.ensures c.put_cell-ends.ensures in
    let o = out-same v in
    let q = c.well_formed.1.1.0 in
    omega arith

pub overflow_add-at : goal.overflow_add-at
overflow_add-at c =
    let v = c.loop-cell.invariant in
    let e = turn-noted v c.loop-cell-test.true c.block-b.ensures c.put_cell-ends.ensures in
    let o = report-same v in
    let q = c.well_formed.1.1.1.0 in
    omega arith

pub loop-cell-preserved : goal.loop-cell-preserved
loop-cell-preserved c = turn-next c.loop-cell.invariant c.loop-cell-test.true c.block-b.ensures c.put_cell-ends.ensures

pub returns : goal.returns
returns c = turns-end c.loop-cell.invariant c.loop-cell-test.false
