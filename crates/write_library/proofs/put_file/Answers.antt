-- The file's own records, the cells in turn, then ENDLIB (PutFileLaws). Assumes nothing.
use native.Mathlib.Omega.{arith}
use Rattle.write_library.proofs.PutFileLaws.{same-fits, file-pairs, head-block, never-refused, parts_in, head-fits, start-in, cells_fit, end-within, end_fits, puts-file}
use Rattle.write_library.proofs.put_file.Goals as goal

pub fitting-sheet-requires : goal.fitting-sheet-requires
fitting-sheet-requires c = file-pairs c.args.out.now c.args.report.now c.requires

pub block-b-requires : goal.block-b-requires
block-b-requires c = head-block c.args.out.now c.args.report.now (same-fits c.fitting-sheet.ensures c.requires)

pub put_head-start-requires : goal.put_head-start-requires
put_head-start-requires c = record {
  head_in = parts_in c.args.out.now c.args.report.now (same-fits c.fitting-sheet.ensures c.requires) c.block-b.ensures c.in-Ok.ensures;
  parts_in_bounds = head-fits c.args.out.now c.args.report.now (same-fits c.fitting-sheet.ensures c.requires) c.block-b.ensures c.in-Ok.ensures;
}

pub slice_bounds-put_cells-count : goal.slice_bounds-put_cells-count
slice_bounds-put_cells-count c = start-in c.args.out.now c.args.report.now (same-fits c.fitting-sheet.ensures c.requires) c.block-b.ensures c.in-Ok.ensures c.put_head-start.ensures

pub put_cells-ends-requires : goal.put_cells-ends-requires
put_cells-ends-requires c = cells_fit c.args.out.now c.args.report.now (same-fits c.fitting-sheet.ensures c.requires) c.block-b.ensures c.in-Ok.ensures c.put_head-start.ensures

pub overflow_add-start : goal.overflow_add-start
overflow_add-start c =
    let e = end-within c.args.out.now c.args.report.now (same-fits c.fitting-sheet.ensures c.requires) c.block-b.ensures c.in-Ok.ensures c.put_head-start.ensures c.put_cells-ends.ensures in
    let q = c.well_formed.1.1.0 in
    omega arith

pub put_empty_at-end-requires : goal.put_empty_at-end-requires
put_empty_at-end-requires c = end_fits c.args.out.now c.args.report.now (same-fits c.fitting-sheet.ensures c.requires) c.block-b.ensures c.in-Ok.ensures c.put_head-start.ensures c.put_cells-ends.ensures

pub returns-in-Err : goal.returns-in-Err
returns-in-Err c = never-refused c.args.out.now c.args.report.now (same-fits c.fitting-sheet.ensures c.requires) c.block-b.ensures c.in-Err.ensures

pub returns-in-Ok : goal.returns-in-Ok
returns-in-Ok c = rw (← c.fitting-sheet.ensures) (puts-file c.args.out.now c.args.report.now (same-fits c.fitting-sheet.ensures c.requires) c.block-b.ensures c.in-Ok.ensures c.put_head-start.ensures c.put_cells-ends.ensures c.put_empty_at-end.ensures)
