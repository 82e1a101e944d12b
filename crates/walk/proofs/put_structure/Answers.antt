-- The head, the blocks in turn, then ENDSTR (StructureLaws). Assumes nothing.
use borrow.Author.Rules.{rules}
use Rattle.walk.proofs.StructureLaws.{sheet-pairs, head-block, never-ill, name-most, head-fits, elements-fit, end-within, end_fits, puts-structure}
use Rattle.walk.proofs.put_structure.Goals as goal

pub fitting-sheet-requires : goal.fitting-sheet-requires
fitting-sheet-requires c = sheet-pairs c.args.lead.now c.args.out.now c.args.report.now c.requires

pub block-b-requires : goal.block-b-requires
block-b-requires c = head-block c.args.lead.now c.args.out.now c.args.report.now c.requires c.fitting-sheet.ensures

pub put_head-start-requires-clause-name_len_bound : goal.put_head-start-requires-clause-name_len_bound
put_head-start-requires-clause-name_len_bound c =
    name-most c.args.lead.now c.args.out.now c.args.report.now c.requires c.fitting-sheet.ensures c.block-b.ensures c.in-Some.ensures

pub put_head-start-requires-clause-places_in_bounds : goal.put_head-start-requires-clause-places_in_bounds
put_head-start-requires-clause-places_in_bounds c =
    head-fits c.args.lead.now c.args.out.now c.args.report.now c.requires c.fitting-sheet.ensures c.block-b.ensures c.in-Some.ensures

pub put_elements-ends-requires : goal.put_elements-ends-requires
put_elements-ends-requires c =
    elements-fit c.args.lead.now c.args.out.now c.args.report.now c.requires c.fitting-sheet.ensures c.block-b.ensures c.in-Some.ensures c.put_head-start.ensures

pub overflow_add-start : goal.overflow_add-start
overflow_add-start c =
    let e = end-within c.args.lead.now c.args.out.now c.args.report.now c.requires c.fitting-sheet.ensures c.block-b.ensures c.in-Some.ensures c.put_head-start.ensures c.put_elements-ends.ensures in
    search rules

pub put_empty_at-end-requires : goal.put_empty_at-end-requires
put_empty_at-end-requires c =
    end_fits c.args.lead.now c.args.out.now c.args.report.now c.requires c.fitting-sheet.ensures c.block-b.ensures c.in-Some.ensures c.put_head-start.ensures c.put_elements-ends.ensures

pub returns-in-None : goal.returns-in-None
returns-in-None c = never-ill c.args.lead.now c.args.out.now c.args.report.now c.requires c.fitting-sheet.ensures c.block-b.ensures c.in-None.ensures

pub returns-in-Some : goal.returns-in-Some
returns-in-Some c =
    puts-structure c.args.lead.now c.args.out.now c.args.report.now c.requires c.fitting-sheet.ensures c.block-b.ensures c.in-Some.ensures c.put_head-start.ensures c.put_elements-ends.ensures c.put_empty_at-end.ensures
