-- Every block in turn: what is left stands at the places reached (PutLaws). Assumes nothing.
use Rattle.walk.proofs.PutLaws.{turns-start, turns-end, turn-fits, turn-report, turn-next}
use Rattle.walk.proofs.put_elements.Goals as goal

pub loop-next-init : goal.loop-next-init
loop-next-init c = let n = c.count-next-end.ensures in turns-start n.fits n.value c.requires

pub put_element-written-requires : goal.put_element-written-requires
put_element-written-requires c = turn-fits c.loop-next.invariant c.loop-next-test.true c.block-b.ensures

pub put_entry-at-requires : goal.put_entry-at-requires
put_entry-at-requires c =
    turn-report c.loop-next.invariant c.loop-next-test.true c.block-b.ensures c.put_element-written.ensures

pub loop-next-preserved : goal.loop-next-preserved
loop-next-preserved c =
    turn-next c.loop-next.invariant c.loop-next-test.true c.block-b.ensures c.put_element-written.ensures c.put_entry-at.ensures

pub returns : goal.returns
returns c = turns-end c.loop-next.invariant c.loop-next-test.false
