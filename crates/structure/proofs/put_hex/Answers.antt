-- `structure::put_hex` meets its contract. Assumes nothing.
use native.Mathlib.Omega.{arith}
use Rattle.structure.proofs.HexLaws.{put-start, put-turn, put-end}
use Rattle.structure.proofs.put_hex.Goals as goal

pub loop-i-init : goal.loop-i-init
loop-i-init c = put-start c.args.bytes.now c.args.text.now

pub loop-i-preserved : goal.loop-i-preserved
loop-i-preserved c =
    let l = c.loop-i in
    put-turn _ _ l.text l.i c.digit.result c.digit-in-loop-i.result l.invariant c.loop-i-test.true c.requires c.digit.ensures c.digit-in-loop-i.ensures

pub returns : goal.returns
returns c =
    let e = c.loop-i.auto.i-end in
    let f = c.loop-i-test.false in
    put-end _ _ c.loop-i.text c.loop-i.i c.loop-i.invariant (omega arith)
