-- Nothing where no entry stands, else its lead and its 33 bytes (PutLaws). Assumes nothing.
use native.Mathlib.Omega.{arith}
use lib.ListN.{length}
use Rattle.walk.proofs.PutLaws.{entry-none, entry-room, entry-put}
use Rattle.walk.proofs.put_entry.Goals as goal

pub returns-then-entry-eq0 : goal.returns-then-entry-eq0
returns-then-entry-eq0 c =
    entry-none c.args.lead.now c.args.entry c.args.report.now c.args.at c.if-entry-eq0.true c.requires

pub put-requires : goal.put-requires
put-requires c =
    let r = entry-room c.args.lead.now c.args.entry c.if-entry-eq0.false c.args.at (length c.args.report.now) c.requires in
    let w = c.put_bytes_at-from.ensures in
    let e = w.end in
    let l = w.long in
    omega arith

pub returns : goal.returns
returns c =
    entry-put c.args.lead.now c.args.entry c.if-entry-eq0.false c.put_bytes_at-from.ensures.wrote c.put.ensures
