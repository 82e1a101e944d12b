-- BGNSTR from the block's own bytes, then STRNAME (PutHeadLaws). Assumes nothing.
use mathlib.Core.Path.{ap}
use native.Mathlib.Omega.{arith}
use borrow.Author.Rules.{rules}
use lib.ListN.{length}
use Rattle.walk.proofs.PutHeadLaws.{head-room, head-put}
use Rattle.walk.proofs.StampsLaws.{stamps-length}
use Rattle.walk.proofs.put_head.Goals as goal

pub put_stamps_at-to-requires : goal.put_stamps_at-to-requires
put_stamps_at-to-requires c =
    let a = c.args in
    let r = head-room a.b.now a.places (length a.out.now) c.requires.places_in_bounds in
    record { stamps_len = stamps-length a.b.now a.places.stamps c.requires.head_in.stamps-in; stamps_record_length_in_bounds = omega arith }

pub put_string_at-requires : goal.put_string_at-requires
put_string_at-requires c =
    let a = c.args in
    let r = head-room a.b.now a.places (length a.out.now) c.requires.places_in_bounds in
    let h = c.put_stamps_at-to.ensures in
    let e = h.end in
    let l = h.long in
    let n = ap length c.string_at.ensures in
    let o = c.requires.name_len_bound in
    record { s_len_bound = omega arith; s_in_bounds = omega arith }

pub returns : goal.returns
returns c =
    let a = c.args in
    head-put a.b.now a.places (λ i. let f = c.type_inv.b i in search rules) c.requires.head_in.stamps-in c.string_at.ensures c.put_stamps_at-to.ensures c.put_string_at.ensures
