-- `reference::put_sref` meets its contract, record by record. Assumes nothing.
use native.Mathlib.Omega.{arith}
use Rattle.reference.proofs.RecordLaws.{name-long, name-room, strans-room, rest-room, sref-placed}
use Rattle.reference.specs.code.Reference.{single_rest}
use Rattle.reference.proofs.put_sref.Goals as goal

pub put_string_at-a2-requires : goal.put_string_at-a2-requires
put_string_at-a2-requires c =
    let a = c.args in
    let p = c.requires in
    let q = p.bounded.name in
    let l = name-long a.b.now a.s a.strans p.name_in_bounds _ c.string_at.ensures in
    record { s_len_bound = omega arith; s_in_bounds = name-room a.b.now a.s a.strans p.name_in_bounds _ c.string_at.ensures single_rest p.single_rest_in_bounds c.put_empty_at-a.ensures }

pub put_at-a3-requires : goal.put_at-a3-requires
put_at-a3-requires c =
    let a = c.args in
    let p = c.requires in
    strans-room a.b.now a.s a.strans p.name_in_bounds _ c.string_at.ensures single_rest p.single_rest_in_bounds c.put_empty_at-a.ensures c.put_string_at-a2.ensures

pub put_xy_at-requires : goal.put_xy_at-requires
put_xy_at-requires c =
    let a = c.args in
    let p = c.requires in
    rest-room a.b.now a.s a.strans p.name_in_bounds _ c.string_at.ensures single_rest p.single_rest_in_bounds c.put_empty_at-a.ensures c.put_string_at-a2.ensures c.put_at-a3.ensures

pub returns : goal.returns
returns c =
    let a = c.args in
    sref-placed a.b.now a.s a.strans c.requires.name_in_bounds _ c.string_at.ensures a.point c.put_empty_at-a.ensures c.put_string_at-a2.ensures c.put_at-a3.ensures c.put_xy_at.ensures
