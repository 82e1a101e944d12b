-- `reference::put_aref` meets its contract, record by record. Assumes nothing.
use native.Mathlib.Omega.{arith}
use Rattle.reference.proofs.RecordLaws.{name-long, name-room, strans-room, rest-room, aref-placed}
use Rattle.reference.specs.code.Reference.{array_rest}
use Rattle.reference.proofs.put_aref.Goals as goal

pub put_string_at-a2-requires : goal.put_string_at-a2-requires
put_string_at-a2-requires c =
    let a = c.args in
    let p = c.requires in
    let q = p.bounded.name in
    let l = name-long a.b.now a.s a.strans p.name_in_bounds _ c.string_at.ensures in
    record { s_len_bound = omega arith; s_in_bounds = name-room a.b.now a.s a.strans p.name_in_bounds _ c.string_at.ensures array_rest p.array_rest_in_bounds c.put_empty_at-a.ensures }

pub put_at-a3-requires : goal.put_at-a3-requires
put_at-a3-requires c =
    let a = c.args in
    let p = c.requires in
    strans-room a.b.now a.s a.strans p.name_in_bounds _ c.string_at.ensures array_rest p.array_rest_in_bounds c.put_empty_at-a.ensures c.put_string_at-a2.ensures

pub put_colrow_at-a4-requires : goal.put_colrow_at-a4-requires
put_colrow_at-a4-requires c =
    let a = c.args in
    let p = c.requires in
    let r = rest-room a.b.now a.s a.strans p.name_in_bounds _ c.string_at.ensures array_rest p.array_rest_in_bounds c.put_empty_at-a.ensures c.put_string_at-a2.ensures c.put_at-a3.ensures in
    omega arith

pub put_corners_at-requires : goal.put_corners_at-requires
put_corners_at-requires c =
    let a = c.args in
    let p = c.requires in
    let r = rest-room a.b.now a.s a.strans p.name_in_bounds _ c.string_at.ensures array_rest p.array_rest_in_bounds c.put_empty_at-a.ensures c.put_string_at-a2.ensures c.put_at-a3.ensures in
    let e = c.put_colrow_at-a4.ensures.end in
    let k = c.put_colrow_at-a4.ensures.long in
    omega arith

pub returns : goal.returns
returns c =
    let a = c.args in
    aref-placed a.b.now a.s a.strans c.requires.name_in_bounds _ c.string_at.ensures a.c c.requires.c_value c.put_empty_at-a.ensures c.put_string_at-a2.ensures c.put_at-a3.ensures c.put_colrow_at-a4.ensures c.put_corners_at.ensures
