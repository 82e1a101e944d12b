-- HEADER, BGNLIB from the block's own bytes, LIBNAME, UNITS (PutLaws). Assumes nothing.
use mathlib.Core.Path.{ap}
use native.Mathlib.Omega.{arith}
use lib.ListN.{length}
use Rattle.walk.proofs.StampsLaws.{stamps-length}
use Rattle.library_head.proofs.PutLaws.{head-room, head-put}
use Rattle.library_head.proofs.put_head.Goals as goal

pub put_word_at-version-requires : goal.put_word_at-version-requires
put_word_at-version-requires c =
    let r = head-room c.args.b.now c.args.parts (length c.args.out.now) c.requires.parts_in_bounds in
    omega arith

pub put_stamps_at-begin-requires : goal.put_stamps_at-begin-requires
put_stamps_at-begin-requires c =
    let a = c.args in
    let r = head-room a.b.now a.parts (length a.out.now) c.requires.parts_in_bounds in
    let e = c.put_word_at-version.ensures.end in
    let l = c.put_word_at-version.ensures.long in
    record { stamps_len = stamps-length a.b.now a.parts.stamps c.requires.head_in.stamps-in; stamps_record_length_in_bounds = omega arith }

pub put_string_at-name-requires : goal.put_string_at-name-requires
put_string_at-name-requires c =
    let a = c.args in
    let r = head-room a.b.now a.parts (length a.out.now) c.requires.parts_in_bounds in
    let e = c.put_word_at-version.ensures.end in
    let l = c.put_word_at-version.ensures.long in
    let f = c.put_stamps_at-begin.ensures.end in
    let m = c.put_stamps_at-begin.ensures.long in
    let n = ap length c.string_at.ensures in
    let o = c.requires.head_in.name-short in
    record { s_len_bound = omega arith; s_in_bounds = omega arith }

pub put_units_at-requires : goal.put_units_at-requires
put_units_at-requires c =
    let a = c.args in
    let r = head-room a.b.now a.parts (length a.out.now) c.requires.parts_in_bounds in
    let e = c.put_word_at-version.ensures.end in
    let l = c.put_word_at-version.ensures.long in
    let f = c.put_stamps_at-begin.ensures.end in
    let m = c.put_stamps_at-begin.ensures.long in
    let g = c.put_string_at-name.ensures.end in
    let o = c.put_string_at-name.ensures.long in
    let q = ap length c.string_at.ensures in
    omega arith

pub returns : goal.returns
returns c =
    let a = c.args in
    head-put a.b.now a.parts (λ i. omega (arith, c.shared_slice_known-1.given i)) c.requires.head_in.stamps-in c.string_at.ensures c.put_word_at-version.ensures c.put_stamps_at-begin.ensures c.put_string_at-name.ensures c.put_units_at.ensures
