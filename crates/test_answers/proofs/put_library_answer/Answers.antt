-- `test_answers::put_library_answer` meets its contract: what is accepted has room, and is what the definition says. Assumes nothing.
use mathlib.Core.Path.{sym, ap, ◌∙◌}
use Prim.Native.Nat.{ℕ, ◌*◌}
use native.Mathlib.Omega.{arith}
use lib.ListN.{take, length-take}
use lib.Seq.{length-take-le}
use Rattle.big_endian.proofs.BufferLaws.{same_bytes}
use Rattle.write_library.proofs.RoomLaws.{writes-room}
use Rattle.test_bytes.specs.Bytes.{library_refused_bytes}
use Rattle.test_answers.proofs.AnswerLaws.{library-refused-bytes, library-accepted-bytes, by_length, zeros-length}
use Rattle.test_answers.proofs.put_library_answer.Goals as goal

-- what was accepted has room
pub overflow_mul-report : goal.overflow_mul-report
overflow_mul-report c =
    let h = writes-room c.write_library.ensures c.in-Ok.is in
    omega arith

pub slice_bounds-report-end : goal.slice_bounds-report-end
slice_bounds-report-end c =
    let h = writes-room c.write_library.ensures c.in-Ok.is in
    omega arith

pub slice_bounds-told-end : goal.slice_bounds-told-end
slice_bounds-told-end c =
    let w = c.write_library in
    let h = writes-room w.ensures c.in-Ok.is in
    sym (length-take-le (37 * c.in-Ok.a.entries) w.new.report (omega arith))

pub slice_bounds-out-end : goal.slice_bounds-out-end
slice_bounds-out-end c =
    let h = writes-room c.write_library.ensures c.in-Ok.is in
    omega arith

pub slice_bounds-put_accepted-end : goal.slice_bounds-put_accepted-end
slice_bounds-put_accepted-end c =
    let w = c.write_library in
    let h = writes-room w.ensures c.in-Ok.is in
    sym (length-take-le c.in-Ok.a.length w.new.out (omega arith))

pub put_accepted-requires : goal.put_accepted-requires
put_accepted-requires c =
    let w = c.write_library in
    let h = writes-room w.ensures c.in-Ok.is in
    let a = length-take c.in-Ok.a.length w.new.out in
    let b = length-take (37 * c.in-Ok.a.entries) w.new.report in
    record { bytes_len_bound = omega arith; entries_bound = omega arith; told_in_bounds = omega arith }

pub returns-in-Err : goal.returns-in-Err
returns-in-Err c =
    same_bytes (ap (λ (n : ℕ). library_refused_bytes n c.in-Err.e.cell c.in-Err.e.block) c.number.ensures ∙ library-refused-bytes c.in-Err.e c.in-Err.ensures (sym (zeros-length 65536)) (sym (zeros-length 16384)))
    c.put_library_refused.ensures

pub returns-in-Ok : goal.returns-in-Ok
returns-in-Ok c =
    let w = c.write_library in
    let a = c.in-Ok.a in
    let h = writes-room w.ensures c.in-Ok.is in
    let n = length-take-le a.length w.new.out (omega arith) in
    same_bytes (by_length a.entries a.greatest (take a.length w.new.out) (take (37 * a.entries) w.new.report) n ∙ library-accepted-bytes a c.in-Ok.ensures (sym (zeros-length 65536)) (sym (zeros-length 16384)))
    c.put_accepted.ensures
