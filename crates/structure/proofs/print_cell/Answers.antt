-- `structure::print_cell` meets its contract: what is accepted has room. Assumes nothing.
use mathlib.Core.Path.{sym}
use native.Mathlib.Omega.{arith}
use lib.ListN.{length-take}
use lib.Seq.{length-take-le}
use Rattle.write_cell.proofs.RoomLaws.{writes-room}
use Rattle.structure.proofs.print_cell.Goals as goal

pub slice_bounds-out-end : goal.slice_bounds-out-end
slice_bounds-out-end c = let h = writes-room c.write_cell.ensures c.in-Ok.is in omega arith

pub slice_bounds-print_bytes-end : goal.slice_bounds-print_bytes-end
slice_bounds-print_bytes-end c = let h = writes-room c.write_cell.ensures c.in-Ok.is in sym (length-take-le _ _ (omega arith))

pub print_bytes-requires : goal.print_bytes-requires
print_bytes-requires c = let h = writes-room c.write_cell.ensures c.in-Ok.is in simp length-take (omega arith)

pub print_entries-requires : goal.print_entries-requires
print_entries-requires c =
    let h = writes-room c.write_cell.ensures c.in-Ok.is in omega arith
