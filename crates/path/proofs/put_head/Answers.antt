-- `path::put_head` meets its contract: six pieces in a row, two of which may be missing. Assumes nothing.
use Rattle.path.proofs.LengthLaws.{head_at}
use Rattle.path.proofs.put_head.Goals as goal

pub returns : goal.returns
returns c =
    let a = c.args in
    let t = c.path_type in
    rw (← t.ensures)
    (head_at a.path.layer a.path.datatype t.result a.extent a.path.points.count
    c.put_empty_at-a1.ensures
    c.put_word_at-a2.ensures
    c.put_word_at-a3.ensures
    c.put_opt_word_at-a4.ensures
    c.put_extent-a5.ensures
    c.put_head_at.ensures)
