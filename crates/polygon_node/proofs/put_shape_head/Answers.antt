-- `polygon_node::put_shape_head` meets its contract: four pieces in a row. Assumes nothing.
use Rattle.records.proofs.RecordLaws.{then-placed}
use Rattle.polygon_node.proofs.put_shape_head.Goals as goal

pub returns : goal.returns
returns c =
    then-placed c.put_empty_at-a.ensures (then-placed c.put_word_at-b.ensures (then-placed c.put_word_at-c.ensures c.put_head_at.ensures))
